use Rattle.std.proofs.Common.{◌≡◌, ◌<◌, ◌+◌, [], ◌∷◌, length, suc, drop, sym, refl, subst, arith}
use Rattle.std.proofs.lemmas.List.{set_split, length-drop}
use Rattle.link.specs.Steps.{RunsOn}
use Rattle.frames.specs.Standing.{StandsAt}
use Rattle.frames.specs.declared.receiving.FrameReceiver.{FrameReceiver}
use Rattle.frames.proofs.StandingLemmas.{kept_run}
use Rattle.frames.proofs.BytesLemmas.{at_on, no_zero_byte}
use Rattle.frames.proofs.receiving.FrameReceiver.take_byte.Goals as goal

pub returns-clause-at : goal.returns-clause-at
returns-clause-at c limit s b i =
    let r = c.args.self.now in
    let buffer = c.args.buffer.now in
    let byte = c.args.byte in
    let later : FrameReceiver = record { count = r.count + 1; past = r.past; sentinel = r.sentinel } in
    let near : r.count < length buffer = omega (arith, c.requires, c.if-self-buffer.false) in
    let rest = drop (suc r.count) buffer in
    let sum : length rest + length (byte ∷ []) + r.count ≡ length buffer = omega (arith, near, length-drop (suc r.count) buffer) in
    let run = kept_run limit s r buffer b (byte ∷ []) rest later c.if-self-ne0.false i (no_zero_byte s byte r.sentinel i.terms.sentinel c.if-byte-self.false) (omega (arith, near)) sum refl in
    at_on limit s b byte (StandsAt limit s later _) buffer (subst (λ x. RunsOn limit s b (byte ∷ []) (StandsAt limit s later x)) (sym (set_split buffer r.count byte near)) run)

use Rattle.std.proofs.Common.{◌≡◌, ◌<◌, [], length, take, arith, sym, ap, subst}
use Rattle.cobs.specs.Frames.{Frame}
use Rattle.cobs.specs.Sentinel.{masked}
use Rattle.link.specs.Lemmas.MaskLaws.{masked_length}
use Rattle.frames.proofs.StandingLemmas.{stretch_of, some_bytes}
use Rattle.frames.proofs.receiving.take_whole.Goals as goal

pub returns-in-Ok-clause-found : goal.returns-in-Ok-clause-found
returns-in-Ok-clause-found c =
    let p = masked c.args.sentinel c.args.stretch.now in
    let e = stretch_of p c.requires.clear in
    let some : 0 < length p = omega (arith, c.requires.some, masked_length c.args.sentinel c.args.stretch.now) in
    subst (λ x. Frame x (take c.in-Ok.length c.decode_with_sentinel.new.dest)) e (c.in-Ok.ensures.frame (subst (λ x. x ≡ [] → ⊥) (sym e) (some_bytes p some)))

pub returns-in-Err-clause-found : goal.returns-in-Err-clause-found
returns-in-Err-clause-found c m f =
    let p = masked c.args.sentinel c.args.stretch.now in
    let e = stretch_of p c.requires.clear in
    let far = c.in-Err.ensures.no_frame m (subst (λ x. Frame x m) (sym e) f) in
    omega (arith, far, ap length (c.message_of_a_frame.ensures.one p m f), c.shorter.ensures p, masked_length c.args.sentinel c.args.stretch.now, c.requires.some, c.requires.room)

use Rattle.std.proofs.Common.{◌≡◌, ◌≤◌, ◌+◌, ◌++◌, length, arith, sym, refl, subst}
use Rattle.link.specs.Steps.{RunsOn}
use Rattle.frames.specs.Standing.{StandsAt}
use Rattle.frames.specs.declared.receiving.FrameReceiver.{FrameReceiver}
use Rattle.frames.proofs.StandingLemmas.{over_run, past_run, kept_run}
use Rattle.frames.proofs.receiving.FrameReceiver.take_run.Goals as goal

pub returns-then-self-ne0-clause-runs : goal.returns-then-self-ne0-clause-runs
returns-then-self-ne0-clause-runs c limit s b z i = over_run limit s _ _ b c.args.run.now c.if-self-ne0.true i z

pub returns-then-run-left-clause-runs : goal.returns-then-run-left-clause-runs
returns-then-run-left-clause-runs c limit s b z i = past_run limit s c.args.self.now c.args.buffer.now b c.args.run.now _ c.if-self-ne0.false i z (omega (arith, c.if-run-left.true)) refl refl refl

pub returns-clause-runs : goal.returns-clause-runs
returns-clause-runs c limit s b z i =
    let r = c.args.self.now in
    let buffer = c.args.buffer.now in
    let run = c.args.run.now in
    let front = c.split_at_mut-rest.result.0.now in
    let back = c.split_at_mut-place.result.1.now in
    let later : FrameReceiver = record { count = r.count + length run; past = r.past; sentinel = r.sentinel } in
    let near : r.count + length run ≤ length buffer = omega (arith, c.if-run-left.false, c.requires) in
    let sum : length back + length run + r.count ≡ length buffer = omega (arith, c.split_at_mut-rest.ensures.back_len, c.split_at_mut-place.ensures.back_len, near) in
    let h = kept_run limit s r buffer b run back later c.if-self-ne0.false i z near sum refl in
    let k = subst (λ x. RunsOn limit s b run (StandsAt limit s later (x ++ (run ++ back)))) (sym c.split_at_mut-rest.ensures.front) h in
    subst (λ y. RunsOn limit s b run (StandsAt limit s later (front ++ (y ++ back)))) (sym c.copy_from_slice.ensures.after) k

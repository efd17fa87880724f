use Rattle.std.proofs.Common.{◌≡◌, take, ◌∙◌, arith}
use Rattle.std.proofs.lemmas.Grind.{common_steps}
use Rattle.line_io.specs.Calls.{Gave-then, read_some}
use Rattle.line_io.proofs.transfers.read_to_end.Goals as goal

pub returns-then-is_err-clause-memory : goal.returns-then-is_err-clause-memory
returns-then-is_err-clause-memory g c h =
    let i = c.loop-n.invariant in
    let same : c.extend_from_slice.new.self.items ≡ c.loop-n.bytes.items = grind (arith, common_steps) in
    let some = read_some (g.R.Inlet.line c.loop-n.inlet).calls_left c.in-Some.n in
    let quiet = rw some at c.in-Some.ensures.faults in (
      i.text,
      take c.in-Some.n c.read_over.new.room,
      same ∙ i.are,
      (Gave-then _ _ _ _ _ i.gave c.in-Some.ensures.bytes, quiet ∙ (let e = i.quiet in omega arith)),
      (grind (arith, common_steps), grind (arith, common_steps), grind (arith, common_steps)),
    )

pub returns-in-None-clause-ended : goal.returns-in-None-clause-ended
returns-in-None-clause-ended g c = grind (arith, common_steps)

pub returns-in-None-clause-failed : goal.returns-in-None-clause-failed
returns-in-None-clause-failed g c = grind (arith, common_steps)

pub returns-in-None-clause-few : goal.returns-in-None-clause-few
returns-in-None-clause-few g c = grind (arith, common_steps)

pub returns-then-is_err-clause-few : goal.returns-then-is_err-clause-few
returns-then-is_err-clause-few g c = grind (arith, common_steps)

pub returns-in-Some-eq0-clause-few : goal.returns-in-Some-eq0-clause-few
returns-in-Some-eq0-clause-few g c = grind (arith, common_steps)

pub loop-n-preserved : goal.loop-n-preserved
loop-n-preserved g c = grind (arith, common_steps)

use Rattle.std.proofs.Common.{arith}
use Rattle.std.proofs.lemmas.Grind.{common_steps}
use Rattle.line_io.proofs.memory.OutOutlet.write.Goals as goal

pub returns-then-self-eq0-clause-buffer : goal.returns-then-self-eq0-clause-buffer
returns-then-self-eq0-clause-buffer c = grind (arith, common_steps)

pub returns-then-is_empty-clause-buffer : goal.returns-then-is_empty-clause-buffer
returns-then-is_empty-clause-buffer c = grind (arith, common_steps)

pub returns-in-Fail-clause-buffer : goal.returns-in-Fail-clause-buffer
returns-in-Fail-clause-buffer c = grind (arith, common_steps)

pub returns-in-Nothing-clause-buffer : goal.returns-in-Nothing-clause-buffer
returns-in-Nothing-clause-buffer c = grind (arith, common_steps)

pub returns-then-count-eq0-clause-buffer : goal.returns-then-count-eq0-clause-buffer
returns-then-count-eq0-clause-buffer c = grind (arith, common_steps)

pub returns-clause-bytes : goal.returns-clause-bytes
returns-clause-bytes c = grind (arith, common_steps)

pub returns-clause-buffer : goal.returns-clause-buffer
returns-clause-buffer c = grind (arith, common_steps)

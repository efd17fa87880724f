use Rattle.std.proofs.Common.{arith}
use Rattle.std.proofs.lemmas.Grind.{common_steps}
use Rattle.line_io.proofs.memory.InInlet.read.Goals as goal

pub returns-clause-bytes : goal.returns-clause-bytes
returns-clause-bytes c = grind (arith, common_steps)

pub returns-clause-end : goal.returns-clause-end
returns-clause-end c = grind (arith, common_steps)

pub returns-clause-past : goal.returns-clause-past
returns-clause-past c = grind (arith, common_steps)

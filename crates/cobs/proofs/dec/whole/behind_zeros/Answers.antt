use Rattle.std.proofs.Common.{arith}
use Rattle.std.proofs.lemmas.Grind.{common_steps}
use Rattle.cobs.proofs.dec.whole.behind_zeros.Goals as goal

pub returns-then-byte-ne0-clause-value : goal.returns-then-byte-ne0-clause-value
returns-then-byte-ne0-clause-value c = grind (arith, common_steps)

pub loop-start-preserved : goal.loop-start-preserved
loop-start-preserved c = grind (arith, common_steps)

pub returns-clause-value : goal.returns-clause-value
returns-clause-value c = grind (arith, common_steps)

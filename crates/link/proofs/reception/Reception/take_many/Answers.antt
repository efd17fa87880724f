use Rattle.std.proofs.Common.{arith}
use Rattle.std.proofs.lemmas.Grind.{common_steps}
use Rattle.link.specs.Lemmas.RunLaws.{at_whole, taken_whole}
use Rattle.link.proofs.reception.Reception.take_many.Goals as goal

pub returns-clause-at : goal.returns-clause-at
returns-clause-at g c limit s b h = at_whole limit s b c.args.piece.now c.loop-at.at _ (omega arith) (c.loop-at.invariant.turns limit s b h)

pub returns-clause-taken : goal.returns-clause-taken
returns-clause-taken g c limit s b h = taken_whole limit s b c.args.piece.now c.loop-at.at _ (omega arith) (c.loop-at.invariant.turns limit s b h) _ (omega arith)

pub loop-at-preserved : goal.loop-at-preserved
loop-at-preserved g c = grind (arith, common_steps)

use Rattle.std.proofs.Common.{arith}
use Rattle.std.proofs.lemmas.Grind.{common_steps}
use Rattle.cobs.proofs.enc.encoder.CobsEncoder.new_with_sentinel.Goals as goal

pub begin_with_sentinel-front-requires : goal.begin_with_sentinel-front-requires
begin_with_sentinel-front-requires c = grind (arith, common_steps)

pub invariant_of-result : goal.invariant_of-result
invariant_of-result c = grind (arith, common_steps)

pub returns-clause-message : goal.returns-clause-message
returns-clause-message c = grind (arith, common_steps)

pub returns-clause-ready : goal.returns-clause-ready
returns-clause-ready c = grind (arith, common_steps)

pub returns-clause-room : goal.returns-clause-room
returns-clause-room c = grind (arith, common_steps)

pub returns-clause-lent : goal.returns-clause-lent
returns-clause-lent c = grind (arith, common_steps)

pub returns-clause-sentinel : goal.returns-clause-sentinel
returns-clause-sentinel c = grind (arith, common_steps)

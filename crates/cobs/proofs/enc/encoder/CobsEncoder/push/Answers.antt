use Rattle.std.proofs.Common.{arith}
use Rattle.std.proofs.lemmas.Grind.{common_steps}
use Rattle.cobs.proofs.enc.encoder.CobsEncoder.push.Goals as goal

pub slice_bounds-push-end : goal.slice_bounds-push-end
slice_bounds-push-end c = grind (arith, common_steps)

pub push-pushed-requires : goal.push-pushed-requires
push-pushed-requires c = grind (arith, common_steps)

pub invariant_of-self : goal.invariant_of-self
invariant_of-self c = record { stands = c.push-pushed.ensures.stands }

pub returns-clause-ok : goal.returns-clause-ok
returns-clause-ok c = c.push-pushed.ensures.ok

pub returns-clause-err : goal.returns-clause-err
returns-clause-err c = c.push-pushed.ensures.err

pub returns-clause-nothing : goal.returns-clause-nothing
returns-clause-nothing c = c.push-pushed.ensures.nothing

pub returns-clause-room : goal.returns-clause-room
returns-clause-room c = grind (arith, common_steps)

pub returns-clause-lent : goal.returns-clause-lent
returns-clause-lent c = grind (arith, common_steps)

pub returns-clause-sentinel : goal.returns-clause-sentinel
returns-clause-sentinel c = c.push-pushed.ensures.sentinel

use Rattle.std.proofs.Common.{arith}
use Rattle.std.proofs.lemmas.Grind.{common_steps}
use Rattle.cobs.proofs.enc.whole.try_encode.Goals as goal

pub fits-requires : goal.fits-requires
fits-requires c = grind (arith, common_steps)

pub returns-then-not-fits-clause-fits : goal.returns-then-not-fits-clause-fits
returns-then-not-fits-clause-fits c = grind (arith, common_steps)

pub returns-then-not-fits-clause-length : goal.returns-then-not-fits-clause-length
returns-then-not-fits-clause-length c = grind (arith, common_steps)

pub returns-then-not-fits-clause-frame : goal.returns-then-not-fits-clause-frame
returns-then-not-fits-clause-frame c = grind (arith, common_steps)

pub returns-then-not-fits-clause-too_small : goal.returns-then-not-fits-clause-too_small
returns-then-not-fits-clause-too_small c = grind (arith, common_steps)

pub returns-then-not-fits-clause-unchanged : goal.returns-then-not-fits-clause-unchanged
returns-then-not-fits-clause-unchanged c = grind (arith, common_steps)

pub encode-requires : goal.encode-requires
encode-requires c = grind (arith, common_steps)

pub returns-clause-fits : goal.returns-clause-fits
returns-clause-fits c = grind (arith, common_steps)

pub returns-clause-length : goal.returns-clause-length
returns-clause-length c = grind (arith, common_steps)

pub returns-clause-frame : goal.returns-clause-frame
returns-clause-frame c = grind (arith, common_steps)

pub returns-clause-too_small : goal.returns-clause-too_small
returns-clause-too_small c = grind (arith, common_steps)

pub returns-clause-unchanged : goal.returns-clause-unchanged
returns-clause-unchanged c = grind (arith, common_steps)

use Rattle.std.proofs.Common.{arith}
use Rattle.std.proofs.lemmas.Grind.{common_steps}
use Rattle.cobs.proofs.enc.whole.try_encode_including_sentinels.Goals as goal

pub overflow_sub-dest : goal.overflow_sub-dest
overflow_sub-dest c = grind (arith, common_steps)

pub fits-requires : goal.fits-requires
fits-requires c = grind (arith, common_steps)

pub returns-then-dest-lt2-clause-fits : goal.returns-then-dest-lt2-clause-fits
returns-then-dest-lt2-clause-fits c = grind (arith, common_steps)

pub returns-then-dest-lt2-clause-length : goal.returns-then-dest-lt2-clause-length
returns-then-dest-lt2-clause-length c = grind (arith, common_steps)

pub returns-then-dest-lt2-clause-frame : goal.returns-then-dest-lt2-clause-frame
returns-then-dest-lt2-clause-frame c = grind (arith, common_steps)

pub returns-then-dest-lt2-clause-too_small : goal.returns-then-dest-lt2-clause-too_small
returns-then-dest-lt2-clause-too_small c = grind (arith, common_steps)

pub returns-then-dest-lt2-clause-unchanged : goal.returns-then-dest-lt2-clause-unchanged
returns-then-dest-lt2-clause-unchanged c = grind (arith, common_steps)

pub encode_including_sentinels-requires : goal.encode_including_sentinels-requires
encode_including_sentinels-requires c = grind (arith, common_steps)

pub returns-clause-fits : goal.returns-clause-fits
returns-clause-fits c = grind (arith, common_steps)

pub returns-clause-length : goal.returns-clause-length
returns-clause-length c = grind (arith, common_steps)

pub returns-clause-frame : goal.returns-clause-frame
returns-clause-frame c = grind (arith, common_steps)

pub returns-clause-too_small : goal.returns-clause-too_small
returns-clause-too_small c = grind (arith, common_steps)

pub returns-clause-unchanged : goal.returns-clause-unchanged
returns-clause-unchanged c = grind (arith, common_steps)

use Rattle.std.proofs.Common.{arith}
use Rattle.std.proofs.lemmas.Grind.{common_steps}
use Rattle.cobs.proofs.dec.heapless.CobsDecoderHeapless.new_with_vec.Goals as goal

pub loop-array-preserved : goal.loop-array-preserved
loop-array-preserved g c = grind (arith, common_steps)

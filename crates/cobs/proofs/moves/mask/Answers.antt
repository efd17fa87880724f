use Rattle.std.specs.Prelude.{bit_xor}
use Rattle.cobs.proofs.MaskingLemmas.{map_on}
use Rattle.cobs.proofs.moves.mask.Goals as goal

pub loop-byte-preserved : goal.loop-byte-preserved
loop-byte-preserved c = map_on (λ b. bit_xor c.args.sentinel b) c.loop-byte.bytes c.args.bytes.now c.loop-byte.byte-index c.loop-byte-test.true c.loop-byte.invariant

use Rattle.std.proofs.Common.{arith}
use Rattle.frames_small.proofs.SumsLemmas.{byte_begins, bit_moves}
use Rattle.frames_small.proofs.checksum.add_byte.Goals as goal

pub loop-bit-init : goal.loop-bit-init
loop-bit-init c = record {
  moved = byte_begins c.args.state c.args.byte c.from.result c.from.ensures;
  few = omega arith;
}

pub loop-bit-preserved : goal.loop-bit-preserved
loop-bit-preserved c = record {
  moved = bit_moves c.loop-bit.bit c.loop-bit.moved c.add_bit-moved.result _ c.loop-bit-test.true c.add_bit-moved.ensures c.loop-bit.invariant.moved;
  few = omega (arith, c.loop-bit-test.true);
}

use Rattle.std.proofs.Common.{◌≡◌, ◌≤◌, ◌-◌, ◌++◌, length}
use Rattle.std.proofs.Math.ListN.{replicate}
use Rattle.arrayvec.specs.ArrayVec.{array_vec_len}
use Rattle.cobs.proofs.dec.heapless.CobsDecoderHeapless.new_with_vec.Given as goal

abbrev pub invariant-loop-array : goal.invariant-loop-array
invariant-loop-array g l = record {
  within : array_vec_len l.array ≤ g.row.N;
  longer : length l.initial.array.items ≤ length l.array.items;
  zeros : l.array.items ≡ l.initial.array.items ++ replicate (length l.array.items - length l.initial.array.items) 0;
}

abbrev pub decreases-loop-array : goal.decreases-loop-array
decreases-loop-array g l = g.row.N - array_vec_len l.array

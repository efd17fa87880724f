use Rattle.std.proofs.Common.{◌≡◌, ◌++◌, length}
use Rattle.cobs.specs.Held.{pushed, HoldsFrame}
use Rattle.cobs.specs.Sentinel.{masked}
use Rattle.cobs.proofs.codes.put_blocks.Given as goal

abbrev pub invariant-loop-rest : goal.invariant-loop-rest
invariant-loop-rest g l = record {
  holds : HoldsFrame (masked l.sentinel l.dest) l.place.code_at l.place.len;
  pushed_so_far : pushed (masked l.sentinel l.dest) l.place.len ++ l.rest ≡ pushed (masked l.sentinel l.fn.dest) l.fn.at.len ++ l.fn.bytes;
}

abbrev pub decreases-loop-rest : goal.decreases-loop-rest
decreases-loop-rest g l = length l.rest

use Rattle.std.proofs.Common.{◌≡◌, List, ℕ, ◌+◌, ◌<◌, ◌≤◌, ◌++◌, drop}
use Rattle.cobs.specs.Held.{GoesOnFromBlock}
use Rattle.cobs.specs.Codes.{Putting}
use Rattle.cobs.specs.Sentinel.{masked}
use Rattle.cobs.proofs.codes.put_few.Given as goal

abbrev pub invariant-loop-byte : goal.invariant-loop-byte
invariant-loop-byte l = record {
  here : l.here ≡ l.fn.at.len + l.byte-index;
  later : l.fn.at.code_at ≤ l.code_at;
  begins : l.code_at < l.here;
  putting : (m : List ℕ) → GoesOnFromBlock (masked l.sentinel l.fn.dest) l.fn.at.code_at l.fn.at.len m → Putting (masked l.sentinel l.dest) l.code_at l.here (m ++ l.piece) (drop l.byte-index l.piece);
}

use Rattle.std.proofs.Common.{◌≡◌, ℕ, List, ◌+◌, ◌<◌, ◌≤◌, ◌++◌, length}
use Rattle.cobs.specs.Codes.{Open}
use Rattle.cobs.specs.Sentinel.{masked}
use Rattle.cobs.proofs.codes.put_bytes.Given as goal

abbrev pub invariant-loop-rest : goal.invariant-loop-rest
invariant-loop-rest g l = record {
  later : l.fn.at.code_at ≤ l.place.code_at;
  begins : l.place.code_at < l.place.len;
  end : l.place.len + length l.rest ≡ l.fn.at.len + length l.fn.bytes;
  some : 0 < length l.rest;
  whole : (front : List ℕ) × (l.fn.bytes ≡ front ++ l.rest) × ((m : List ℕ) → Open (masked l.sentinel l.fn.dest) l.fn.at.code_at l.fn.at.len m → Open (masked l.sentinel l.dest) l.place.code_at l.place.len (m ++ front));
}

abbrev pub decreases-loop-rest : goal.decreases-loop-rest
decreases-loop-rest g l = length l.rest

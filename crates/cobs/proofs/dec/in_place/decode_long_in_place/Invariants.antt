use Rattle.std.proofs.Common.{◌-◌, ◌≤◌, length}
use Rattle.cobs.proofs.ReadingLemmas.{Reading}
use Rattle.cobs.proofs.dec.in_place.decode_long_in_place.Given as goal

abbrev pub invariant-loop-buf : goal.invariant-loop-buf
invariant-loop-buf g l = record {
  reading : Reading l.sentinel l.fn.buf l.buf l.read l.progress;
  inside : l.read ≤ length l.buf;
}

abbrev pub decreases-loop-buf : goal.decreases-loop-buf
decreases-loop-buf g l = length l.buf - l.read

abbrev pub invariant-loop-read : goal.invariant-loop-read
invariant-loop-read g l = record {
  reading : Reading l.sentinel l.fn.buf l.buf l.read l.progress;
  within : l.read ≤ l.end;
  from : l.initial.read ≤ l.read;
}

abbrev pub decreases-loop-read : goal.decreases-loop-read
decreases-loop-read g l = l.end - l.read

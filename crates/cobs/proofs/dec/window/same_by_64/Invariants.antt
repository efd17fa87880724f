use Rattle.std.proofs.Common.{◌≡◌, ℕ, ◌-◌, ◌<◌, ◌≤◌, get_or, length}
use Rattle.cobs.proofs.dec.window.same_by_64.Given as goal

abbrev pub invariant-loop-end : goal.invariant-loop-end
invariant-loop-end l = record {
  within : l.end ≤ length l.bytes;
  many : 0 < l.end → 64 ≤ l.end;
  same : (k : ℕ) → k < l.end → get_or l.bytes k 0 ≡ l.byte;
}

abbrev pub decreases-loop-end : goal.decreases-loop-end
decreases-loop-end l = length l.bytes - l.end

use Rattle.std.proofs.Common.{ℕ, ◌≢◌, ◌<◌, ◌≤◌, ◌-◌, get_or, length}
use Rattle.cobs.specs.Sentinel.{masked}
use Rattle.cobs.proofs.ShortLemmas.{Entering}
use Rattle.cobs.proofs.dec.whole.take_source.Given as goal

abbrev pub invariant-loop-read : goal.invariant-loop-read
invariant-loop-read g l = record {
  begun : 0 < l.read;
  inside : l.read ≤ length l.source;
  entering : Entering (masked l.sentinel l.source) l.fn.dest l.dest l.read l.progress;
  none : (k : ℕ) → k < l.read → get_or l.source k 0 ≢ l.sentinel;
}

abbrev pub decreases-loop-read : goal.decreases-loop-read
decreases-loop-read g l = length l.source - l.read

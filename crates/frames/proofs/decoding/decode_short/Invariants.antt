use Rattle.std.proofs.Common.{ℕ, ◌-◌, ◌<◌, ◌≤◌, length, get_or}
use Rattle.frames.proofs.DecodingLemmas.{Decodes}
use Rattle.frames.proofs.decoding.decode_short.Given as goal

abbrev pub invariant-loop-at : goal.invariant-loop-at
invariant-loop-at l = record {
  decodes : Decodes l.sentinel l.fn.front l.at l.left l.front;
  within : l.at ≤ length l.fn.front;
  small : (k : ℕ) → get_or l.fn.front k 0 < 256;
}

abbrev pub decreases-loop-at : goal.decreases-loop-at
decreases-loop-at l = length l.fn.front - l.at

use Rattle.std.proofs.Common.{List, ℕ, ◌-◌, ◌≤◌, length}
use Rattle.cobs.specs.Sentinel.{masked}
use Rattle.cobs.specs.Streaming.{HasStreamed}
use Rattle.cobs.proofs.TurnsLemmas.{Turn}
use Rattle.cobs.proofs.dec.progress.Progress.push_piece.Given as goal

abbrev pub invariant-loop-at : goal.invariant-loop-at
invariant-loop-at l = record {
  within : l.at ≤ length l.piece;
  turns : (p : List ℕ) → HasStreamed l.fn.self p → Turn p (masked l.sentinel l.piece) l.fn.buffer l.at l.buffer l.self;
}

abbrev pub decreases-loop-at : goal.decreases-loop-at
decreases-loop-at l = length l.piece - l.at

use Rattle.std.proofs.Common.{◌≡◌, ◌-◌, ◌≤◌, replicate}
use Rattle.cobs.specs.InPlace.{written_over}
use Rattle.cobs.proofs.moves.zero_over.Given as goal

abbrev pub invariant-loop-at : goal.invariant-loop-at
invariant-loop-at l = record {
  within : l.at ≤ l.n;
  over : l.buffer ≡ written_over l.place (replicate l.at 0) l.fn.buffer;
}

abbrev pub decreases-loop-at : goal.decreases-loop-at
decreases-loop-at l = l.n - l.at

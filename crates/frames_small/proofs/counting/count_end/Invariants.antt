use Rattle.std.proofs.Common.{◌-◌, ◌≤◌, length, take}
use Rattle.frames_small.proofs.CountsLemmas.{GoOn}
use Rattle.frames_small.proofs.counting.count_end.Given as goal

abbrev pub invariant-loop-at : goal.invariant-loop-at
invariant-loop-at l = record {
  goes : GoOn (take l.at l.message);
  within : l.at ≤ length l.message;
  few : l.at ≤ 10;
}

abbrev pub decreases-loop-at : goal.decreases-loop-at
decreases-loop-at l = 10 - l.at

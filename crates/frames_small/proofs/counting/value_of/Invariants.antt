use Rattle.std.proofs.Common.{◌≡◌, ◌≤◌, length, drop}
use Rattle.postcard_tree.specs.Number.{grouped_value}
use Rattle.frames_small.proofs.counting.value_of.Given as goal

abbrev pub invariant-loop-at : goal.invariant-loop-at
invariant-loop-at l = record {
  value : l.n ≡ grouped_value (drop l.at l.groups);
  within : l.at ≤ length l.groups;
}

abbrev pub decreases-loop-at : goal.decreases-loop-at
decreases-loop-at l = l.at

use Rattle.std.proofs.Common.{◌+◌, ◌-◌, ◌≤◌, ◌++◌, take, drop}
use Rattle.cobs.specs.Frames.{NoZero}
use Rattle.frames_small.proofs.sending.run_at.Given as goal

abbrev pub invariant-loop-run : goal.invariant-loop-run
invariant-loop-run l = record {
  few : l.run ≤ 254;
  within : l.at + l.run ≤ l.end;
  clear : NoZero (take l.run (drop l.at (l.count ++ l.message)));
}

abbrev pub decreases-loop-run : goal.decreases-loop-run
decreases-loop-run l = 254 - l.run

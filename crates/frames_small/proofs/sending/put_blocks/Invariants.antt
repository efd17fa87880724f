use Rattle.std.proofs.Common.{◌-◌, ◌≤◌, ◌++◌}
use Rattle.frames_small.proofs.RunsLemmas.{Goes}
use Rattle.frames_small.proofs.sending.put_blocks.Given as goal

abbrev pub invariant-loop-fault : goal.invariant-loop-fault
invariant-loop-fault g l = record {
  within : l.at ≤ l.end;
  goes : Goes (g.W.Outlet.line l.fn.outlet) (g.W.Outlet.line l.outlet) l.sentinel (l.count ++ l.message) l.at;
}

abbrev pub decreases-loop-fault : goal.decreases-loop-fault
decreases-loop-fault g l = l.end - l.at

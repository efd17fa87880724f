use Rattle.std.proofs.Common.{◌-◌, ◌≤◌, ◌++◌, take, drop, Ok}
use Rattle.line_io.specs.Transfers.{WentOrBroke}
use Rattle.cobs.specs.Sentinel.{masked}
use Rattle.frames_small.proofs.sending.put_bytes.Given as goal

abbrev pub invariant-loop-sent : goal.invariant-loop-sent
invariant-loop-sent g l = record {
  within : l.sent ≤ l.run;
  went : WentOrBroke (g.W.Outlet.line l.fn.outlet) (g.W.Outlet.line l.outlet) (masked l.sentinel (take l.sent (drop l.from (l.count ++ l.message)))) (Ok tt);
}

abbrev pub decreases-loop-sent : goal.decreases-loop-sent
decreases-loop-sent g l = l.run - l.sent

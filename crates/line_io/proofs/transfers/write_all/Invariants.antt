use Rattle.std.proofs.Common.{◌≡◌, ◌≤◌, ◌+◌, ℕ, List, ◌++◌, length}
use Rattle.line_io.specs.Transfers.{WentOut}
use Rattle.line_io.proofs.transfers.write_all.Given as goal

abbrev pub invariant-loop-rest : goal.invariant-loop-rest
invariant-loop-rest g l = record {
  sent : List ℕ;
  are : l.bytes ≡ sent ++ l.rest;
  out : WentOut (g.W.Outlet.line l.fn.outlet) (g.W.Outlet.line l.outlet) sent;
  calls : (g.W.Outlet.line l.outlet).calls_left ≤ (g.W.Outlet.line l.fn.outlet).calls_left;
  few : (g.W.Outlet.line l.fn.outlet).calls_left ≤ (g.W.Outlet.line l.outlet).calls_left + length sent;
}

abbrev pub decreases-loop-rest : goal.decreases-loop-rest
decreases-loop-rest g l = length l.rest

use Rattle.std.proofs.Common.{◌≡◌, ◌++◌, ℕ, List, length}
use Rattle.std.specs.Prelude.{flat_map}
use Rattle.framed_lib.specs.Lines.{escape}
use Rattle.framed_lib.specs.Output.{Puts}
use Rattle.framed_lib.proofs.lines.put_escaped.Given as goal

-- what was put, and what stands for the rest
abbrev pub invariant-loop-run : goal.invariant-loop-run
invariant-loop-run g l =
    (done : List ℕ) × (flat_map escape l.text ≡ done ++ flat_map escape l.rest)
    × Puts (g.W.Outlet.line l.fn.outlet) (g.W.Outlet.line l.outlet) l.fn.held.items l.held.items done

abbrev pub decreases-loop-run : goal.decreases-loop-run
decreases-loop-run g l = length l.rest

use Rattle.std.proofs.Common.{◌≡◌, ◌≤◌, ◌+◌, List, [], length}
use Rattle.std.specs.Prelude.{IsTrue, IsUtf8}
use Rattle.link.specs.Run.{Send}
use Rattle.framed_lib.specs.Output.{Puts}
use Rattle.std.specs.List.{list_all}
use Rattle.framed_lib.specs.Sending.{refusals, is_whole, Sent}
use Rattle.framed_lib.proofs.refusals.judge_lines.Given as goal

-- what came of the lines that were read, each of which is a byte at least
abbrev pub invariant-loop-line : goal.invariant-loop-line
invariant-loop-line g l =
    (done : List Send) × Sent l.text l.rest done
    × Puts (g.E.Outlet.line l.fn.faults) (g.E.Outlet.line l.faults) [] l.held.items (refusals 1 done)
    × (l.lines ≡ length done) × (l.good ≡ list_all is_whole done) × (length done + length l.rest ≤ length l.text)
    × (IsTrue l.is_text → IsUtf8 l.rest)

abbrev pub decreases-loop-line : goal.decreases-loop-line
decreases-loop-line g l = length l.rest

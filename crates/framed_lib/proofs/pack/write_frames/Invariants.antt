use Rattle.std.proofs.Common.{◌≡◌, ◌+◌, ◌≤◌, false, List, [], length, take}
use Rattle.std.specs.Prelude.{IsTrue, IsUtf8}
use Rattle.link.specs.Run.{Send}
use Rattle.link.specs.Fates.{clean_after_all}
use Rattle.framed_lib.specs.Output.{Puts}
use Rattle.framed_lib.specs.Sending.{Sent}
use Rattle.framed_lib.proofs.FramesLemmas.{shown_of}
use Rattle.framed_lib.proofs.pack.write_frames.Given as goal

-- what was put of the lines that were taken
abbrev pub invariant-loop-line : goal.invariant-loop-line
invariant-loop-line g l =
    (done : List Send) × Sent l.text l.rest done × (l.clean ≡ clean_after_all false done)
    × Puts (g.W.Outlet.line l.fn.writer) (g.W.Outlet.line l.writer) [] (take l.held l.room) (shown_of l.hex l.sentinel done)
    × (IsTrue l.is_text → IsUtf8 l.rest)
    × (l.held + 2053 ≤ 65536)

abbrev pub decreases-loop-line : goal.decreases-loop-line
decreases-loop-line g l = length l.rest

use Rattle.std.proofs.Common.{◌≡◌, ◌++◌}
use Rattle.wire_lib.specs.Drawn.{repeated}
use Rattle.wire_lib.proofs.watching.screen.put_times.Given as goal

-- what was appended, and what is left to append
abbrev pub invariant-loop-left : goal.invariant-loop-left
invariant-loop-left l = l.out.items ++ repeated l.left l.bytes ≡ l.fn.out.items ++ repeated l.fn.times l.bytes

abbrev pub decreases-loop-left : goal.decreases-loop-left
decreases-loop-left l = l.left

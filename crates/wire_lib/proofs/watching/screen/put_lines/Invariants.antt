use Rattle.std.proofs.Common.{◌≡◌, ◌++◌, drop}
use Rattle.wire_lib.specs.Drawn.{lines_over}
use Rattle.wire_lib.proofs.watching.screen.put_lines.Given as goal

-- what was appended, and what the remaining lines append
abbrev pub invariant-loop-line : goal.invariant-loop-line
invariant-loop-line l = l.out.items ++ lines_over l.left (drop l.line-index l.lines) ≡ l.fn.out.items ++ lines_over l.fn.plain l.lines

use Rattle.std.proofs.Common.{◌≡◌, ◌++◌, drop, map}
use Rattle.wire_lib.specs.Pictures.{FitInColumns, line_in, line_bytes, row_texts}
use Rattle.wire_lib.proofs.watching.picture.put_rows.Given as goal

-- what is there so far can be shown, and with the rows that are left it is the whole
abbrev pub invariant-loop-row : goal.invariant-loop-row
invariant-loop-row l = FitInColumns l.view.columns l.lines.items
    × (line_bytes l.lines.items ++ map (line_in l.view.columns) (row_texts l.view.window (drop l.row-index l.rows) l.left)
    ≡ line_bytes l.fn.lines.items ++ map (line_in l.view.columns) (row_texts l.view.window l.rows l.view.kinds))

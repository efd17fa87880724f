use Rattle.std.specs.List.{All}
use Rattle.std.proofs.Common.{◌≡◌, ◌++◌, drop, map, string_bytes}
use Rattle.wire_lib.specs.Tables.{row_names}
use Rattle.wire_lib.proofs.watching.kinds.rows_of.Given as goal

-- no message came of those that are there so far, which have the names before this one
abbrev pub invariant-loop-name : goal.invariant-loop-name
invariant-loop-name l = All (λ row. row.count ≡ 0) l.rows.items
    × (row_names l.rows.items ++ map string_bytes (drop l.name-index l.name-items) ≡ map string_bytes l.name-items)

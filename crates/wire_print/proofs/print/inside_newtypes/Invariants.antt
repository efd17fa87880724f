use Rattle.std.proofs.Common.{◌≡◌, ℕ, ◌+◌, length}
use Rattle.schema_table.specs.Looks.{inside_within}
use Rattle.wire_print.proofs.print.inside_newtypes.Given as goal

abbrev pub invariant-loop : goal.invariant-loop
invariant-loop l =
    let schema = l.schema in
    (left : ℕ) × (l.counter + left ≡ l.end) × (l.end ≡ length schema.nodes.items)
    × (inside_within left schema l.at l.held ≡ inside_within (length schema.nodes.items) schema l.place l.value)

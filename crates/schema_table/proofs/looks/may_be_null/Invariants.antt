use Rattle.std.proofs.Common.{◌≡◌, ℕ, ◌+◌, length}
use Rattle.schema_table.specs.Looks.{null_within}
use Rattle.schema_table.proofs.looks.may_be_null.Given as goal

abbrev pub invariant-loop : goal.invariant-loop
invariant-loop l =
    (left : ℕ) × (l.counter + left ≡ l.end) × (l.end ≡ length l.schema.nodes.items)
    × (null_within left l.schema l.at ≡ null_within (length l.schema.nodes.items) l.schema l.place)

use Rattle.std.proofs.Common.{◌≡◌, ℕ, ◌+◌, length}
use Rattle.schema_table.specs.Looks.{key_within}
use Rattle.schema_table.proofs.looks.is_key.Given as goal

abbrev pub invariant-loop : goal.invariant-loop
invariant-loop l =
    (left : ℕ) × (l.counter + left ≡ l.end) × (l.end ≡ length l.schema.nodes.items)
    × (key_within left l.schema l.at ≡ key_within (length l.schema.nodes.items) l.schema l.place)

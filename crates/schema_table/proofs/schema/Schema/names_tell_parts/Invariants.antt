use Rattle.std.proofs.Common.{ℕ, ◌<◌}
use Rattle.schema_table.specs.Telling.{TellsParts, names_at, node_at}
use Rattle.schema_table.proofs.schema.Schema.names_tell_parts.Given as goal

-- those before this place do
abbrev pub invariant-loop-place : goal.invariant-loop-place
invariant-loop-place l = (i : ℕ) → i < l.place → TellsParts (node_at l.self i) (names_at l.self i)

use Rattle.std.proofs.Common.{◌≡◌, ◌≢◌, ◌<◌, ℕ, Some}
use Rattle.schema_table.specs.Looks.{variant_named}
use Rattle.wire_json.proofs.parse.index_of.Given as goal

abbrev pub invariant-loop-name : goal.invariant-loop-name
invariant-loop-name l = (l.index ≡ l.name-index) × ((m : ℕ) → m < l.index → variant_named (Some l.fn.names) m ≢ Some l.wanted)

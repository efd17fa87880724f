use Rattle.schema_table.specs.TypeNames.{NoTypeName}
use Rattle.schema_table.proofs.schema.Schema.place_of.Given as goal

abbrev pub invariant-loop-place : goal.invariant-loop-place
invariant-loop-place l = NoTypeName l.self.types.items l.place l.name

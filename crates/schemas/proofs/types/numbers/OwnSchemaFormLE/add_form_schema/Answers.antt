use Rattle.schema_table.specs.Schemas.{AtTop, OfLE}
use Rattle.schemas.proofs.TablesLemmas.{as_wide}
use Rattle.schemas.proofs.types.numbers.OwnSchemaFormLE.add_form_schema.Goals as goal

pub returns-clause-is_schema : goal.returns-clause-is_schema
returns-clause-is_schema g c = as_wide (λ k. AtTop (OfLE k)) c.add_leaf.new.nodes.items c.integer_type.result g.T.HasIntegerType.which c.add_leaf.result c.integer_type.ensures g.met.T.HasIntegerType.wide c.add_leaf.ensures.is_schema

use Rattle.schemas.proofs.TablesLemmas.{schema_as}
use Rattle.schemas.proofs.types.AsShapeSchemaForm.add_form_schema.Goals as goal

pub returns-clause-is_schema : goal.returns-clause-is_schema
returns-clause-is_schema g c = schema_as _ c.add_schema.result c.add_schema.new.nodes.items g.met.M.SchemaOfShape.same c.add_schema.ensures.is_schema

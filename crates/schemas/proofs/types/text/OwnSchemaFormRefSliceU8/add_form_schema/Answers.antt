use Rattle.schemas.proofs.TablesLemmas.{bytes_schema}
use Rattle.schemas.proofs.types.text.OwnSchemaFormRefSliceU8.add_form_schema.Goals as goal

pub returns-clause-is_schema : goal.returns-clause-is_schema
returns-clause-is_schema c = bytes_schema c.add_leaf.result c.add_leaf.new.nodes.items c.add_leaf.ensures.is_schema

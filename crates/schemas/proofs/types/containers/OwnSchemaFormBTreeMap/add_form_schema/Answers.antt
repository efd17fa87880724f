use Rattle.schema_table.specs.declared.node.Node.TheVariants.{List}
use Rattle.schemas.proofs.TablesLemmas.{added_as, begins_more, list_schema}
use Rattle.schemas.proofs.types.containers.OwnSchemaFormBTreeMap.add_form_schema.Goals as goal

pub returns-clause-is_schema : goal.returns-clause-is_schema
returns-clause-is_schema g c =
    added_as c.add_node.result (List c.in_ok-pair.pair) c.add_schema.new.nodes.items c.add_node.new.nodes.items (λ place h. list_schema c.in_ok-pair.ensures.is_schema h) c.add_node.ensures.added

pub returns-clause-kept : goal.returns-clause-kept
returns-clause-kept g c = begins_more c.in_ok-pair.ensures.kept c.add_node.ensures.kept

use Rattle.schema_table.specs.declared.node.Node.TheVariants.{Struct}
use Rattle.schemas.proofs.TablesLemmas.{added_as, struct_schema, no_fields}
use Rattle.schemas.proofs.types.containers.OwnSchemaFormUnit.add_form_schema.Goals as goal

pub returns-clause-is_schema : goal.returns-clause-is_schema
returns-clause-is_schema c =
    added_as c.add_node.result (Struct c.new.result) c.args.nodes.now.items c.add_node.new.nodes.items (λ place h. struct_schema c.new.result c.new.ensures.items no_fields h) c.add_node.ensures.added

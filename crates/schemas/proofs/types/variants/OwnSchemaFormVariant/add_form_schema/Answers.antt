use Rattle.schema_table.specs.declared.node.Node.TheVariants.{Enum}
use Rattle.schemas.proofs.TablesLemmas.{added_as, begins_more, enum_added}
use Rattle.schemas.proofs.types.variants.OwnSchemaFormVariant.add_form_schema.Goals as goal

pub returns-clause-is_schema : goal.returns-clause-is_schema
returns-clause-is_schema g c =
    added_as c.add_node.result (Enum c.add_payloads.new.payloads) c.add_payloads.new.nodes.items c.add_node.new.nodes.items (λ place h. enum_added c.add_payloads.new.payloads c.new-payloads.ensures.items c.in_ok-add_payloads.ensures.are_schemas h) c.add_node.ensures.added

pub returns-clause-kept : goal.returns-clause-kept
returns-clause-kept g c = begins_more c.in_ok-add_payloads.ensures.kept c.add_node.ensures.kept

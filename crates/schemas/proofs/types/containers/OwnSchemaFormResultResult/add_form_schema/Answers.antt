use Rattle.schema_table.specs.declared.node.Node.TheVariants.{Enum}
use Rattle.schemas.proofs.TablesLemmas.{added_as, begins_more, enum_schema, later, payload_result}
use Rattle.schemas.proofs.types.containers.OwnSchemaFormResultResult.add_form_schema.Goals as goal

pub returns-clause-is_schema : goal.returns-clause-is_schema
returns-clause-is_schema g c =
    let both = payload_result (later c.in_ok-error.ensures.kept c.in_ok-value.ensures.is_schema) c.in_ok-error.ensures.is_schema in
    added_as c.add_node.result (Enum c.in_ok-payloads.payloads) c.add_schema-2.new.nodes.items c.add_node.new.nodes.items (λ place h. enum_schema c.in_ok-payloads.payloads c.in_ok-payloads.ensures.items both h) c.add_node.ensures.added

pub returns-in_err-error-clause-kept : goal.returns-in_err-error-clause-kept
returns-in_err-error-clause-kept g c = begins_more c.in_ok-value.ensures.kept c.in_err-error.ensures.kept

pub returns-in_err-payloads-clause-kept : goal.returns-in_err-payloads-clause-kept
returns-in_err-payloads-clause-kept g c = begins_more c.in_ok-value.ensures.kept c.in_ok-error.ensures.kept

pub returns-clause-kept : goal.returns-clause-kept
returns-clause-kept g c = begins_more (begins_more c.in_ok-value.ensures.kept c.in_ok-error.ensures.kept) c.add_node.ensures.kept

use Rattle.schemas.proofs.TablesLemmas.{begins_more, field_then, fields_added, no_fields}
use Rattle.schemas.proofs.types.tuples.OwnSchemaFormTuple1.add_form_schema.Goals as goal

pub returns-clause-kept : goal.returns-clause-kept
returns-clause-kept g c = begins_more c.in_ok-first.ensures.kept c.add_struct.ensures.kept

pub returns-clause-is_schema : goal.returns-clause-is_schema
returns-clause-is_schema g c =
    let all = field_then c.in_ok-first.ensures.is_schema no_fields in
    fields_added c.add_struct.result c.add_struct.new.nodes.items all c.add_struct.ensures.added

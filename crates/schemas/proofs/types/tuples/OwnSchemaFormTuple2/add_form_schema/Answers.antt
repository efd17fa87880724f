use Rattle.schemas.proofs.TablesLemmas.{begins_more, field_then, fields_added, later, no_fields}
use Rattle.schemas.proofs.types.tuples.OwnSchemaFormTuple2.add_form_schema.Goals as goal

pub returns-in_err-second-clause-kept : goal.returns-in_err-second-clause-kept
returns-in_err-second-clause-kept g c = begins_more c.in_ok-first.ensures.kept c.in_err-second.ensures.kept

pub returns-clause-kept : goal.returns-clause-kept
returns-clause-kept g c = begins_more (begins_more c.in_ok-first.ensures.kept c.in_ok-second.ensures.kept) c.add_struct.ensures.kept

pub returns-clause-is_schema : goal.returns-clause-is_schema
returns-clause-is_schema g c =
    let kept-first = c.in_ok-second.ensures.kept in
    let all = field_then (later kept-first c.in_ok-first.ensures.is_schema) (field_then c.in_ok-second.ensures.is_schema no_fields) in
    fields_added c.add_struct.result c.add_struct.new.nodes.items all c.add_struct.ensures.added

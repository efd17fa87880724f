use Rattle.schemas.proofs.types.numbers.OwnSchemaFormU16.add_form_schema.Goals as goal

pub returns-clause-is_schema : goal.returns-clause-is_schema
returns-clause-is_schema c = c.add_leaf.ensures.is_schema

use Rattle.schemas.specs.SchemaLaws.{schema_laws}
use Rattle.schemas.proofs.laws.reading_by_schemas.Goals as goal

pub returns : goal.returns
returns g = schema_laws

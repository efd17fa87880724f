use Rattle.schemas.proofs.AgreeingLemmas.{schemas_agree}
use Rattle.schemas.proofs.laws.reading_by_schemas_agrees.Goals as goal

pub returns : goal.returns
returns g c = schemas_agree g.T.Readable.form.laws

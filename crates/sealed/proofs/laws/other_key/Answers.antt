use Rattle.sealed.proofs.KeysLemmas.{one_key}
use Rattle.sealed.proofs.laws.other_key.Goals as goal

pub returns : goal.returns
returns g c = one_key g.T.Readable.form.laws

use Rattle.journal_laws.proofs.AgainLemmas.{repairs_again}
use Rattle.journal_laws.proofs.laws.repairs_again.Goals as goal

pub returns : goal.returns
returns g c limit = repairs_again g.T.Readable.form.takes limit (c.told.ensures.strict limit 0)

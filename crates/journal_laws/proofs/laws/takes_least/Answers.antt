use Rattle.journal_laws.proofs.SizesLemmas.{ordinary_least, strict_least}
use Rattle.journal_laws.proofs.laws.takes_least.Goals as goal

pub returns-clause-ordinary : goal.returns-clause-ordinary
returns-clause-ordinary g c = ordinary_least g.T.Readable.form.takes c.lengths.ensures.within c.least.ensures

pub returns-clause-strict : goal.returns-clause-strict
returns-clause-strict g c = strict_least g.T.Readable.form.takes c.lengths.ensures.within

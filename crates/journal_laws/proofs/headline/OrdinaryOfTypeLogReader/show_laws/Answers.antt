use Rattle.journal_laws.proofs.headline.OrdinaryOfTypeLogReader.show_laws.Goals as goal

pub returns-clause-counts : goal.returns-clause-counts
returns-clause-counts g c limit = c.counts_on.ensures.ordinary limit 0

pub returns-clause-appends : goal.returns-clause-appends
returns-clause-appends g c limit = c.append.ensures.ordinary limit 0

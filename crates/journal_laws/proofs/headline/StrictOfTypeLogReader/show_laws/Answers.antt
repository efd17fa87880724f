use Rattle.journal_laws.proofs.headline.StrictOfTypeLogReader.show_laws.Goals as goal

pub returns-clause-counts : goal.returns-clause-counts
returns-clause-counts g c limit = c.counts_on.ensures.strict limit 0

pub returns-clause-appends : goal.returns-clause-appends
returns-clause-appends g c limit = c.append.ensures.strict limit 0

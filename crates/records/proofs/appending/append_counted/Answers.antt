use Rattle.records.proofs.SettlingLemmas.{line_appended}
use Rattle.records.proofs.appending.append_counted.Goals as goal

pub returns-in-Appended-clause-counted : goal.returns-in-Appended-clause-counted
returns-in-Appended-clause-counted g c start before a = line_appended _ _ _ _ _ _ a c.in-Appended.ensures.one

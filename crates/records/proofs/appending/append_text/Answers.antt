use Rattle.records.proofs.SettlingLemmas.{one_more}
use Rattle.records.proofs.appending.append_text.Goals as goal

pub returns-in-Ok-clause-one : goal.returns-in-Ok-clause-one
returns-in-Ok-clause-one g c = one_more _ _ _ _ _ c.in-Ok.ensures.appended c.in-Ok.ensures.next

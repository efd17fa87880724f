use Rattle.link.proofs.SendingLemmas.{writes_none}
use Rattle.link.proofs.writing.put_lead.Goals as goal

pub returns-then-clean : goal.returns-then-clean
returns-then-clean g c = rw c.if-clean.true (writes_none _)

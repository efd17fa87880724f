use Rattle.frames_small.proofs.RunsLemmas.{writes_none}
use Rattle.frames_small.proofs.sending.put_lead.Goals as goal

pub returns-then-clean : goal.returns-then-clean
returns-then-clean g c = rw c.if-clean.true (writes_none _)

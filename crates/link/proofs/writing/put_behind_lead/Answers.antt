use Rattle.link.proofs.SendingLemmas.{writes_then, writes_more}
use Rattle.link.proofs.writing.put_behind_lead.Goals as goal

pub returns-in-Ok : goal.returns-in-Ok
returns-in-Ok g c = writes_then _ _ _ _ _ _ c.in-Ok.ensures c.write_all.ensures

pub returns-in-Err : goal.returns-in-Err
returns-in-Err g c = writes_more _ _ _ _ _ c.in-Err.ensures

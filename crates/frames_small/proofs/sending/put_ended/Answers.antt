use Rattle.frames_small.proofs.RunsLemmas.{writes_then, writes_more}
use Rattle.frames_small.proofs.sending.put_ended.Goals as goal

pub returns-in-Ok : goal.returns-in-Ok
returns-in-Ok g c = writes_then _ _ _ _ _ _ c.in-Ok.ensures c.put.ensures

pub returns-in-Err : goal.returns-in-Err
returns-in-Err g c = writes_more _ _ _ _ _ c.in-Err.ensures

use Rattle.link.proofs.framed.frame_into.Goals as goal

pub returns-clause-ok : goal.returns-clause-ok
returns-clause-ok g c = c.frame_into_with_sentinel.ensures.ok

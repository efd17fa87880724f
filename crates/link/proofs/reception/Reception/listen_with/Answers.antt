use Rattle.link.proofs.reception.Reception.listen_with.Goals as goal

pub returns-clause-room : goal.returns-clause-room
returns-clause-room g c = c.listen_by.ensures.buffer

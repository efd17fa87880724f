use Rattle.calls.specs.ServedLaws.{executes_none}
use Rattle.calls.proofs.service.ServiceHearerTuple2U64.pause.Goals as goal

pub returns-clause-heard : goal.returns-clause-heard
returns-clause-heard g c = executes_none g.A.Application.executes g.Q.PartialEq.eq g.A.Application.passes g.row.N _ _ _ _ _

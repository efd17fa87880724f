use Rattle.std.proofs.Common.{ap}
use Rattle.link.specs.Senders.{sender_place}
use Rattle.calls.specs.ServedLaws.{executes_one}
use Rattle.calls.proofs.service.ServiceHearerTuple2U64.hear.Goals as goal

pub returns : goal.returns
returns g c = executes_one g.A.Application.executes g.Q.PartialEq.eq g.A.Application.passes g.row.N _ _ _ _ _ _ _ _ _ _ c.args.answer (ap (sender_place g.W.Outlet.line)) c.take.ensures

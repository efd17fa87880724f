use Rattle.std.proofs.Common.{◌≡◌, sym, ap, ◌∙◌}
use Rattle.calls.specs.Calls.{call}
use Rattle.calls.specs.Serving.{kept_as}
use Rattle.calls.specs.ServedLaws.{which}
use Rattle.calls.proofs.server.Server.send_last.Goals as goal

pub returns-in-Some-clause-sent : goal.returns-in-Some-clause-sent
returns-in-Some-clause-sent g c e is =
    let l = c.in-Some.last in
    let same : e ≡ call l.reply.0 l.request l.reply.1 = sym (which (sym (ap kept_as c.in-Some.is) ∙ is)) in
    rw same c.send.ensures.sent

use Rattle.calls_laws.proofs.OutcomesLemmas.{outcome}
use Rattle.calls_laws.proofs.exchange.call_once.Goals as goal

pub returns : goal.returns
returns g c =
    let serves = rw c.deref.ensures.value at c.serve_all-application.ensures in
    let said = rw c.deref-2.ensures.value at c.take_reply-said.ensures in
    let r = outcome g.A.Application.executes g.Q.PartialEq.eq g.A.Application.passes g.Q.Readable.form.alike g.R.Readable.form.alike c.carries.ensures.taken c.carries-2.ensures.taken c.show_sent.ensures c.executes_once.ensures c.calls.ensures
    c.ask_all-client.ensures serves c.take_reply-said.result said in
    record { replied = r.0; at_most_once = r.1 }

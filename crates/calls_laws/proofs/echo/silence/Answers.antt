use Rattle.std.proofs.Common.{refl, sym, ap, ◌∙◌}
use Rattle.calls.specs.Sealing.{compared, compared_reply, replied_inside}
use Rattle.calls_laws.proofs.EchoLemmas.{none_left, reply_compared, request_compared}
use Rattle.calls_laws.proofs.echo.silence.Goals as goal

pub returns-clause-server : goal.returns-clause-server
returns-clause-server g c limit s said answers over replies =
    none_left compared refl refl refl answers (λ v i.
    let t = c.show_sent.ensures limit s said answers over.front over.rest over.is over.of over.parts over.heard v i in
    reply_compared v (sym t.2.1.0 ∙ replies t.0 t.1 ∙ ap replied_inside t.2.0))

pub returns-clause-client : goal.returns-clause-client
returns-clause-client g c limit s asked answers over requests =
    none_left compared_reply refl refl refl answers (λ v i.
    let t = c.show_sent.ensures limit s asked answers over.front over.rest over.is over.of over.parts over.heard v i in
    request_compared v (sym t.2.1.0 ∙ requests t.0 t.1 ∙ t.2.0))

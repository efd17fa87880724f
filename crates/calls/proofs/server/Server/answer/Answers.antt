use Rattle.std.proofs.Common.{refl, sym, ◌∙◌}
use Rattle.calls.specs.Calls.{call}
use Rattle.calls.proofs.server.Server.answer.Goals as goal

pub returns-in-Above-clause-replied : goal.returns-in-Above-clause-replied
returns-in-Above-clause-replied g c = (call c.args.number c.args.request c.execute.result, refl, c.send-sent.ensures.sent)

pub returns-in-Same-clause-replied : goal.returns-in-Same-clause-replied
returns-in-Same-clause-replied g c =
    let k = c.in-Same.ensures in
    (k.1, c.send_last.ensures.kept ∙ k.2, c.send_last.ensures.sent k.1 k.2)

pub returns-in-Changed-clause-replied : goal.returns-in-Changed-clause-replied
returns-in-Changed-clause-replied g c =
    let k = c.in-Changed.ensures in
    (k.1, c.say_passed.ensures.kept ∙ k.2, rw k.3 c.say_passed.ensures.passed)

pub returns-in-Below-clause-replied : goal.returns-in-Below-clause-replied
returns-in-Below-clause-replied g c =
    let k = c.in-Below.ensures in
    (k.1, c.say_passed-in-Below.ensures.kept ∙ k.2, rw (sym k.4) c.say_passed-in-Below.ensures.passed)

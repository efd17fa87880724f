use Rattle.std.proofs.Common.{refl, ap, arith}
use Rattle.calls.specs.Calls.{call}
use Rattle.calls.specs.Serving.{kept_as}
use Rattle.calls.proofs.server.Server.standing.Goals as goal

pub returns-then-number-last : goal.returns-then-number-last
returns-then-number-last g c =
    let l = c.in-Some.last in
    (omega (arith, c.if-number-eq18446744073709551615.false), call l.reply.0 l.request l.reply.1, ap kept_as c.in-Some.is, c.if-number-last.true, refl)

pub returns-then-eq : goal.returns-then-eq
returns-then-eq g c =
    let l = c.in-Some.last in
    (omega (arith, c.if-number-eq18446744073709551615.false), call l.reply.0 l.request l.reply.1, ap kept_as c.in-Some.is, omega (arith, c.if-number-last.false, c.if-number-last-2.false), (let a = c.eq.ensures in let b = c.if-eq.true in cc))

pub returns-else-eq : goal.returns-else-eq
returns-else-eq g c =
    let l = c.in-Some.last in
    (omega (arith, c.if-number-eq18446744073709551615.false), call l.reply.0 l.request l.reply.1, ap kept_as c.in-Some.is, omega (arith, c.if-number-last.false, c.if-number-last-2.false), (let a = c.eq.ensures in let b = c.if-eq.false in cc))

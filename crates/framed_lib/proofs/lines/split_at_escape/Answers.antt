use Rattle.std.proofs.Common.{◌≡◌, get_or, arith}
use Rattle.std.proofs.lemmas.Grind.{common_steps}
use Rattle.framed_lib.proofs.LinesLemmas.{escape-at, plain-all, plain-front, other-is-10}
use Rattle.framed_lib.proofs.lines.split_at_escape.Goals as goal

pub returns-in_default-clause-written : goal.returns-in_default-clause-written
returns-in_default-clause-written c = plain-all c.args.text.now (λ k l e. c.in_default.ensures k (omega arith) l e)

pub returns-then-text-at-eq92-clause-written : goal.returns-then-text-at-eq92-clause-written
returns-then-text-at-eq92-clause-written c =
    let first = c.in-Some.ensures.0 in
    escape-at c.args.text.now c.in-Some.at 92 first.high (plain-front c.args.text.now c.in-Some.at first.high (λ k l e. first.before k (omega arith) l e))
    (grind (arith, common_steps))

pub returns-clause-written : goal.returns-clause-written
returns-clause-written c =
    let first = c.in-Some.ensures.0 in
    let not-92 : get_or c.args.text.now c.in-Some.at 0 ≡ 92 → ⊥ = λ e. grind (arith, common_steps, e) in
    escape-at c.args.text.now c.in-Some.at 10 first.high (plain-front c.args.text.now c.in-Some.at first.high (λ k l e. first.before k (omega arith) l e))
    (other-is-10 (get_or c.args.text.now c.in-Some.at 0) c.in-Some.ensures.1 not-92)

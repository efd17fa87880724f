use Rattle.std.proofs.Common.{◌≡◌, ◌<◌, [], ◌∷◌, length, ap, subst, rules, arith}
use Rattle.wire_lib.specs.Sent.{IsTextMade}
use Rattle.wire_lib.proofs.SentLemmas.{last_made}
use Rattle.std.proofs.lemmas.Result.{on_ok_weaker}
use Rattle.wire_lib.proofs.send.FramesOfLines.send_rest.Goals as goal

pub returns-clause-made : goal.returns-clause-made
returns-clause-made c =
    let self = c.args.self.now in
    let some : 0 < length self.line.items = search rules in
    let same : c.deref.result.now ≡ self.line.items = search rules in
    on_ok_weaker c.send.result
    (λ sent text made h.
    let last = last_made self.sending self.line.items self.number c.send.new.self.number self.is_good c.send.new.self.is_good text made sent.0 (λ e. omega (arith, some, ap length e)) h (subst (λ x. IsTextMade self.sending c.send.new.self.number x sent.0) same sent.1) c.send.ensures.number sent.3 in
    (sent.0 ∷ [], last.0, sent.2, last.1))
    c.send.ensures.made

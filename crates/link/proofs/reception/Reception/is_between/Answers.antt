use Rattle.std.proofs.Common.{◌≡◌, [], IsTrue, nat_eq, subst, sym}
use Rattle.link.specs.Stream.{begun, kept}
use Rattle.link.proofs.ReceivingLemmas.{between_counted, never_between}
use Rattle.link.proofs.reception.Reception.is_between.Goals as goal

pub returns-then-not-self-clause-begun : goal.returns-then-not-self-clause-begun
returns-then-not-self-clause-begun g c limit s stream h = subst (λ n. (IsTrue (nat_eq n 0) → begun limit s stream ≡ kept []) × (begun limit s stream ≡ kept [] → IsTrue (nat_eq n 0))) (sym c.held.ensures.count)
    (between_counted limit s _ _ _ (begun limit s stream) c.if-not-self.true h.state)

pub returns-else-not-self-clause-begun : goal.returns-else-not-self-clause-begun
returns-else-not-self-clause-begun g c limit s stream h = (λ t. absurd (cc t), λ k. absurd (never_between limit s _ _ _ (begun limit s stream) c.if-not-self.false h.state k))

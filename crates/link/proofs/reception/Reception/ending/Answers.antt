use Rattle.std.proofs.Common.{sym, ◌∙◌}
use Rattle.link.specs.Stream.{begun}
use Rattle.link.proofs.ReceivingLemmas.{finish_past, finish_none, finish_some}
use Rattle.link.proofs.reception.Reception.ending.Goals as goal

pub returns-then-self : goal.returns-then-self
returns-then-self g c limit s stream h = finish_past limit s _ _ _ (begun limit s stream) c.if-self.true h.state

pub returns-then-held-eq0 : goal.returns-then-held-eq0
returns-then-held-eq0 g c limit s stream h = finish_none limit s _ _ _ (begun limit s stream) (sym c.held.ensures.count ∙ c.if-held-eq0.true) h.state

pub returns : goal.returns
returns g c limit s stream h = finish_some limit s _ _ _ (begun limit s stream) c.if-self.false (λ z. c.if-held-eq0.false (c.held.ensures.count ∙ z)) h.state

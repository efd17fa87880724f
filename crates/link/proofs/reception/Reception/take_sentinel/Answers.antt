use Rattle.std.proofs.Common.{sym, subst, ◌∙◌}
use Rattle.link.specs.Finds.{Finds, front_of}
use Rattle.link.specs.Receivers.{IsAt, buffer_in}
use Rattle.link.proofs.ReceivingLemmas.{sentinel_ends}
use Rattle.link.proofs.reception.Reception.take_sentinel.Goals as goal

pub returns-clause-finds : goal.returns-clause-finds
returns-clause-finds g c limit s b i =
    let e = sentinel_ends limit s _ _ c.args.self.now.past b c.if-self.false (λ z. c.if-held-eq0.false (c.held.ensures.count ∙ z)) i.state in
    subst (λ x. Finds (front_of (buffer_in g.D.Decoding.inside c.close.new.self)) x c.close.result) (sym e.3)
    (c.close.ensures.found limit s e.0 (subst (IsAt g.D.Decoding.inside limit s c.args.self.now) e.1 i) e.2).1

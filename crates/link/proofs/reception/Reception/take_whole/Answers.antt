use Rattle.std.proofs.Common.{ℕ, List, take, ◌∙◌, subst}
use Rattle.cobs.specs.Frames.{Frame}
use Rattle.cobs.specs.Sentinel.{masked}
use Rattle.link.proofs.ReceivingLemmas.{has_nothing, some_masked}
use Rattle.link.proofs.reception.Reception.take_whole.Goals as goal

pub returns-clause-found : goal.returns-clause-found
returns-clause-found g c limit s i some = (
  record { sentinel_is = i.sentinel_is; state = (i.state.0, has_nothing limit s _ _ c.decode_whole.ensures.none (c.decode_whole.ensures.room ∙ i.state.1.room)) },
  subst (λ k. Frame (masked k c.args.stretch.now) (take c.in-Some.size (g.D.Decoding.inside c.decode_whole.new.self).bytes)) i.sentinel_is
      (c.in-Some.ensures.message.message (some_masked _ c.args.stretch.now some)),
)

pub returns-in_default-clause-found : goal.returns-in_default-clause-found
returns-in_default-clause-found g c limit s i some = (
  record { sentinel_is = i.sentinel_is; state = (i.state.0, has_nothing limit s _ _ c.decode_whole.ensures.none (c.decode_whole.ensures.room ∙ i.state.1.room)) },
  subst (λ k. (m : List ℕ) → Frame (masked k c.args.stretch.now) m → ⊥) i.sentinel_is c.in_default.ensures.message.no_frame,
)

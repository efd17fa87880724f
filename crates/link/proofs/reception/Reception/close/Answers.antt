use Rattle.std.proofs.Common.{ℕ, List, take, ◌∙◌, subst}
use Rattle.cobs.specs.Frames.{Frame}
use Rattle.link.proofs.ReceivingLemmas.{has_nothing, some_bytes}
use Rattle.link.proofs.reception.Reception.close.Goals as goal

pub returns-in-Some-clause-found : goal.returns-in-Some-clause-found
returns-in-Some-clause-found g c limit s p h l =
    let k = h.state.1 in (
      record { sentinel_is = h.sentinel_is; state = (h.state.0, has_nothing limit s _ _ c.decode_held.ensures.none (c.decode_held.ensures.room ∙ k.room)) },
      subst (λ x. Frame x (take c.in-Some.size (g.D.Decoding.inside c.decode_held.new.self).bytes)) k.held
          (c.in-Some.ensures.message.message (λ q. some_bytes p l (rw k.held at q))),
    )

pub returns-in-None-clause-found : goal.returns-in-None-clause-found
returns-in-None-clause-found g c limit s p h l =
    let k = h.state.1 in (
      record { sentinel_is = h.sentinel_is; state = (h.state.0, has_nothing limit s _ _ c.decode_held.ensures.none (c.decode_held.ensures.room ∙ k.room)) },
      subst (λ x. (m : List ℕ) → Frame x m → ⊥) k.held c.in-None.ensures.message.no_frame,
    )

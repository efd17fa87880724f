use Rattle.std.proofs.lemmas.Grind.{common_steps}
use Rattle.std.proofs.Common.{◌≡◌, ◌≤◌, ◌++◌, ℕ, List, length, ap, arith, length-append}
use Rattle.postcard.proofs.short.spell_and_return.Goals as goal

-- what is held is a front of the room
front_within : (n : ℕ) (front behind room : List ℕ) → n ≡ length front → room ≡ front ++ behind → n ≤ length room
front_within n front behind room e q = omega (arith, e, ap length q, length-append front behind)

pub returns-in-Ok-clause-within : goal.returns-in-Ok-clause-within
returns-in-Ok-clause-within g c = front_within _ _ _ _ c.held-n.ensures c.into_inner-room.ensures.bytes

pub returns-in-Ok-clause-valid : goal.returns-in-Ok-clause-valid
returns-in-Ok-clause-valid g c = λ _. c.in-Ok.ensures.valid

pub returns-in-Ok-clause-spelled : goal.returns-in-Ok-clause-spelled
returns-in-Ok-clause-spelled g c = grind (arith, common_steps)

use Rattle.std.proofs.Common.{refl, sym, ◌∙◌, true≢false, arith}
use Rattle.records.proofs.checking.sum_up.Goals as goal

pub returns-then-is_sound-clause-sound : goal.returns-then-is_sound-clause-sound
returns-then-is_sound-clause-sound c numbers t = (λ zero. (c.is_sound.ensures numbers t).0 c.if-is_sound.true, λ sound. refl)

pub returns-else-is_sound-clause-sound : goal.returns-else-is_sound-clause-sound
returns-else-is_sound-clause-sound c numbers t = (λ zero. absurd (omega (arith, zero)), λ sound. absurd (true≢false (sym ((c.is_sound.ensures numbers t).1 sound) ∙ c.if-is_sound.false)))

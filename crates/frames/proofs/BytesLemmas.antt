-- What comes of one byte.
use Rattle.std.proofs.Common.{◌≡◌, ℕ, List, [], ◌∷◌, Option, Some, None, refl, sym, ◌∙◌, subst}
use Rattle.cobs.specs.Frames.{NoZero}
use Rattle.cobs.specs.Sentinel.{masked}
use Rattle.link.specs.Stream.{Begun}
use Rattle.link.specs.Steps.{Event, quiet, ended, passed, event_at, begun_at, Course, course_on, course_of, RunsOn, RunsPast}
use Rattle.link.specs.Finds.{IsSpan}
use Rattle.frames.specs.Events.{FindsFrame, TakesFrame}
use Rattle.frames.specs.declared.receiving.FrameEvent.{FrameEvent}
use Rattle.frames.specs.declared.receiving.FrameEvent.TheVariants.{TooLong}
use Rattle.link.specs.Lemmas.MaskLaws.{nonzero}

module _ (limit s : ℕ) (b : Begun) (byte : ℕ) (At : Begun → Type 0) (buffer : List ℕ) where
  -- a byte that is kept, or ignored
  pub at_on : RunsOn limit s b (byte ∷ []) At → At (course_of limit s b (byte ∷ [])).begun
  at_on r = subst (λ (k : Course). At k.begun) (sym (r.rest [])) r.at

  pub taken_on : RunsOn limit s b (byte ∷ []) At → TakesFrame limit (course_of limit s b (byte ∷ [])) buffer (record { used = 1; stretch = 0; event = None })
  taken_on r = subst (λ k. TakesFrame limit k buffer (record { used = 1; stretch = 0; event = None })) (sym (r.rest [])) (record { used = refl; finds = refl; span = refl })

-- another byte than the sentinel
pub no_zero_byte : (s byte own : ℕ) → own ≡ s → (byte ≡ own → ⊥) → NoZero (masked s (byte ∷ []))
no_zero_byte s byte own e n = (nonzero s byte (λ f. n (f ∙ sym e)), tt)

-- What a sentinel ends.
use Rattle.std.proofs.Common.{◌≡◌, ◌≢◌, ℕ, true, false, List, [], ◌∷◌, take, Some, None, refl, sym, ◌∙◌, subst, arith, eq-eqb}
use Rattle.cobs.specs.Frames.{Frame}
use Rattle.cobs.specs.FrameLaws.{IsFrameAtBlockEnd, EndsWithItsBlock}
use Rattle.link.specs.Stream.{Begun, kept, over}
use Rattle.link.specs.Steps.{course_of}
use Rattle.frames.specs.Events.{TakesFrame, found}
use Rattle.frames.specs.declared.receiving.FrameEvent.TheVariants.{Message, Damaged}
use Rattle.frames_small.specs.Standing.{SmallStandsAt}
use Rattle.frames_small.specs.declared.receiving.SmallReceiver.{SmallReceiver}

module _ (limit s : ℕ) (r : SmallReceiver) (buffer : List ℕ) where
  -- one that was too long
  pub ends_past : (b : Begun) → SmallStandsAt limit s r buffer b → r.past ≡ true → TakesFrame limit (course_of limit s b (s ∷ [])) buffer (found 1 0 None)
  ends_past (kept p) i e = let no : true ≡ false = sym e ∙ i.begun.0 in absurd (cc)
  ends_past over i e = record { used = refl; finds = refl; span = refl }

  -- none
  pub ends_none : (b : Begun) → SmallStandsAt limit s r buffer b → r.past ≡ false → r.stretch ≡ 0 → TakesFrame limit (course_of limit s b (s ∷ [])) buffer (found 1 0 None)
  ends_none (kept []) i e z = rw (eq-eqb s s refl) record { used = refl; finds = refl; span = refl }
  ends_none (kept (x ∷ p)) i e z = absurd (omega (arith, z, i.begun.1.stretch))
  ends_none over i e z = let no : true ≡ false = sym i.begun ∙ e in absurd (cc)

  -- a frame
  pub ends_frame : IsFrameAtBlockEnd → (b : Begun) → SmallStandsAt limit s r buffer b → r.past ≡ false → r.stretch ≢ 0 → r.left ≡ 0
      → TakesFrame limit (course_of limit s b (s ∷ [])) buffer (found 1 r.stretch (Some (Message 0 r.decided)))
  ends_frame is (kept []) i e n z = absurd (n i.begun.1.stretch)
  ends_frame is (kept (x ∷ p)) i e n z =
      let d = i.begun.1 in
      let frame : Frame (x ∷ p) (take r.decided buffer) = subst (λ m. Frame (x ∷ p) m) (sym d.stands) (is (x ∷ p) d.codes (λ q. cc) (sym d.left ∙ z)) in
      rw (eq-eqb s s refl) record { used = refl; finds = frame; span = d.stretch }
  ends_frame is over i e n z = let no : true ≡ false = sym i.begun ∙ e in absurd (cc)

  -- no frame
  pub ends_damaged : EndsWithItsBlock → (b : Begun) → SmallStandsAt limit s r buffer b → r.past ≡ false → r.stretch ≢ 0 → r.left ≢ 0
      → TakesFrame limit (course_of limit s b (s ∷ [])) buffer (found 1 r.stretch (Some Damaged))
  ends_damaged ends (kept []) i e n z = absurd (n i.begun.1.stretch)
  ends_damaged ends (kept (x ∷ p)) i e n z =
      let d = i.begun.1 in
      let none : (m : List ℕ) → Frame (x ∷ p) m → ⊥ = λ m f. z (d.left ∙ ends (x ∷ p) m f) in
      rw (eq-eqb s s refl) record { used = refl; finds = none; span = d.stretch }
  ends_damaged ends over i e n z = let no : true ≡ false = sym i.begun ∙ e in absurd (cc)

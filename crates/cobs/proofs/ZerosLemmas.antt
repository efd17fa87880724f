-- What the zero behind bytes answers, by frames.
use Rattle.std.proofs.Common.{◌≡◌, ◌≢◌, ℕ, nat_lt, min, if◌then◌else◌, List, [], ◌∷◌, length, Some, Ok, Err, inl, inr, refl, ap, sym, ◌∙◌}
use Rattle.std.proofs.lemmas.Bool.{eq-eqb, ne_eqb}
use Rattle.std.proofs.lemmas.Bool.Decides.{eqb_tells}
use Rattle.cobs.specs.Frames.{Frame, part, missing, spelled}
use Rattle.cobs.specs.Feeding.{at_zero}
use Rattle.cobs.specs.declared.dec.report.DecodeError.TheVariants.{InvalidFrame, TargetBufTooSmall}
use Rattle.cobs.proofs.DecodingLemmas.{Stretch, frame_reads, frame_ends, stretch_frame}
use Rattle.cobs.proofs.MessagesLemmas.{zero_fits}

not_empty : (first : List ℕ) (others : List (List ℕ)) → spelled first others ≢ []
not_empty first [] e = cc
not_empty first (next ∷ others) e = cc

at_whole : (room : ℕ) (bytes : List ℕ) → bytes ≢ [] → missing bytes ≡ 0 → at_zero room bytes ≡ (if nat_lt room (length (part bytes)) then Err TargetBufTooSmall else Ok (Some (length (part bytes))))
at_whole room [] n m = absurd (n refl)
at_whole room (code ∷ bytes) n m = rw (eq-eqb (missing (code ∷ bytes)) 0 m) refl

at_broken : (room : ℕ) (bytes : List ℕ) → bytes ≢ [] → (missing bytes ≡ 0 → ⊥) → at_zero room bytes ≡ Err (InvalidFrame (min (length (part bytes)) room))
at_broken room [] n m = absurd (n refl)
at_broken room (code ∷ bytes) n m = rw (ne_eqb (missing (code ∷ bytes)) 0 m) refl

pub zero_answers : (room : ℕ) (frame message : List ℕ) → Frame frame message → at_zero room frame ≡ (if nat_lt room (length message) then Err TargetBufTooSmall else Ok (Some (length message)))
zero_answers room frame message f =
    at_whole room frame (λ e. not_empty f.first f.others (sym f.spells ∙ e)) (frame_ends frame message f)
    ∙ ap (λ m. if nat_lt room (length m) then Err TargetBufTooSmall else Ok (Some (length m))) (sym (frame_reads frame message f))

pub zero_refuses : (room : ℕ) (bytes : List ℕ) → Stretch bytes → bytes ≢ [] → ((message : List ℕ) → Frame bytes message → ⊥) → at_zero room bytes ≡ Err (InvalidFrame (min (length (part bytes)) room))
zero_refuses room bytes s n h = at_broken room bytes n (λ m. h (part bytes) (stretch_frame bytes s n m))

-- a length is that of a frame's message
pub zero_gives : (room n : ℕ) (bytes : List ℕ) → Stretch bytes → at_zero room bytes ≡ Ok (Some n) → Frame bytes (part bytes) × (n ≡ length (part bytes))
zero_gives room n [] s h = absurd (cc)
zero_gives room n (code ∷ bytes) s h = elim (eqb_tells (missing (code ∷ bytes)) 0) [
  | inl t ↦
      let f = stretch_frame (code ∷ bytes) s (λ e. cc) t.1 in
      (f, (zero_fits room (code ∷ bytes) n h).1)
  | inr t ↦
      let e = sym (at_broken room (code ∷ bytes) (λ x. cc) t.1) ∙ h in
      absurd (cc)
]

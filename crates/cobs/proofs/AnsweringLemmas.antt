-- What decoding a whole source answers, by frames.
use Rattle.std.proofs.Common.{◌≡◌, ◌≢◌, ℕ, ◌+◌, ◌-◌, ◌<◌, ◌≤◌, nat_lt, min, if◌then◌else◌, Bool, true, false, List, [], ◌∷◌, ◌++◌, length, Result, Option, Some, None, Ok, Err, ◌⊎◌, inl, inr, refl, ap, sym, ◌∙◌, subst, arith, append_assoc}
use Rattle.std.proofs.lemmas.List.{append-nil}
use Rattle.std.proofs.lemmas.Bool.{lt-ltb, le-ltb, cases_lt, eq-eqb, ne_eqb}
use Rattle.std.specs.List.{AllByRecursion}
use Rattle.cobs.specs.Frames.{NoZero, Frame, part, missing}
use Rattle.cobs.specs.Feeding.{at_zero, at_byte, frame_after}
use Rattle.cobs.specs.Pieces.{first_answer, answered}
use Rattle.cobs.specs.Reports.{report}
use Rattle.cobs.specs.Whole.{unpadded, frame_in, reported, decoded_from, decoded_into, message_of_stretch}
use Rattle.cobs.specs.declared.dec.report.DecodeReport.{DecodeReport}
use Rattle.cobs.specs.declared.dec.report.DecodeError.{DecodeError}
use Rattle.cobs.specs.declared.dec.report.DecodeError.TheVariants.{InvalidFrame, TargetBufTooSmall}
use Rattle.cobs.specs.DecodingLaws.{refusal}
use Rattle.cobs.proofs.DecodingLemmas.{Stretch, frame_reads, frame_ends, stretch_frame}
use Rattle.cobs.proofs.FeedsLemmas.{frame_byte, answer_byte}
use Rattle.cobs.proofs.PassingLemmas.{decided_on}
use Rattle.cobs.proofs.WholesLemmas.{found_clear}
use Rattle.cobs.proofs.ZerosLemmas.{zero_answers, zero_refuses}

-- a byte has no answer, or there was no room for it
byte_cases : (room : ℕ) (q : List ℕ) (b : ℕ) → (at_byte room q b ≡ Ok None) ⊎ ((at_byte room q b ≡ Err TargetBufTooSmall) × (room < length (part (q ++ b ∷ []))))
byte_cases room q b = elim (cases_lt room (length (part (q ++ b ∷ [])))) [
  | inr l ↦ inl (rw (le-ltb room (length (part (q ++ b ∷ []))) l) refl)
  | inl l ↦ elim (cases_lt (length (part q)) (length (part (q ++ b ∷ [])))) [
    | inl k ↦ inr ((rw (lt-ltb room (length (part (q ++ b ∷ []))) l, lt-ltb (length (part q)) (length (part (q ++ b ∷ []))) k) refl), l)
    | inr k ↦ inl (rw (lt-ltb room (length (part (q ++ b ∷ []))) l, le-ltb (length (part q)) (length (part (q ++ b ∷ []))) k) refl)
  ]
]

-- the first answer behind one byte
behind_byte : (room : ℕ) (q : List ℕ) (b : ℕ) (p : List ℕ) (used : ℕ) → 0 < b
    → first_answer room q (b ∷ p) used ≡ answered (at_byte room q b) (used + 1) (first_answer room (q ++ b ∷ []) p (used + 1))
behind_byte room q b p used z =
    ap (λ a. answered a (used + 1) (first_answer room (frame_after q b) p (used + 1))) (answer_byte room q b z)
    ∙ ap (λ f. answered (at_byte room q b) (used + 1) (first_answer room f p (used + 1))) (frame_byte q b z)

-- what the zero behind a frame comes to
abbrev answer_by : Bool → ℕ → ℕ → Result (Option DecodeReport) DecodeError
answer_by t u n = if t then Err TargetBufTooSmall else Ok (Some (report u n))

zero_by : (t : Bool) (u n : ℕ) → answered (if t then Err TargetBufTooSmall else Ok (Some n)) u (Ok None) ≡ answer_by t u n
zero_by true u n = refl
zero_by false u n = refl

reported_by : (t : Bool) (u n limit : ℕ) → reported limit (answer_by t u n) ≡ (if t then Err TargetBufTooSmall else Ok (report (min u limit) n))
reported_by true u n limit = refl
reported_by false u n limit = refl

frame_first : (room : ℕ) (q p : List ℕ) (used : ℕ) (message : List ℕ) → NoZero p → Frame (q ++ p) message
    → first_answer room q (p ++ 0 ∷ []) used ≡ answer_by (nat_lt room (length message)) (used + length p + 1) (length message)
frame_first room q [] used message z f =
    ap (λ a. answered a (used + 1) (Ok None)) (zero_answers room q message (subst (λ s. Frame s message) (append-nil q) f))
    ∙ zero_by (nat_lt room (length message)) (used + 1) (length message)
    ∙ ap (λ u. answer_by (nat_lt room (length message)) u (length message)) (omega arith)
frame_first room q (b ∷ p) used message z f =
    let g : Frame ((q ++ b ∷ []) ++ p) message = subst (λ s. Frame s message) (sym (append_assoc q (b ∷ []) p)) f in
    behind_byte room q b (p ++ 0 ∷ []) used z.0 ∙ elim (byte_cases room q b) [
      | inl e ↦
          ap (λ a. answered a (used + 1) (first_answer room (q ++ b ∷ []) (p ++ 0 ∷ []) (used + 1))) e
          ∙ frame_first room (q ++ b ∷ []) p (used + 1) message z.1 g
          ∙ ap (λ u. answer_by (nat_lt room (length message)) u (length message)) (omega arith)
      | inr e ↦
          let long : room < length message = omega (arith, e.1, decided_on (q ++ b ∷ []) p, ap length (frame_reads ((q ++ b ∷ []) ++ p) message g)) in
          ap (λ a. answered a (used + 1) (first_answer room (q ++ b ∷ []) (p ++ 0 ∷ []) (used + 1))) e.0
          ∙ sym (ap (λ t. answer_by t (used + length (b ∷ p) + 1) (length message)) (lt-ltb room (length message) long))
    ]

pub decodes_frames : (room : ℕ) (source message : List ℕ) → Frame (frame_in source) message
    → decoded_from room source ≡ (if nat_lt room (length message) then Err TargetBufTooSmall else Ok (report (min (length source - length (unpadded source) + length (frame_in source) + 1) (length source)) (length message)))
decodes_frames room source message f =
    ap (reported (length source)) (frame_first room [] (frame_in source) (length source - length (unpadded source)) message (found_clear source (frame_in source) refl) f)
    ∙ reported_by (nat_lt room (length message)) (length source - length (unpadded source) + length (frame_in source) + 1) (length message) (length source)

-- what bytes and the zero behind them come to
abbrev behind_all : Bool → ℕ → List ℕ → ℕ → Result (Option DecodeReport) DecodeError
behind_all t room s used = if t then Err TargetBufTooSmall else answered (at_zero room s) used (Ok None)

-- the first answer to bytes and the zero behind them, where those before have room
first_of : (room : ℕ) (q p : List ℕ) (used : ℕ) → NoZero p → length (part q) ≤ room
    → first_answer room q (p ++ 0 ∷ []) used ≡ behind_all (nat_lt room (length (part (q ++ p)))) room (q ++ p) (used + length p + 1)
first_of room q [] used z w =
    rw (append-nil q, le-ltb room (length (part q)) w) (ap (λ u. answered (at_zero room q) u (Ok None)) (omega arith))
first_of room q (b ∷ p) used z w =
    let later = first_answer room (q ++ b ∷ []) (p ++ 0 ∷ []) (used + 1) in
    let same : (q ++ b ∷ []) ++ p ≡ q ++ b ∷ p = append_assoc q (b ∷ []) p in
    behind_byte room q b (p ++ 0 ∷ []) used z.0 ∙ elim (cases_lt room (length (part (q ++ b ∷ [])))) [
      | inl l ↦
          let long : room < length (part (q ++ b ∷ p)) = omega (arith, l, decided_on (q ++ b ∷ []) p, ap (λ s. length (part s)) same) in
          let grown : length (part q) < length (part (q ++ b ∷ [])) = omega (arith, l, w) in
          let refused : at_byte room q b ≡ Err TargetBufTooSmall =
          rw (lt-ltb room (length (part (q ++ b ∷ []))) l, lt-ltb (length (part q)) (length (part (q ++ b ∷ []))) grown) refl in
          ap (λ a. answered a (used + 1) later) refused
          ∙ sym (ap (λ t. behind_all t room (q ++ b ∷ p) (used + length (b ∷ p) + 1)) (lt-ltb room (length (part (q ++ b ∷ p))) long))
      | inr l ↦
          let passed : at_byte room q b ≡ Ok None = rw (le-ltb room (length (part (q ++ b ∷ []))) l) refl in
          let count : used + 1 + length p + 1 ≡ used + length (b ∷ p) + 1 = omega arith in
          ap (λ a. answered a (used + 1) later) passed
          ∙ first_of room (q ++ b ∷ []) p (used + 1) z.1 l
          ∙ ap (λ s. behind_all (nat_lt room (length (part s))) room s (used + 1 + length p + 1)) same
          ∙ ap (λ u. behind_all (nat_lt room (length (part (q ++ b ∷ p)))) room (q ++ b ∷ p) u) count
    ]

both : (p : List ℕ) → NoZero p → AllByRecursion (λ b. b < 256) p → Stretch p
both [] z s = tt
both (b ∷ p) z s = ((z.0, s.0), both p z.1 s.1)

refused_by : (room : ℕ) (p : List ℕ) (used limit : ℕ) → Stretch p → ((message : List ℕ) → Frame p message → ⊥)
    → reported limit (behind_all (nat_lt room (length (part p))) room p used) ≡ Err (refusal room p)
refused_by room [] used limit s h = rw (le-ltb room 0 (omega arith)) refl
refused_by room (code ∷ p) used limit s h = elim (cases_lt room (length (part (code ∷ p)))) [
  | inl l ↦ rw (lt-ltb room (length (part (code ∷ p))) l) refl
  | inr l ↦
      let t = le-ltb room (length (part (code ∷ p))) l in
      let few : min (length (part (code ∷ p))) room ≡ length (part (code ∷ p)) = omega (arith, l) in
      ap (λ c. reported limit (behind_all c room (code ∷ p) used)) t
      ∙ ap (λ a. reported limit (answered a used (Ok None))) (zero_refuses room (code ∷ p) s (λ x. cc) h)
      ∙ ap (λ n. Err (InvalidFrame n)) few
      ∙ sym (ap (λ c. Err (if c then TargetBufTooSmall else InvalidFrame (length (part (code ∷ p))))) t)
]

pub refuses_sources : (room : ℕ) (source : List ℕ) → AllByRecursion (λ b. b < 256) (frame_in source) → ((message : List ℕ) → Frame (frame_in source) message → ⊥)
    → decoded_from room source ≡ Err (refusal room (frame_in source))
refuses_sources room source s h =
    let z = found_clear source (frame_in source) refl in
    ap (reported (length source)) (first_of room [] (frame_in source) (length source - length (unpadded source)) z (omega arith))
    ∙ refused_by room (frame_in source) (length source - length (unpadded source) + length (frame_in source) + 1) (length source) (both (frame_in source) z s) h

-- bytes that are decoded at once

pub decodes_stretches : (room : ℕ) (bytes message : List ℕ) → Frame bytes message
    → (decoded_into room bytes ≡ (if nat_lt room (length message) then Err TargetBufTooSmall else Ok (length message))) × (message_of_stretch bytes ≡ Ok message)
decodes_stretches room bytes message f =
    let whole = eq-eqb (missing bytes) 0 (frame_ends bytes message f) in
    let reads = sym (frame_reads bytes message f) in
    (rw (whole, reads) refl, rw (whole, reads) refl)

pub refuses_stretches : (room : ℕ) (bytes : List ℕ) → Stretch bytes → bytes ≢ [] → ((message : List ℕ) → Frame bytes message → ⊥)
    → (decoded_into room bytes ≡ Err (InvalidFrame (length (part bytes)))) × (message_of_stretch bytes ≡ Err (InvalidFrame (length (part bytes))))
refuses_stretches room bytes s n h =
    let broken = ne_eqb (missing bytes) 0 (λ m. h (part bytes) (stretch_frame bytes s n m)) in
    (rw broken refl, rw broken refl)

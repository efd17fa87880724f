-- The message that stands in front of a buffer.
use Rattle.std.proofs.Common.{◌≡◌, ℕ, zero, suc, ◌+◌, ◌≤◌, ◌==◌, nat_lt, ◌&&◌, if◌then◌else◌, Bool, true, false, List, [], ◌∷◌, ◌++◌, length, take, set, Result, Option, Some, None, Ok, Err, inl, inr, refl, ap, sym, ◌∙◌, arith, length-set}
use Rattle.std.proofs.lemmas.List.{append-nil, take_all, take_more_set, set_past, take-append-le, length_push}
use Rattle.std.proofs.lemmas.Bool.{ne_eqb, cases_lt, ltb-false}
use Rattle.std.proofs.lemmas.Bool.Decides.{eqb_tells}
use Rattle.cobs.specs.Frames.{part, after, missing}
use Rattle.cobs.specs.Feeding.{told_by, listed, fed, standing, at_zero, answer_of, frame_after, placed, stored}
use Rattle.cobs.specs.Pieces.{answered, ended, first_answer, frame_left, frame_met, buffer_left}
use Rattle.cobs.specs.Reports.{report, frame_size}
use Rattle.cobs.specs.Streaming.{Decoded}
use Rattle.cobs.specs.declared.dec.report.DecodeError.{DecodeError}
use Rattle.cobs.specs.declared.dec.report.DecodeError.TheVariants.{InvalidFrame, TargetBufTooSmall}
use Rattle.cobs.specs.declared.dec.report.DecodeReport.{DecodeReport}
use Rattle.cobs.specs.declared.dec.state.DecodeResult.TheVariants.{DataComplete}
use Rattle.cobs.proofs.FeedsLemmas.{part_told, frame_byte, answer_byte, fed_zero}

length-stored : (told : Option ℕ) (place : ℕ) (buffer : List ℕ) → length (stored told place buffer) ≡ length buffer
length-stored None place buffer = refl
length-stored (Some byte) place buffer = length-set buffer place byte

pub length-placed : (bytes : List ℕ) (byte : ℕ) (buffer : List ℕ) → length (placed bytes byte buffer) ≡ length buffer
length-placed bytes byte buffer = length-stored (told_by (fed (standing bytes) byte)) (length (part bytes)) buffer

-- a byte of the message more
shown : (told : Option ℕ) (message buffer : List ℕ) → take (length message) buffer ≡ take (length buffer) message
    → take (length (message ++ listed told)) (stored told (length message) buffer) ≡ take (length (stored told (length message) buffer)) (message ++ listed told)
shown None message buffer h = rw (append-nil message) h
shown (Some byte) message buffer h =
    let long : length (message ++ byte ∷ []) ≡ length message + 1 = length_push message byte in
    elim (cases_lt (length message) (length buffer)) [
      | inl l ↦
          ap (λ n. take n (set buffer (length message) byte)) long
          ∙ take_more_set buffer (length message) byte l
          ∙ ap (λ m. m ++ byte ∷ []) (h ∙ take_all (length buffer) message (omega (arith, l)))
          ∙ sym (ap (λ n. take n (message ++ byte ∷ [])) (length-set buffer (length message) byte) ∙ take_all (length buffer) (message ++ byte ∷ []) (omega (arith, long, l)))
      | inr l ↦
          take_all (length (message ++ byte ∷ [])) (set buffer (length message) byte) (omega (arith, long, l, length-set buffer (length message) byte))
          ∙ set_past buffer (length message) byte l
          ∙ sym (take_all (length message) buffer l)
          ∙ h
          ∙ sym (ap (λ n. take n (message ++ byte ∷ [])) (length-set buffer (length message) byte) ∙ take-append-le (length buffer) message (byte ∷ []) l)
    ]

none_shown : (buffer : List ℕ) → Decoded buffer []
none_shown buffer = sym (take_all (length buffer) [] (omega arith))

pub decoded_next : (bytes : List ℕ) (byte : ℕ) (buffer : List ℕ) → Decoded buffer bytes → Decoded (placed bytes byte buffer) (frame_after bytes byte)
decoded_next bytes zero buffer h = none_shown (placed bytes 0 buffer)
decoded_next bytes (suc byte) buffer h =
    rw (frame_byte bytes (suc byte) (omega arith), part_told bytes (suc byte) (omega arith)) (shown (told_by (fed (standing bytes) (suc byte))) (part bytes) buffer h)

-- the same behind a piece
either : (a : Result (Option ℕ) DecodeError) (b b' f f' : List ℕ) → Decoded b f → Decoded b' f' → Decoded (ended a b b') (ended a f f')
either (Ok None) b b' f f' h h' = h'
either (Ok (Some n)) b b' f f' h h' = h
either (Err e) b b' f f' h h' = h

pub decoded_left : (room : ℕ) (frame piece buffer : List ℕ) → Decoded buffer frame → Decoded (buffer_left room frame piece buffer) (frame_left room frame piece)
decoded_left room frame [] buffer h = h
decoded_left room frame (byte ∷ piece) buffer h =
    let now = decoded_next frame byte buffer h in
    either (answer_of room frame byte) (placed frame byte buffer) _ (frame_after frame byte) _ now (decoded_left room (frame_after frame byte) piece (placed frame byte buffer) now)

-- a zero puts nothing into a buffer
nothing_told : (bytes : List ℕ) → told_by (fed (standing bytes) 0) ≡ None
nothing_told [] = refl
nothing_told (code ∷ bytes) = let a = after 0 false (code ∷ bytes) in ap told_by (fed_zero a.0 a.1) ∙ none a.0
  where
    none : (left : ℕ) → told_by (if left == 0 then Ok DataComplete else Err (InvalidFrame 0)) ≡ None
    none left = elim (eqb_tells left 0) [
      | inl t ↦ rw (t.1) refl
      | inr t ↦ rw (ne_eqb left 0 t.1) refl
    ]

pub placed_zero : (bytes buffer : List ℕ) → placed bytes 0 buffer ≡ buffer
placed_zero bytes buffer = ap (λ o. stored o (length (part bytes)) buffer) (nothing_told bytes)

-- an answer is of a whole message that had room
whole_fits : (t u : Bool) (n len least : ℕ) → ◌≡◌ {A = Result (Option ℕ) DecodeError} (if t then (if u then Err TargetBufTooSmall else Ok (Some len)) else Err (InvalidFrame least)) (Ok (Some n)) → (u ≡ false) × (n ≡ len)
whole_fits true true n len least h = absurd (cc)
whole_fits true false n len least h = (refl, (cc))
whole_fits false u n len least h = absurd (cc)

pub zero_fits : (room : ℕ) (bytes : List ℕ) (n : ℕ) → at_zero room bytes ≡ Ok (Some n) → (nat_lt room (length (part bytes)) ≡ false) × (n ≡ length (part bytes))
zero_fits room [] n h = absurd (cc)
zero_fits room (code ∷ bytes) n h = whole_fits (missing (code ∷ bytes) == 0) (nat_lt room (length (part (code ∷ bytes)))) n (length (part (code ∷ bytes))) _ h

byte_silent : (t : Bool) (n : ℕ) → ◌≡◌ {A = Result (Option ℕ) DecodeError} (if t then Err TargetBufTooSmall else Ok None) (Ok (Some n)) → ⊥
byte_silent true n h = cc
byte_silent false n h = cc

pub message_here : (room : ℕ) (bytes : List ℕ) (byte n : ℕ) (buffer : List ℕ) → room ≡ length buffer → Decoded buffer bytes → answer_of room bytes byte ≡ Ok (Some n) → take n (placed bytes byte buffer) ≡ part bytes
message_here room bytes zero n buffer r h a =
    let f = zero_fits room bytes n a in
    let fit : length (part bytes) ≤ length buffer = omega (arith, r, ltb-false room (length (part bytes)) f.0) in
    ap (take n) (placed_zero bytes buffer) ∙ ap (λ k. take k buffer) f.1 ∙ h ∙ take_all (length buffer) (part bytes) fit
message_here room bytes (suc byte) n buffer r h a =
    absurd (byte_silent (nat_lt room (length (part (bytes ++ suc byte ∷ []))) && nat_lt (length (part bytes)) (length (part (bytes ++ suc byte ∷ [])))) n (sym (answer_byte room bytes (suc byte) (omega arith)) ∙ a))

-- and so behind a piece
pub message_met : (room : ℕ) (frame piece buffer : List ℕ) (used : ℕ) (r : DecodeReport) → room ≡ length buffer → Decoded buffer frame → first_answer room frame piece used ≡ Ok (Some r) → take (frame_size r) (buffer_left room frame piece buffer) ≡ part (frame_met room frame piece)
message_met room frame [] buffer used r e h a = absurd (cc)
message_met room frame (byte ∷ piece) buffer used r e h a =
    step (answer_of room frame byte) refl a (message_met room (frame_after frame byte) piece (placed frame byte buffer) (used + 1) r (e ∙ sym (length-placed frame byte buffer)) (decoded_next frame byte buffer h))
  where
    step : (o : Result (Option ℕ) DecodeError) → answer_of room frame byte ≡ o → answered o (used + 1) (first_answer room (frame_after frame byte) piece (used + 1)) ≡ Ok (Some r)
        → (first_answer room (frame_after frame byte) piece (used + 1) ≡ Ok (Some r) → take (frame_size r) (buffer_left room (frame_after frame byte) piece (placed frame byte buffer)) ≡ part (frame_met room (frame_after frame byte) piece))
        → take (frame_size r) (ended o (placed frame byte buffer) (buffer_left room (frame_after frame byte) piece (placed frame byte buffer))) ≡ part (ended o frame (frame_met room (frame_after frame byte) piece))
    step (Ok None) i a' later = later a'
    step (Ok (Some n)) i a' later =
        let same : report (used + 1) n ≡ r = cc in
        ap (λ q. take (frame_size q) (placed frame byte buffer)) (sym same) ∙ message_here room frame byte n buffer e h i
    step (Err x) i a' later = absurd (cc)

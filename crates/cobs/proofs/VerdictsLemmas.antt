-- What an answer says of the frame: its message, or that it has none or one that is too long.
use Rattle.std.proofs.Common.{◌≡◌, ◌≢◌, ℕ, zero, suc, ◌+◌, ◌-◌, ◌<◌, ◌≤◌, List, [], ◌∷◌, ◌++◌, length, take, drop, get_or, Result, Some, Ok, Err, inl, inr, refl, ap, sym, subst, ◌∙◌, arith}
use Rattle.std.proofs.lemmas.Bool.{eq-eqb, ne_eqb, le-ltb, lt-ltb, cases_lt}
use Rattle.std.proofs.lemmas.Bool.Decides.{eqb_tells}
use Rattle.std.proofs.lemmas.Nat.{xor_of_8}
use Rattle.std.specs.Prelude.{min, IfOk, IfErr, OnErr, MatchResult, ◌⊎◌}
use Rattle.cobs.specs.Frames.{Frame, NoZero, part, missing, spelled}
use Rattle.cobs.specs.Feeding.{at_zero}
use Rattle.cobs.specs.InPlace.{stretch, in_place, overwritten}
use Rattle.cobs.specs.Pieces.{first_answer}
use Rattle.cobs.specs.Reports.{report, frame_size}
use Rattle.cobs.specs.Sentinel.{masked}
use Rattle.cobs.specs.Whole.{unpadded, frame_in, decoded_from, decoded_into, reported, message_of_stretch, message_of_frame, RefusesWhole}
use Rattle.cobs.specs.declared.dec.report.DecodeError.{DecodeError}
use Rattle.cobs.specs.declared.dec.report.DecodeError.TheVariants.{EmptyFrame, InvalidFrame, TargetBufTooSmall}
use Rattle.cobs.specs.declared.dec.report.DecodeReport.{DecodeReport}
use Rattle.cobs.specs.declared.dec.report.DecodeVecError.{DecodeVecError}
use Rattle.cobs.specs.declared.dec.report.DecodeVecError.TheVariants.{Decode, OutOfMemory}
use Rattle.cobs.proofs.DecodingLemmas.{Stretch, part_shorter, stretch_frame, frame_reads, frame_ends}
use Rattle.cobs.proofs.MaskingLemmas.{masked_length}
use Rattle.cobs.proofs.OverwritingLemmas.{front, rest}
use Rattle.cobs.proofs.PassingLemmas.{refuses}
use Rattle.cobs.proofs.PushingLemmas.{short_refused, short_whole}
use Rattle.cobs.proofs.SourcesLemmas.{stretch_clear}
use Rattle.cobs.proofs.WindowsLemmas.{no_bytes}

-- the bytes before the first zero are bytes
stretch_of_bytes : (bytes : List ℕ) → ((k : ℕ) → get_or bytes k 0 < 256) → Stretch (stretch bytes)
stretch_of_bytes [] h = tt
stretch_of_bytes (b ∷ bytes) h = elim (eqb_tells b 0) [
  | inl t ↦ rw (eq-eqb b 0 t.1) tt
  | inr t ↦ rw (ne_eqb b 0 t.1) ((omega (arith, t.1), h 0), stretch_of_bytes bytes (λ k. h (suc k)))
]

masked_small : (sentinel : ℕ) (bytes : List ℕ) → sentinel < 256 → ((k : ℕ) → get_or bytes k 0 < 256) → (k : ℕ) → get_or (masked sentinel bytes) k 0 < 256
masked_small s [] f h k = h k
masked_small s (b ∷ bytes) f h zero = xor_of_8 s b f (h 0)
masked_small s (b ∷ bytes) f h (suc k) = masked_small s bytes f (λ j. h (suc j)) k

pub stretch_masked : (sentinel : ℕ) (bytes : List ℕ) → sentinel < 256 → ((k : ℕ) → get_or bytes k 0 < 256) → Stretch (stretch (masked sentinel bytes))
stretch_masked s bytes f h = stretch_of_bytes (masked s bytes) (masked_small s bytes f h)

unpadded_small : (source : List ℕ) → ((k : ℕ) → get_or source k 0 < 256) → (k : ℕ) → get_or (unpadded source) k 0 < 256
unpadded_small [] h = h
unpadded_small (b ∷ source) h = elim (eqb_tells b 0) [
  | inl t ↦ rw (eq-eqb b 0 t.1) (unpadded_small source (λ k. h (suc k)))
  | inr t ↦ rw (ne_eqb b 0 t.1) h
]

pub stretch_found : (source : List ℕ) → ((k : ℕ) → get_or source k 0 < 256) → Stretch (frame_in source)
stretch_found source h = stretch_of_bytes (unpadded source) (unpadded_small source h)

module _ (p old : List ℕ) where
  pub into_frame : (r : Result ℕ DecodeError) (new : List ℕ) → Stretch p → r ≡ decoded_into (length old) p → new ≡ overwritten (part p) old → IfOk r (λ n. p ≢ [] → Frame p (take n new))
  into_frame (Ok n) new s a h = λ some. elim (eqb_tells (missing p) 0) [
    | inl t ↦ elim (cases_lt (length old) (length (part p))) [
      | inl l ↦
          let is : ◌≡◌ {A = Result ℕ DecodeError} (Ok n) (Err TargetBufTooSmall) = a ∙ rw (eq-eqb (missing p) 0 t.1, lt-ltb (length old) (length (part p)) l) refl in
          absurd (cc)
      | inr l ↦
          let is : ◌≡◌ {A = Result ℕ DecodeError} (Ok n) (Ok (length (part p))) = a ∙ rw (eq-eqb (missing p) 0 t.1, le-ltb (length old) (length (part p)) l) refl in
          let e : n ≡ length (part p) = cc in
          subst (Frame p) (sym (ap (take n) h ∙ front old (part p) n e (omega (arith, e, l)))) (stretch_frame p s some t.1)
    ]
    | inr t ↦
        let is : ◌≡◌ {A = Result ℕ DecodeError} (Ok n) (Err (InvalidFrame (length (part p)))) = a ∙ rw (ne_eqb (missing p) 0 t.1) refl in
        absurd (cc)
  ]
  into_frame (Err x) new s a h = tt

  pub into_no_frame : (r : Result ℕ DecodeError) → r ≡ decoded_into (length old) p → OnErr r ((m : List ℕ) → Frame p m → length old < length m)
  into_no_frame (Ok n) a = tt
  into_no_frame (Err x) a = λ m f. elim (cases_lt (length old) (length (part p))) [
    | inl l ↦ omega (arith, l, ap length (frame_reads p m f))
    | inr l ↦
        let is : ◌≡◌ {A = Result ℕ DecodeError} (Err x) (Ok (length (part p))) = a ∙ rw (eq-eqb (missing p) 0 (frame_ends p m f), le-ltb (length old) (length (part p)) l) refl in
        absurd (cc)
  ]

  pub into_within : (r : Result ℕ DecodeError) → r ≡ decoded_into (length old) p → IfOk r (λ n. n ≤ length old)
  into_within (Ok n) a = elim (eqb_tells (missing p) 0) [
    | inl t ↦ elim (cases_lt (length old) (length (part p))) [
      | inl l ↦
          let is : ◌≡◌ {A = Result ℕ DecodeError} (Ok n) (Err TargetBufTooSmall) = a ∙ rw (eq-eqb (missing p) 0 t.1, lt-ltb (length old) (length (part p)) l) refl in
          absurd (cc)
      | inr l ↦
          let is : ◌≡◌ {A = Result ℕ DecodeError} (Ok n) (Ok (length (part p))) = a ∙ rw (eq-eqb (missing p) 0 t.1, le-ltb (length old) (length (part p)) l) refl in
          let e : n ≡ length (part p) = cc in
          omega (arith, e, l)
    ]
    | inr t ↦
        let is : ◌≡◌ {A = Result ℕ DecodeError} (Ok n) (Err (InvalidFrame (length (part p)))) = a ∙ rw (ne_eqb (missing p) 0 t.1) refl in
        absurd (cc)
  ]
  into_within (Err x) a = tt

-- what decoding in place answers, by frames, and what it leaves
shorter_stretch : (bytes : List ℕ) → length (stretch bytes) ≤ length bytes
shorter_stretch [] = omega arith
shorter_stretch (b ∷ bytes) = elim (eqb_tells b 0) [
  | inl t ↦ rw (eq-eqb b 0 t.1) (omega arith)
  | inr t ↦ rw (ne_eqb b 0 t.1) (omega (arith, shorter_stretch bytes))
]

module _ (s : ℕ) (old new : List ℕ) (key : s < 256) (small : (k : ℕ) → get_or old k 0 < 256) (h : new ≡ overwritten (part (stretch (masked s old))) old) where
  abbrev met : List ℕ
  met = stretch (masked s old)

  met_within : length met ≤ length old
  met_within = omega (arith, shorter_stretch (masked s old), masked_length s old)

  pub in_place_frame : (r : Result DecodeReport DecodeError) → r ≡ in_place met → IfOk r (λ q. met ≢ [] → Frame met (take (frame_size q) new))
  in_place_frame (Err x) a = tt
  in_place_frame (Ok q) a = λ some. elim (eqb_tells (missing met) 0) [
    | inl t ↦
        let is : ◌≡◌ {A = Result DecodeReport DecodeError} (Ok q) (Ok (report (length met) (length (part met)))) = a ∙ rw (eq-eqb (missing met) 0 t.1) refl in
        let same : q ≡ report (length met) (length (part met)) = cc in
        let n : frame_size q ≡ length (part met) = ap frame_size same in
        subst (Frame met) (sym (ap (take (frame_size q)) h ∙ front old (part met) (frame_size q) n (omega (arith, n, part_shorter met, met_within)))) (stretch_frame met (stretch_masked s old key small) some t.1)
    | inr t ↦
        let is : ◌≡◌ {A = Result DecodeReport DecodeError} (Ok q) (Err (InvalidFrame (length (part met)))) = a ∙ rw (ne_eqb (missing met) 0 t.1) refl in
        absurd (cc)
  ]

  pub in_place_no_frame : (r : Result DecodeReport DecodeError) → r ≡ in_place met → OnErr r ((m : List ℕ) → Frame met m → ⊥)
  in_place_no_frame (Ok q) a = tt
  in_place_no_frame (Err x) a = λ m f.
      let is : ◌≡◌ {A = Result DecodeReport DecodeError} (Err x) (Ok (report (length met) (length (part met)))) = a ∙ rw (eq-eqb (missing met) 0 (frame_ends met m f)) refl in
      absurd (cc)

  pub in_place_rest : drop (length met) new ≡ drop (length met) old
  in_place_rest = ap (drop (length met)) h ∙ rest old (part met) (length met) (omega (arith, part_shorter met)) met_within

-- bytes without the sentinel, each XORed with it
clear_bytes : (p : List ℕ) → NoZero p → ((k : ℕ) → get_or p k 0 < 256) → Stretch p
clear_bytes [] z h = tt
clear_bytes (b ∷ p) z h = ((z.0, h 0), clear_bytes p z.1 (λ k. h (suc k)))

pub clear_masked : (sentinel : ℕ) (bytes : List ℕ) → NoZero (masked sentinel bytes) → sentinel < 256 → ((k : ℕ) → get_or bytes k 0 < 256) → Stretch (masked sentinel bytes)
clear_masked s bytes z f h = clear_bytes (masked s bytes) z (masked_small s bytes f h)

-- what a streaming decoder answers to the zero behind a frame that has room
zero_whole : (room : ℕ) (frame : List ℕ) → 0 < length frame → missing frame ≡ 0 → length (part frame) ≤ room → at_zero room frame ≡ Ok (Some (length (part frame)))
zero_whole room [] p m l = absurd (omega arith)
zero_whole room (code ∷ bytes) p m l = rw (eq-eqb (missing (code ∷ bytes)) 0 m, le-ltb room (length (part (code ∷ bytes))) l) refl

zero_broken : (room : ℕ) (frame : List ℕ) → 0 < length frame → missing frame ≢ 0 → at_zero room frame ≡ Err (InvalidFrame (min (length (part frame)) room))
zero_broken room [] p m = absurd (omega arith)
zero_broken room (code ∷ bytes) p m = rw (ne_eqb (missing (code ∷ bytes)) 0 m) refl

spelled_some : (run : List ℕ) (runs : List (List ℕ)) → 0 < length (spelled run runs)
spelled_some run [] = omega arith
spelled_some run (next ∷ runs) = omega arith

module _ (source dest : List ℕ) where
  abbrev room : ℕ
  room = length dest

  abbrev frame : List ℕ
  frame = frame_in source

  empty_is : length frame ≡ 0 → decoded_from room source ≡ Err EmptyFrame
  empty_is z = ap (λ f. reported (length source) (first_answer room [] (f ++ 0 ∷ []) (length source - length (unpadded source)))) (no_bytes frame z)

  over_is : room < length (part frame) → decoded_from room source ≡ Err TargetBufTooSmall
  over_is l = ap (reported (length source)) (refuses dest [] frame (0 ∷ []) (length source - length (unpadded source)) (stretch_clear (unpadded source)) (omega arith) l).0

  abbrev parsed : ℕ
  parsed = min (length source - length (unpadded source) + length frame + 1) (length source)

  whole_is : 0 < length frame → missing frame ≡ 0 → length (part frame) ≤ room → decoded_from room source ≡ Ok (report parsed (length (part frame)))
  whole_is p m l = sym (short_whole source (unpadded source) dest refl l (at_zero room frame) refl (length (part frame)) parsed (zero_whole room frame p m l) refl)

  broken_is : 0 < length frame → missing frame ≢ 0 → length (part frame) ≤ room → decoded_from room source ≡ Err (InvalidFrame (min (length (part frame)) room))
  broken_is p m l = sym (short_refused source (unpadded source) dest refl l (at_zero room frame) refl (InvalidFrame (min (length (part frame)) room)) (zero_broken room frame p m))

  some_of : (m : List ℕ) → Frame frame m → 0 < length frame
  some_of m f = omega (arith, ap length f.spells, spelled_some f.first f.others)

  pub from_frame : (r : Result DecodeReport DecodeError) (new : List ℕ) → Stretch frame → r ≡ decoded_from room source → new ≡ overwritten (part frame) dest → IfOk r (λ q. Frame frame (take (frame_size q) new))
  from_frame (Err x) new s a h = tt
  from_frame (Ok q) new s a h = elim (eqb_tells (length frame) 0) [
    | inl z ↦ let is : ◌≡◌ {A = Result DecodeReport DecodeError} (Ok q) (Err EmptyFrame) = a ∙ empty_is z.1 in absurd (cc)
    | inr z ↦ elim (cases_lt room (length (part frame))) [
      | inl l ↦ let is : ◌≡◌ {A = Result DecodeReport DecodeError} (Ok q) (Err TargetBufTooSmall) = a ∙ over_is l in absurd (cc)
      | inr l ↦ elim (eqb_tells (missing frame) 0) [
        | inl t ↦
            let some : 0 < length frame = omega (arith, z.1) in
            let is : ◌≡◌ {A = Result DecodeReport DecodeError} (Ok q) (Ok (report parsed (length (part frame)))) = a ∙ whole_is some t.1 l in
            let same : q ≡ report parsed (length (part frame)) = cc in
            let n : frame_size q ≡ length (part frame) = ap frame_size same in
            subst (Frame frame) (sym (ap (take (frame_size q)) h ∙ front dest (part frame) (frame_size q) n (omega (arith, n, l)))) (stretch_frame frame s (λ e. z.1 (ap length e)) t.1)
        | inr t ↦
            let is : ◌≡◌ {A = Result DecodeReport DecodeError} (Ok q) (Err (InvalidFrame (min (length (part frame)) room))) = a ∙ broken_is (omega (arith, z.1)) t.1 l in
            absurd (cc)
      ]
    ]
  ]

  pub from_no_frame : (r : Result DecodeReport DecodeError) → r ≡ decoded_from room source → OnErr r ((m : List ℕ) → Frame frame m → room < length m)
  from_no_frame (Ok q) a = tt
  from_no_frame (Err x) a = λ m f. elim (cases_lt room (length (part frame))) [
    | inl l ↦ omega (arith, l, ap length (frame_reads frame m f))
    | inr l ↦
        let is : ◌≡◌ {A = Result DecodeReport DecodeError} (Err x) (Ok (report parsed (length (part frame)))) = a ∙ whole_is (some_of m f) (frame_ends frame m f) l in
        absurd (cc)
  ]

-- a message that is answered is the frame's
pub frame_of_message : (p message : List ℕ) → Stretch p → message_of_frame p ≡ Ok message → Frame p message
frame_of_message [] message s e = absurd (cc)
frame_of_message (code ∷ bytes) message s e =
    let p : List ℕ = code ∷ bytes in
    elim (eqb_tells (missing p) 0) [
      | inl t ↦
          let is : ◌≡◌ {A = Result (List ℕ) DecodeError} (Ok (part p)) (Ok message) = sym (rw (eq-eqb (missing p) 0 t.1) refl) ∙ e in
          let same : part p ≡ message = cc in
          subst (Frame p) same (stretch_frame p s (λ n. cc) t.1)
      | inr t ↦
          let is : ◌≡◌ {A = Result (List ℕ) DecodeError} (Err (InvalidFrame (length (part p)))) (Ok message) = sym (rw (ne_eqb (missing p) 0 t.1) refl) ∙ e in
          absurd (cc)
    ]

pub frame_of_stretch : (p message : List ℕ) → Stretch p → message_of_stretch p ≡ Ok message → p ≢ [] → Frame p message
frame_of_stretch [] message s e some = absurd (some refl)
frame_of_stretch (code ∷ bytes) message s e some = frame_of_message (code ∷ bytes) message s e

-- where bytes are refused, they are no frame, or there is no memory
pub stretch_refused : (p : List ℕ) (x : DecodeVecError) → RefusesWhole x (message_of_stretch p) → (x ≡ OutOfMemory) ⊎ ((m : List ℕ) → Frame p m → ⊥)
stretch_refused p OutOfMemory h = inl refl
stretch_refused p (Decode e) h = inr (λ m f.
    let is : ◌≡◌ {A = Result (List ℕ) DecodeError} (Err e) (Ok (part p)) = sym h ∙ rw (eq-eqb (missing p) 0 (frame_ends p m f)) refl in
    absurd (cc))

pub frame_refused : (p : List ℕ) (x : DecodeVecError) → RefusesWhole x (message_of_frame p) → (x ≡ OutOfMemory) ⊎ ((m : List ℕ) → Frame p m → ⊥)
frame_refused [] OutOfMemory h = inl refl
frame_refused [] (Decode e) h = inr (λ m f. absurd (omega (arith, ap length f.spells, spelled_some f.first f.others)))
frame_refused (code ∷ bytes) x h = stretch_refused (code ∷ bytes) x h

pub if_answered : {A E : Type 0} (r : Result A E) (P Q : A → Type 0) (R : E → Type 0) → MatchResult r P R → ((x : A) → P x → Q x) → IfOk r Q
if_answered (Ok x) P Q R m f = f x m
if_answered (Err e) P Q R m f = tt

pub if_refused : {A E : Type 0} (r : Result A E) (P : A → Type 0) (R S : E → Type 0) → MatchResult r P R → ((e : E) → R e → S e) → IfErr r S
if_refused (Ok x) P R S m f = tt
if_refused (Err e) P R S m f = f e m

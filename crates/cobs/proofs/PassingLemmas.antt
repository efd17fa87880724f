-- Bytes of a frame that are pushed one behind the other.
use Rattle.std.proofs.Common.{◌≡◌, ℕ, ◌+◌, ◌<◌, ◌≤◌, List, [], ◌∷◌, ◌++◌, length, take, false, None, Ok, Err, inl, inr, refl, ap, sym, ◌∙◌, arith, append_assoc, length-append}
use Rattle.std.proofs.lemmas.List.{append-nil, take-append-le}
use Rattle.std.proofs.lemmas.Bool.{lt-ltb, le-ltb, cases_lt}
use Rattle.cobs.specs.Frames.{NoZero, part, part_from, after}
use Rattle.cobs.specs.Feeding.{answer_of, frame_after, placed}
use Rattle.cobs.specs.Pieces.{answered, ended, first_answer, frame_left, buffer_left}
use Rattle.cobs.specs.InPlace.{overwritten}
use Rattle.cobs.specs.declared.dec.report.DecodeError.TheVariants.{TargetBufTooSmall}
use Rattle.cobs.proofs.DecodingLemmas.{part_append}
use Rattle.cobs.proofs.FeedsLemmas.{frame_byte, answer_byte}
use Rattle.cobs.proofs.OverwritingLemmas.{placed_on, overwritten_long}

-- what is decided by a front is decided
pub decided_on : (q p : List ℕ) → length (part q) ≤ length (part (q ++ p))
decided_on q p =
    let more = ap length (part_append 0 false q p) in
    let long = length-append (part q) (part_from (after 0 false q).0 (after 0 false q).1 p) in
    omega (arith, more, long)

-- the bytes placed one behind the other
abbrev pub all_placed : List ℕ → List ℕ → List ℕ → List ℕ
all_placed q [] buffer = buffer
all_placed q (b ∷ p) buffer = all_placed (q ++ b ∷ []) p (placed q b buffer)

-- Bytes p behind q have no answer: pushing goes on behind them.
pub record Passes (room : ℕ) (q p rest buffer : List ℕ) (used : ℕ) : Type 0 where
  pub answers : first_answer room q (p ++ rest) used ≡ first_answer room (q ++ p) rest (used + length p)
  pub leaves : frame_left room q (p ++ rest) ≡ frame_left room (q ++ p) rest
  pub holds : buffer_left room q (p ++ rest) buffer ≡ buffer_left room (q ++ p) rest (all_placed q p buffer)

-- where all that they decide has room
pub passes : (room : ℕ) (q p rest buffer : List ℕ) (used : ℕ) → NoZero p → (0 < length p → length (part (q ++ p)) ≤ room) → Passes room q p rest buffer used
passes room q [] rest buffer used z l =
    let same = sym (append-nil q) in
    record {
      answers = ap (λ f. first_answer room f rest used) same ∙ ap (first_answer room (q ++ []) rest) (omega arith);
      leaves = ap (λ f. frame_left room f rest) same;
      holds = ap (λ f. buffer_left room f rest buffer) same;
    }
passes room q (b ∷ p) rest buffer used z l =
    let same : (q ++ b ∷ []) ++ p ≡ q ++ b ∷ p = append_assoc q (b ∷ []) p in
    let few : length (part ((q ++ b ∷ []) ++ p)) ≤ room = omega (arith, ap (λ s. length (part s)) same, l (omega arith)) in
    let none : answer_of room q b ≡ Ok None = answer_byte room q b z.0 ∙ rw (le-ltb room (length (part (q ++ b ∷ []))) (omega (arith, few, decided_on (q ++ b ∷ []) p))) refl in
    let next = frame_byte q b z.0 in
    let later = passes room (q ++ b ∷ []) p rest (placed q b buffer) (used + 1) z.1 (λ _. few) in
    record {
      answers =
          ap (λ a. answered a (used + 1) (first_answer room (frame_after q b) (p ++ rest) (used + 1))) none
          ∙ ap (λ f. first_answer room f (p ++ rest) (used + 1)) next
          ∙ later.answers
          ∙ ap (λ f. first_answer room f rest (used + 1 + length p)) same
          ∙ ap (first_answer room (q ++ b ∷ p) rest) (omega arith);
      leaves =
          ap (λ a. ended a (frame_after q b) (frame_left room (frame_after q b) (p ++ rest))) none
          ∙ ap (λ f. frame_left room f (p ++ rest)) next
          ∙ later.leaves
          ∙ ap (λ f. frame_left room f rest) same;
      holds =
          ap (λ a. ended a (placed q b buffer) (buffer_left room (frame_after q b) (p ++ rest) (placed q b buffer))) none
          ∙ ap (λ f. buffer_left room f (p ++ rest) (placed q b buffer)) next
          ∙ later.holds
          ∙ ap (λ f. buffer_left room f rest (all_placed (q ++ b ∷ []) p (placed q b buffer))) same;
    }

-- over what was decided before
pub placed_over : (q p source : List ℕ) → NoZero p → all_placed q p (overwritten (part q) source) ≡ overwritten (part (q ++ p)) source
placed_over q [] source z = ap (λ f. overwritten (part f) source) (sym (append-nil q))
placed_over q (b ∷ p) source z =
    ap (all_placed (q ++ b ∷ []) p) (placed_on q b source (overwritten (part q) source) z.0 refl)
    ∙ placed_over (q ++ b ∷ []) p source z.1
    ∙ ap (λ f. overwritten (part f) source) (append_assoc q (b ∷ []) p)

-- a message that is over the room already is all that there is room for
longer_same : (source p q : List ℕ) → length source ≤ length (part p) → overwritten (part p) source ≡ overwritten (part (p ++ q)) source
longer_same source p q l =
    let more = part_append 0 false p q in
    let long : length source ≤ length (part (p ++ q)) = omega (arith, decided_on p q, l) in
    overwritten_long (part p) source l
    ∙ sym (take-append-le (length source) (part p) (part_from (after 0 false p).0 (after 0 false p).1 q) l)
    ∙ ap (take (length source)) (sym more)
    ∙ sym (overwritten_long (part (p ++ q)) source long)

-- where it has none
pub refuses : (source q p rest : List ℕ) (used : ℕ) → NoZero p → length (part q) ≤ length source → length source < length (part (q ++ p))
    → (first_answer (length source) q (p ++ rest) used ≡ Err TargetBufTooSmall) × (buffer_left (length source) q (p ++ rest) (overwritten (part q) source) ≡ overwritten (part (q ++ p)) source)
refuses source q [] rest used z l o = absurd (omega (arith, l, o, ap (λ f. length (part f)) (append-nil q)))
refuses source q (b ∷ p) rest used z l o =
    let room = length source in
    let now = overwritten (part q) source in
    let same : (q ++ b ∷ []) ++ p ≡ q ++ b ∷ p = append_assoc q (b ∷ []) p in
    let put = placed_on q b source now z.0 refl in
    let next = frame_byte q b z.0 in
    elim (cases_lt room (length (part (q ++ b ∷ [])))) [
      | inl k ↦
          let grown : length (part q) < length (part (q ++ b ∷ [])) = omega (arith, l, k) in
          let refused : answer_of room q b ≡ Err TargetBufTooSmall = answer_byte room q b z.0 ∙ rw (lt-ltb room (length (part (q ++ b ∷ []))) k, lt-ltb (length (part q)) (length (part (q ++ b ∷ []))) grown) refl in (
            ap (λ a. answered a (used + 1) (first_answer room (frame_after q b) (p ++ rest) (used + 1))) refused,
            ap (λ a. ended a (placed q b now) (buffer_left room (frame_after q b) (p ++ rest) (placed q b now))) refused
                ∙ put ∙ longer_same source (q ++ b ∷ []) p (omega (arith, k)) ∙ ap (λ f. overwritten (part f) source) same,
          )
      | inr k ↦
          let none : answer_of room q b ≡ Ok None = answer_byte room q b z.0 ∙ rw (le-ltb room (length (part (q ++ b ∷ []))) k) refl in
          let later = refuses source (q ++ b ∷ []) p rest (used + 1) z.1 k (omega (arith, o, ap (λ f. length (part f)) same)) in (
            ap (λ a. answered a (used + 1) (first_answer room (frame_after q b) (p ++ rest) (used + 1))) none
                ∙ ap (λ f. first_answer room f (p ++ rest) (used + 1)) next ∙ later.0,
            ap (λ a. ended a (placed q b now) (buffer_left room (frame_after q b) (p ++ rest) (placed q b now))) none
                ∙ ap (λ f. buffer_left room f (p ++ rest) (placed q b now)) next
                ∙ ap (buffer_left room (q ++ b ∷ []) (p ++ rest)) put ∙ later.1 ∙ ap (λ f. overwritten (part f) source) same,
          )
    ]

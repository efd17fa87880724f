-- What is shown of lines.
use Rattle.std.proofs.Common.{◌≡◌, ◌∙◌, ◌&&◌, not, Bool, true, if◌then◌else◌, Option, ℕ, ◌+◌, ◌-◌, ◌<◌, List, [], ◌∷◌, ◌++◌, length, take, drop, get_or, refl, sym, ap, subst, append_assoc, append-nil, take-append-drop, arith}
use Rattle.std.specs.List.{flat_map}
use Rattle.std.proofs.lemmas.List.{drop-drop, length-drop, take_all, take_more}
use Rattle.std.proofs.lemmas.Grind.{flat_map-append}
use Rattle.wire_lib.specs.Sent.{LacksFeed, IsTextOf, last_line}
use Rattle.wire_lib.specs.Shown.{is_line_shown, is_value_line, line_coloured, line_shown, line_timed}
use Rattle.wire_lib.proofs.SentLemmas.{text_on, text_ended}

-- one line more was appended as it is shown
pub shown_then : (f : List ℕ → List ℕ) (out out' out'' line : List ℕ) (ls : List (List ℕ))
    → out' ≡ out ++ flat_map f ls → out'' ≡ out' ++ f line → out'' ≡ out ++ flat_map f (ls ++ line ∷ [])
shown_then f out out' out'' line ls e g =
    g ∙ ap (λ x. x ++ f line) e ∙ append_assoc out (flat_map f ls) (f line)
    ∙ ap (λ x. out ++ x) (ap (λ x. flat_map f ls ++ x) (sym (append-nil (f line))) ∙ sym (flat_map-append f ls (line ∷ [])))

-- a line that is shown was appended
pub shown_as : (only : Option (List ℕ)) (colour own : Bool) (time : Option ℕ) (line out out' : List ℕ) → is_line_shown only line ≡ true → own ≡ colour
    → out' ≡ out ++ (line_coloured (own && not (is_value_line line)) (line_timed time line) ++ 10 ∷ [])
    → out' ≡ out ++ line_shown only colour time line
shown_as only colour own time line out out' e f g =
    g ∙ ap (λ c. out ++ (line_coloured (c && not (is_value_line line)) (line_timed time line) ++ 10 ∷ [])) f
    ∙ ap (λ b. out ++ (if b then line_coloured (colour && not (is_value_line line)) (line_timed time line) ++ 10 ∷ [] else [])) (sym e)

-- a line was ended
pub line_ended : (done line : List ℕ) (ls : List (List ℕ)) → IsTextOf done ls [] → LacksFeed line
    → IsTextOf (done ++ (line ++ 10 ∷ [])) (ls ++ line ∷ []) []
line_ended done line ls h lacks =
    subst (λ x. IsTextOf x (ls ++ line ∷ []) []) (append_assoc done line (10 ∷ [])) (text_ended (done ++ line) ls line (text_on done ls [] line h lacks))

-- a text in front of a line feed, and what is behind it
pub parted : (text done rest : List ℕ) (at : ℕ) → text ≡ done ++ rest → at < length rest → get_or rest at 0 ≡ 10
    → text ≡ (done ++ (take at rest ++ 10 ∷ [])) ++ drop (at + 1) rest
parted text done rest at e l b =
    let front : take (at + 1) rest ≡ take at rest ++ 10 ∷ [] = take_more rest at 0 l ∙ ap (λ x. take at rest ++ x ∷ []) b in
    e ∙ ap (λ x. done ++ x) (sym (take-append-drop (at + 1) rest) ∙ ap (λ x. x ++ drop (at + 1) rest) front)
    ∙ sym (append_assoc done (take at rest ++ 10 ∷ []) (drop (at + 1) rest))

-- what is behind the first of the bytes from there on
pub left_behind : (rest behind : List ℕ) (at : ℕ) → behind ≡ drop at rest → take (length behind - 1) (drop 1 behind) ≡ drop (at + 1) rest
left_behind rest behind at e =
    take_all (length behind - 1) (drop 1 behind) (omega (arith, length-drop 1 behind))
    ∙ ap (drop 1) e ∙ drop-drop 1 at rest

-- no text, no lines
pub text_none : IsTextOf [] [] []
text_none = record {
  whole = refl;
  apart = λ k d l. absurd (omega (arith, l));
  begun_apart = λ k l. absurd (omega (arith, l));
}

-- a last line without a line feed
pub line_begun : (text done rest line : List ℕ) (ls : List (List ℕ)) → text ≡ done ++ rest → line ≡ rest → IsTextOf done ls [] → LacksFeed line
    → IsTextOf text ls line
line_begun text done rest line ls e same h lacks =
    subst (λ x. IsTextOf x ls line) (ap (λ x. done ++ x) same ∙ sym e) (text_on done ls [] line h lacks)

-- it is the last, since it has bytes
pub last_some : (f : List ℕ → List ℕ) (out out' line : List ℕ) (ls : List (List ℕ)) → 0 < length line
    → out' ≡ out ++ flat_map f (ls ++ line ∷ []) → out' ≡ out ++ flat_map f (ls ++ last_line line)
last_some f out out' [] ls l e = absurd (omega (arith, l))
last_some f out out' (x ∷ xs) ls l e = e

-- Two lengths tell what sending makes, and no stretch that holds a tree is shorter than the tree's frame.
use Rattle.std.proofs.Common.{◌≡◌, ◌≢◌, ℕ, ◌+◌, ◌<◌, ◌≤◌, List, [], ◌∷◌, ◌++◌, length, take, drop, Option, refl, sym, ap, ◌∙◌, subst, inl, inr, ◌⊎◌, arith, length-append, append-nil, append_assoc, take-append-drop}
use Rattle.std.proofs.lemmas.Bool.{cases_eq}
use Rattle.std.proofs.lemmas.List.{nil_from_length}
use Rattle.cobs.specs.Frames.{Frame, shortest_frame, most_length}
use Rattle.cobs.specs.FrameLaws.{HasOneOther, GrowsWithItsBytes, IsWithinLengths}
use Rattle.cobs.specs.Thinner.{IsThinner}
use Rattle.postcard_tree.specs.Tree.{Tree, IsTree}
use Rattle.postcard_tree.specs.Spelling.{Spells, short}
use Rattle.postcard.specs.Greatest.{SizeWithin}
use Rattle.postcard.specs.Spellings.{KeepsItsPattern}
use Rattle.link.specs.Stream.{HoldsExactly}
use Rattle.link.specs.Laws.{IsLeast, IsToldByLengths, HasRoom}
use Rattle.link.specs.Lemmas.Facts.{Facts, is_frame}

same_or_not : (x y : List ℕ) → (x ≡ y) ⊎ (x ≢ y)
same_or_not [] [] = inl refl
same_or_not [] (c ∷ y) = inr (λ e. cc)
same_or_not (b ∷ x) [] = inr (λ e. cc)
same_or_not (b ∷ x) (c ∷ y) = elim (cases_eq b c) [
  | inl e ↦ elim (same_or_not x y) [
    | inl d ↦ inl (ap (λ a. a ∷ x) e ∙ ap (λ z. c ∷ z) d)
    | inr n ↦ inr (λ d. n (cc))
  ]
  | inr n ↦ inr (λ d. n (cc))
]

-- a frame is the shortest one of its message, or one byte longer
shortest_or_longer : HasOneOther → (frame message : List ℕ) → Frame frame message
    → (frame ≡ shortest_frame message) ⊎ (length frame ≡ length (shortest_frame message) + 1)
shortest_or_longer other frame message f = elim (same_or_not frame (shortest_frame message)) [
  | inl e ↦ inl e
  | inr n ↦ inr (ap length ((other frame message).0 (f, n)).1 ∙ length-append (shortest_frame message) (1 ∷ []))
]

pub parts_on : (piece done rest : List ℕ) (used : ℕ) → piece ≡ done ++ rest
    → piece ≡ (done ++ take used rest) ++ drop used rest
parts_on piece done rest used e = e ∙ sym (append_assoc done (take used rest) (drop used rest)
    ∙ ap (λ x. done ++ x) (take-append-drop used rest))

within_front : (b a c : List ℕ) → IsThinner a b → IsThinner a (b ++ c)
within_front b [] c w = tt
within_front [] (x ∷ a) c w = absurd w
within_front (y ∷ b) (x ∷ a) c (inl (inl w)) = inl (inl (w.0, w.1, within_front b a c w.2))
within_front (y ∷ b) (x ∷ a) c (inl (inr w)) = inl (inr (w.0, w.1, within_front b a c w.2))
within_front (y ∷ b) (x ∷ a) c (inr w) = inr (within_front b (x ∷ a) c w)

module _ (takes : Tree → Type 0) (facts : Facts takes) (other : HasOneOther) where
  -- what the contract of `link_laws::least` says, by laws of frames and spellings
  pub is_least : KeepsItsPattern → GrowsWithItsBytes → (limit : ℕ) → IsLeast takes limit
  is_least keeps grows limit stretch t (l, h) =
      let w : IsThinner (short t) h.message = subst (IsThinner (short t)) (sym h.begins) (within_front h.front (short t) h.rest (keeps t h.front (facts.trees t h.taken) h.spelled)) in
      let g = grows (short t) h.message w in
      elim (shortest_or_longer other stretch h.message h.frame) [
        | inl e ↦ omega (arith, g, ap length e)
        | inr e ↦ omega (arith, g, e)
      ]

  -- what the contract of `laws::by_lengths` says
  pub by_lengths : ((t : Tree) (x : List ℕ) → IsTree t → Spells t x
      → (x ≡ short t) ⊎ (length (short t) < length x))
      → IsToldByLengths takes
  by_lengths least p t h = (there, back)
    where
      there : HoldsExactly takes p t
          → (length h.message ≡ length (short t)) × (length p ≡ length (shortest_frame h.message))
      there (k, e) =
          let same : h.message ≡ short t = facts.one_message p h.message h.frame ∙ sym (facts.one_message p (short t) (subst (λ f. Frame f (short t)) (sym e) (is_frame takes facts t))) in
          (ap length same, ap length e ∙ ap (λ m. length (shortest_frame m)) (sym same))

      back : (length h.message ≡ length (short t)) × (length p ≡ length (shortest_frame h.message))
          → HoldsExactly takes p t
      back (a, b) =
          let both : length h.message ≡ length h.front + length h.rest = ap length h.begins ∙ length-append h.front h.rest in
          let front : h.front ≡ short t = elim (least t h.front (facts.trees t h.taken) h.spelled) [
            | inl e ↦ e
            | inr l ↦ absurd (omega arith)
          ] in
          let n : length h.front ≡ length (short t) = ap length front in
          let same : h.message ≡ short t = h.begins ∙ ap (λ x. h.front ++ x) (nil_from_length h.rest (omega arith)) ∙ append-nil h.front ∙ front in
          elim (shortest_or_longer other p h.message h.frame) [
            | inl e ↦ (h.taken, e ∙ ap shortest_frame same)
            | inr l ↦ absurd (omega arith)
          ]

most_grows : (n m : ℕ) → n ≤ m → most_length n ≤ most_length m
most_grows n m l = omega arith

-- what the contract of `laws::room` says
pub has_room : IsWithinLengths
    → (greatest : Option ℕ) (writes : Option Tree) → SizeWithin writes greatest
    → HasRoom greatest writes
has_room lengths greatest writes size limit n t e l w =
    let s : length (short t) ≤ n = size.at_most t n w e in
    omega (arith, (lengths (short t)).1, most_grows (length (short t)) n s)

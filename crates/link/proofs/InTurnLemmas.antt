-- Reading in place, stretch after stretch.
use Rattle.std.proofs.Common.{◌≡◌, ◌≢◌, ℕ, ◌+◌, List, [], ◌∷◌, ◌++◌, length, drop, Result, Ok, refl, sym, ap, ◌∙◌, subst, inl, inr, arith, length-append, bit_xor, eq-eqb, ne_eqb}
use Rattle.std.specs.Int.Bits.{xor_self}
use Rattle.std.proofs.lemmas.Bool.{cases_eq}
use Rattle.std.proofs.lemmas.List.{map-append}
use Rattle.cobs.specs.InPlace.{stretch}
use Rattle.cobs.specs.Sentinel.{masked}
use Rattle.cobs.specs.Whole.{unpadded}
use Rattle.postcard_tree.specs.Tree.{Tree}
use Rattle.link.specs.Link.{Holds, Matches, ReadsNext, IsReadInTurn}
use Rattle.link.specs.Stream.{Verdict, value, damaged, cut, IsContent}
use Rattle.link.specs.Finds.{AnswersEnded}
use Rattle.link.specs.Roads.{ReadsInPlace, nothing, skipped, answered, unanswered}
use Rattle.link.specs.declared.receiver.Answer.{Answer}
use Rattle.link.specs.declared.receiver.Answer.TheVariants as answers
use Rattle.link.specs.declared.receiver.NoMemory.{NoMemory}
use Rattle.link.specs.Lemmas.Pieces.{masked_twice}
use Rattle.link.specs.Lemmas.MaskLaws.{mask_twice}
use Rattle.link.proofs.ReadingLemmas.{unpadded_some}
use Rattle.link.specs.Lemmas.RoadLaws.{zeroed, whole_length, less_length, stretch_nonzero}

-- zero is masked to the sentinel
zero_masked : (s : ℕ) → bit_xor s 0 ≡ s
zero_masked s = sym (ap (bit_xor s) (xor_self s)) ∙ mask_twice s s

-- only the sentinel is masked to zero
is_sentinel : (s b : ℕ) → bit_xor s b ≡ 0 → b ≡ s
is_sentinel s b e = sym (mask_twice s b) ∙ ap (bit_xor s) e ∙ zero_masked s

module _ (holds : List ℕ → Tree → Type 0) (s : ℕ) where
  -- leading sentinels are skipped
  skips_one : (b : ℕ) (bytes : List ℕ) (vs : List Verdict) → (ReadsInPlace holds s (masked s (unpadded (masked s bytes))) vs → ReadsInPlace holds s bytes vs)
      → ReadsInPlace holds s (masked s (unpadded (masked s (b ∷ bytes)))) vs → ReadsInPlace holds s (b ∷ bytes) vs
  skips_one b bytes vs rest h = elim (cases_eq (bit_xor s b) 0) [
    | inl z ↦ subst (λ c. ReadsInPlace holds s (c ∷ bytes) vs) (sym (is_sentinel s b z)) (skipped (rest (rw (eq-eqb (bit_xor s b) 0 z) at h)))
    | inr ne ↦ subst (λ x. ReadsInPlace holds s x vs) (masked_twice s (b ∷ bytes)) (rw (ne_eqb (bit_xor s b) 0 ne) at h)
  ]

  skips : (bytes : List ℕ) (vs : List Verdict) → ReadsInPlace holds s (masked s (unpadded (masked s bytes))) vs → ReadsInPlace holds s bytes vs
  skips [] vs h = h
  skips (b ∷ bytes) vs h = skips_one b bytes vs (skips bytes vs) h

  blank : (bytes : List ℕ) → unpadded (masked s bytes) ≡ [] → ReadsInPlace holds s bytes []
  blank bytes e = skips bytes [] (subst (λ x. ReadsInPlace holds s (masked s x) []) (sym e) nothing)

  -- nothing is answered to nothing
  none_of : (x : List ℕ) (vs : List Verdict) → x ≡ [] → ReadsInPlace holds s x vs → vs ≡ []
  none_of x vs e nothing = refl
  none_of x vs e (skipped h) = absurd (cc)
  none_of x vs e (answered p a rest z n q c h) = absurd (omega (arith, ap length (sym q ∙ e), length-append (masked s p) (s ∷ rest)))
  none_of x vs e (unanswered p z n q) = absurd (n (sym (masked_twice s p) ∙ ap (masked s) (sym q ∙ e)))

module _ {V : Type 0} (takes : Tree → Type 0) (reads : Tree → V → Type 0) (s : ℕ) where
  -- the verdict on an ended stretch
  content : (p : List ℕ) (answer : Answer V) → AnswersEnded (Holds takes) reads p (Ok answer) → (verdict : Verdict) × Matches reads answer verdict × IsContent (Holds takes) p verdict
  content p (answers.Value v) h = (value h.0, (h.0, h.2, refl), h.1)
  content p answers.Damaged h = (damaged, refl, h)
  content p answers.TooLong h = absurd h
  content p answers.Cut h = absurd h

  is_cut : (answer : Answer V) → ◌≡◌ {A = Result (Answer V) NoMemory} (Ok answer) (Ok answers.Cut) → Matches reads answer cut
  is_cut (answers.Value v) e = absurd (cc)
  is_cut answers.Damaged e = absurd (cc)
  is_cut answers.TooLong e = absurd (cc)
  is_cut answers.Cut e = refl

  turn : (bytes left : List ℕ) (answer : Answer V) (later : List Verdict) → ReadsNext takes reads (unpadded (masked s bytes)) (Ok answer) (masked s left)
      → ReadsInPlace (Holds takes) s left later → (verdict : Verdict) × Matches reads answer verdict × ReadsInPlace (Holds takes) s bytes (verdict ∷ later)
  turn bytes left answer later h more =
      let u = unpadded (masked s bytes) in
      let p = stretch u in
      let some : p ≢ [] = unpadded_some (masked s bytes) h.some in
      let at = λ (vs : List Verdict). skips (Holds takes) s bytes vs in
      elim (zeroed u).either [
        | inl e ↦ (
            let cutting = h.unfinished (whole_length u e) in
            let gone : left ≡ [] = sym (masked_twice s left) ∙ ap (masked s) cutting.1 in
            let none = none_of (Holds takes) s left later gone more in
            (cut, is_cut answer cutting.0, at (cut ∷ later) (subst (λ vs. ReadsInPlace (Holds takes) s (masked s u) (cut ∷ vs)) (sym none) (unanswered p (stretch_nonzero u) some (ap (masked s) e)))))
        | inr e ↦ (
            let done = h.ended (less_length u e) in
            let c = content p answer done.0 in
            let rest = drop (length p + 1) u in
            let same : left ≡ masked s rest = sym (masked_twice s left) ∙ ap (masked s) done.1 in
            let whole : masked s u ≡ masked s p ++ (s ∷ masked s rest) = ap (masked s) e ∙ map-append (bit_xor s) p (0 ∷ rest) ∙ ap (λ b. masked s p ++ (b ∷ masked s rest)) (zero_masked s) in
            (c.0, c.1, at (c.0 ∷ later) (answered p c.0 (masked s rest) (stretch_nonzero u) some whole c.2 (subst (λ x. ReadsInPlace (Holds takes) s x later) same more))))
      ]

  pub in_turn : IsReadInTurn takes reads s
  in_turn = record { over = blank (Holds takes) s; next = turn }

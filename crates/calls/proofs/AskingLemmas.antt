-- What a client sends.
use Rattle.std.proofs.Common.{◌≡◌, ℕ, ◌<◌, ◌≤◌, List, [], ◌∷◌, ◌++◌, Option, Some, None, refl, sym, ap, ◌∙◌, subst, inl, inr, ◌⊎◌, arith, option_to_list}
use Rattle.std.specs.Prelude.{IfSome}
use Rattle.calls.specs.Calls.{In, OnePerNumber}
use Rattle.calls.specs.ServedLaws.{which}
use Rattle.calls.specs.Asking.{Asker, Step, calls, repeats, ends, stepped, all_tried, IsNumbered}

module _ {Q : Type 0} where
  -- a request that is sent has a number that is still to come, or is the pending one
  abbrev New : Asker Q → ℕ × Q → Type 0
  New a p = (a.next ≤ p.0) ⊎ (a.pending ≡ Some p)

  stays : (a : Asker Q) (x : Step Q) → IsNumbered a → IsNumbered (stepped a x)
  stays a (calls q) h = omega arith
  stays a repeats h = h
  stays a ends h = tt

  new : (a : Asker Q) (steps : List (Step Q)) → (p : ℕ × Q) → In p (all_tried a steps) → New a p
  new a [] p i = absurd i
  new a (calls q ∷ steps) p (inl e) = inl (let d : p.0 ≡ a.next = ap (λ x. x.0) e in omega arith)
  new a (calls q ∷ steps) p (inr i) = elim (new (stepped a (calls q)) steps p i) [
    | inl l ↦ inl (omega arith)
    | inr e ↦ inl (let d : a.next ≡ p.0 = ap (λ x. x.0) (which e) in omega arith)
  ]
  new a (repeats ∷ steps) p i = go a.pending refl (new a steps p) i
    where
      go : (o : Option (ℕ × Q)) → a.pending ≡ o → (In p (all_tried a steps) → New a p) → In p (option_to_list o ++ all_tried a steps) → New a p
      go None e later j = later j
      go (Some r) e later (inl d) = inr (e ∙ ap Some (sym d))
      go (Some r) e later (inr j) = later j
  new a (ends ∷ steps) p i = elim (new (stepped a ends) steps p i) [
    | inl l ↦ inl l
    | inr e ↦ absurd (cc)
  ]

  -- a new call, and a request that comes behind it
  first : (a : Asker Q) (q : Q) (steps : List (Step Q)) (x y : ℕ × Q) → x ≡ (a.next, q) → In y (all_tried (stepped a (calls q)) steps) → x.0 ≡ y.0 → x ≡ y
  first a q steps x y d j e = elim (new (stepped a (calls q)) steps y j) [
    | inl l ↦ absurd (let k : x.0 ≡ a.next = ap (λ z. z.0) d in omega arith)
    | inr k ↦ d ∙ which k
  ]

  -- the pending call, and a request that comes behind it
  next_to : (a : Asker Q) (steps : List (Step Q)) (r x y : ℕ × Q) → IsNumbered a → a.pending ≡ Some r → x ≡ r → In y (all_tried a steps) → x.0 ≡ y.0 → x ≡ y
  next_to a steps r x y h p d j e = elim (new a steps y j) [
    | inl l ↦ absurd (let k : x.0 ≡ r.0 = ap (λ z. z.0) d in let n : r.0 < a.next = subst (λ o. IfSome o (λ z. z.0 < a.next)) p h in omega arith)
    | inr k ↦ d ∙ which (sym p ∙ k)
  ]

  pub one : (a : Asker Q) (steps : List (Step Q)) → IsNumbered a → OnePerNumber (all_tried a steps)
  one a [] h x y i j e = absurd i
  one a (calls q ∷ steps) h x y (inl d) (inl k) e = d ∙ sym k
  one a (calls q ∷ steps) h x y (inl d) (inr j) e = first a q steps x y d j e
  one a (calls q ∷ steps) h x y (inr i) (inl k) e = sym (first a q steps y x k i (sym e))
  one a (calls q ∷ steps) h x y (inr i) (inr j) e = one (stepped a (calls q)) steps (stays a (calls q) h) x y i j e
  one a (repeats ∷ steps) h x y i j e = go a.pending refl (one a steps h x y) i j
    where
      go : (o : Option (ℕ × Q)) → a.pending ≡ o → (In x (all_tried a steps) → In y (all_tried a steps) → x.0 ≡ y.0 → x ≡ y) → In x (option_to_list o ++ all_tried a steps) → In y (option_to_list o ++ all_tried a steps) → x ≡ y
      go None p later i j = later i j e
      go (Some r) p later (inl d) (inl k) = d ∙ sym k
      go (Some r) p later (inl d) (inr j) = next_to a steps r x y h p d j e
      go (Some r) p later (inr i) (inl k) = sym (next_to a steps r y x h p k i (sym e))
      go (Some r) p later (inr i) (inr j) = later i j e
  one a (ends ∷ steps) h x y i j e = one (stepped a ends) steps (stays a ends h) x y i j e

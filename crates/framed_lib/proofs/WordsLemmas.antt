-- Words that the program isn't called with.
use Rattle.std.proofs.Common.{◌≡◌, ◌<◌, ℕ, Bool, true, false, List, [], ◌∷◌, ◌++◌, length, get_or, refl, ap, arith, Option, None, Some, inl, inr}
use Rattle.std.specs.Prelude.{codes, IfNone}
use Rattle.framed_lib.specs.declared.arguments.Mode.{Mode}
use Rattle.framed_lib.specs.Words.{hex_words, NamesSentinel, AreWordsFor}

-- what there is without a value, there is
pub if-none : {A X : Type 0} (o : Option A) → X → IfNone o X
if-none None x = x
if-none (Some a) x = tt

-- one part
pub one-part : {A : Type 0} (xs : List A) (a : A) → length xs ≡ 1 → a ≡ get_or xs 0 a → xs ≡ a ∷ []
one-part [] a l d = absurd (omega (arith, l))
one-part (x ∷ []) a l d = rw d refl
one-part (x ∷ y ∷ xs) a l d = absurd (omega (arith, l))

-- the words behind the mode name no sentinel, and neither do those behind `hex`
pub no-more : (first : List ℕ) (found : Bool) (more : List (List ℕ)) → (found ≡ false → (tail : List (List ℕ)) → more ≡ codes "hex" ∷ tail → ⊥) → 0 < length more
    → ((s : ℕ) (word : List ℕ) → more ≡ word ∷ [] → NamesSentinel s word → ⊥) → (mode : Mode) (hex : Bool) (s : ℕ)
    → AreWordsFor mode hex s (first ∷ (hex_words found ++ more)) → ⊥
no-more first found [] h l n mode hex s w = absurd (omega arith)
no-more first false (a ∷ []) h l n mode false s (inl e) = grind (arith, e.0)
no-more first false (a ∷ []) h l n mode true s (inl e) = h refl [] (ap (λ x. get_or x 1 [] ∷ []) e.0)
no-more first false (a ∷ []) h l n mode false s (inr e) = n s a refl (rw (ap (λ x. get_or x 1 []) e.1) e.2)
no-more first false (a ∷ []) h l n mode true s (inr e) = grind (arith, e.1)
no-more first false (a ∷ b ∷ tail) h l n mode false s (inl e) = grind (arith, ap length e.0)
no-more first false (a ∷ b ∷ tail) h l n mode true s (inl e) = grind (arith, ap length e.0)
no-more first false (a ∷ b ∷ tail) h l n mode false s (inr e) = grind (arith, ap length e.1)
no-more first false (a ∷ b ∷ tail) h l n mode true s (inr e) = h refl (b ∷ tail) (ap (λ x. get_or x 1 [] ∷ b ∷ tail) e.1)
no-more first true (a ∷ []) h l n mode false s (inl e) = grind (arith, e.0)
no-more first true (a ∷ []) h l n mode true s (inl e) = grind (arith, e.0)
no-more first true (a ∷ []) h l n mode false s (inr e) = grind (arith, e.1)
no-more first true (a ∷ []) h l n mode true s (inr e) = n s a refl (rw (ap (λ x. get_or x 2 []) e.1) e.2)
no-more first true (a ∷ b ∷ tail) h l n mode false s (inl e) = grind (arith, ap length e.0)
no-more first true (a ∷ b ∷ tail) h l n mode true s (inl e) = grind (arith, ap length e.0)
no-more first true (a ∷ b ∷ tail) h l n mode false s (inr e) = grind (arith, ap length e.1)
no-more first true (a ∷ b ∷ tail) h l n mode true s (inr e) = grind (arith, ap length e.1)

-- Bytes that are read as a sequence is, one by one, are those that are accepted at once: the same is refused, and alike is the same.
use Rattle.std.specs.Prelude.{◌≡◌, ◌↔◌, ℕ, zero, suc, ◌<◌, List, [], ◌∷◌, ◌++◌, length, refl}
use Rattle.std.proofs.Common.{sym, ◌∙◌, ap, subst, inl, inr, arith}
use Rattle.postcard_tree.specs.declared.error.Error.{Error}
use Rattle.postcard_tree.specs.Tree.{Tree, byte, number, character, sequence, group}
use Rattle.postcard_tree.specs.Spelling.{Spells}
use Rattle.postcard_tree.specs.Alike.{AlikeLists}
use Rattle.postcard_tree.specs.Reading.{TakesByte, RefusesByte, RefusesAfter, RefusesEach, RefusesSequence, RefusesBytes, RefusesGroups, RefusesCounted, RefusesBehindCount, IsShort}

-- one of n bytes is missing if fewer are left
short_each : (n : ℕ) (s : List ℕ) (e : Error) → IsShort n s e → RefusesEach TakesByte RefusesByte n s e
unfolding Spells RefusesEach
short_each zero s e h = absurd (omega (arith, h.0))
short_each (suc n) [] e h = inl h.1
short_each (suc n) (b ∷ s) e h = inr (record {
  tree = byte b;
  front = b ∷ [];
  rest = s;
  whole = refl;
  spells = refl;
  taken = tt;
  refused = short_each n s e (omega (arith, h.0), h.1);
})

-- after a byte fewer are left than were requested
behind_short : (n : ℕ) (s : List ℕ) (e : Error) (t : Tree) (front rest : List ℕ) → s ≡ front ++ rest
    → Spells t front → TakesByte t → IsShort n rest e → IsShort (suc n) s e
unfolding Spells
behind_short n s e (byte b) front rest w p q h = let m : length s ≡ suc (length rest) = ap length (w ∙ ap (λ z. z ++ rest) p) in (omega (arith, m, h.0), h.1)
behind_short n s e _ front rest w p q h = absurd q

each_short : (n : ℕ) (s : List ℕ) (e : Error) → RefusesEach TakesByte RefusesByte n s e → IsShort n s e
unfolding RefusesEach
each_short zero s e h = absurd h
each_short (suc n) [] e (inl h) = (omega arith, h)
each_short (suc n) (b ∷ s) e (inl h) = absurd h
each_short (suc n) s e (inr r) = behind_short n s e r.tree r.front r.rest r.whole r.spells r.taken (each_short n r.rest e r.refused)

counted_as : {F G : ℕ → List ℕ → Error → Type 0} → ((n : ℕ) (s : List ℕ) (e : Error) → F n s e → G n s e)
    → (s : List ℕ) (e : Error) → RefusesCounted F s e → RefusesCounted G s e
counted_as f s e (inl h) = inl h
counted_as f s e (inr r) = inr (record { n = r.n; count = r.count; rest = r.rest; whole = r.whole; counted = r.counted; refused = f r.n r.rest e r.refused })

-- what is refused of bytes one by one is what is refused of them at once
pub bytes_each : (s : List ℕ) (e : Error) → RefusesSequence TakesByte RefusesByte s e ↔ RefusesBytes s e
bytes_each s e = (counted_as each_short s e, counted_as short_each s e)

alike_equal : (v w : List ℕ) → AlikeLists (λ a b. a ≡ b) v w → v ≡ w
alike_equal [] [] h = refl
alike_equal [] (b ∷ w) h = absurd h
alike_equal (a ∷ v) [] h = absurd h
alike_equal (a ∷ v) (b ∷ w) h = ap (λ z. z ∷ v) h.0 ∙ ap (λ z. b ∷ z) (alike_equal v w h.1)

alike_itself : (v : List ℕ) → AlikeLists (λ a b. a ≡ b) v v
alike_itself [] = tt
alike_itself (a ∷ v) = (refl, alike_itself v)

-- bytes that are alike one by one are the same
pub bytes_alike : (v w : List ℕ) → AlikeLists (λ a b. a ≡ b) v w ↔ (v ≡ w)
bytes_alike v w = (alike_equal v w, λ h. subst (λ z. AlikeLists (λ a b. a ≡ b) v z) h (alike_itself v))

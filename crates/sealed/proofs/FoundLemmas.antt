-- A value and four bytes were read.
use Rattle.std.proofs.Common.{◌≡◌, ℕ, ◌<◌, ◌^◌, List, [], ◌++◌, Option, Some, Result, Ok, Err, Bool, true, false, refl, sym, ap, subst, ◌∙◌, inl, inr, arith}
use Rattle.std.specs.Prelude.{IfSome, IfOk, IfErr, ◌||◌, bit_xor}
use Rattle.postcard_tree.specs.declared.error.Error.{Error}
use Rattle.postcard_tree.specs.declared.error.Error.TheVariants.{DeserializeBadCrc, OutOfMemory}
use Rattle.postcard_tree.specs.Tree.{Tree, group, part, end, bytes_of}
use Rattle.postcard_tree.specs.Spelling.{Spells, short}
use Rattle.postcard_tree.specs.Fixed.{little_endian, TakesFixed, ReadsFixed}
use Rattle.postcard_tree.specs.FixedOnce.{little_laws, unsigned_laws}
use Rattle.postcard_tree.specs.Reading.{Spelled, GroupOf, PartThen, NoParts, IsShort, RefusesPair}
use Rattle.postcard_tree.specs.ReadingLaws.{ReadingLaws}
use Rattle.postcard_de.specs.Source.{SourceState, Reads, Fails, Outcome}
use Rattle.postcard_de.specs.Steps.{gave_none, fails_after, refused_here}
use Rattle.sealed.specs.Checksum.{sum_of_bytes}
use Rattle.sealed.specs.Seals.{seal_of, ReadsSealed, RefusesSealed, IsBroken}

numbers : ReadingLaws {A = ℕ} (TakesFixed 4) (ReadsFixed (λ n. little_endian 4 n) (λ n. n < 2 ^ 32)) (IsShort 4) (λ v w. v ≡ w)
numbers = little_laws (unsigned_laws 4 refl)

at_some : (o : Option Tree) (P : Tree → Type 0) (t : Tree) → o ≡ Some t → IfSome o P → P t
at_some o P t e h = subst (λ x. IfSome x P) e h

seal_is : (key : ℕ) (t : Tree) (n : ℕ) → n ≡ bit_xor key (sum_of_bytes (short t)) → group (bytes_of (little_endian 4 n)) ≡ seal_of key t
unfolding seal_of
seal_is key t n e = ap (λ k. group (bytes_of (little_endian 4 k))) e

-- where the sums differ, so do their bytes
not_seal : (key : ℕ) (t u : Tree) (n : ℕ) → ReadsFixed (λ m. little_endian 4 m) (λ m. m < 2 ^ 32) u n → bit_xor key (sum_of_bytes (short t)) < 2 ^ 32 → (n ≡ bit_xor key (sum_of_bytes (short t)) → ⊥) → u ≡ seal_of key t → ⊥
unfolding seal_of
not_seal key t u n r small wrong e = wrong (numbers.one_value u n (bit_xor key (sum_of_bytes (short t))) r (e, omega (arith, small)))

-- a group of a value and a number
abbrev pub IsPairOf : {A : Type 0} → (Tree → A → Type 0) → A → ℕ → Tree → Type 0
IsPairOf reads v n t = GroupOf (PartThen (λ u. reads u v) (PartThen (λ u. ReadsFixed (λ m. little_endian 4 m) (λ m. m < 2 ^ 32) u n) NoParts)) t

module _ {A : Type 0} (key : ℕ) (takes : Tree → Type 0) (reads : Tree → A → Type 0) (writes : A → Option Tree) (refuses : List ℕ → Error → Type 0) (back : (t : Tree) (v : A) → reads t v → writes v ≡ Some t) where
  found : (tree : Tree) (v : A) (n : ℕ) → IsPairOf reads v n tree → IfSome (writes v) (λ t. n ≡ bit_xor key (sum_of_bytes (short t))) → ReadsSealed key reads tree v
  found (group (part t (part u end))) v n r s = (r.0, r.1.0.0 ∙ seal_is key t n (at_some (writes v) (λ t. n ≡ bit_xor key (sum_of_bytes (short t))) t (back t v r.0) s))
  found (group (part t end)) v n r s = absurd r.1
  found (group (part t (part u (part w ts)))) v n r s = absurd r.1.1
  found _ v n r s = absurd r

  broken : (tree : Tree) (v : A) (n : ℕ) (front rest : List ℕ) (e : Error) → ((t : Tree) (v : A) → reads t v → takes t) → Spells tree front → IsPairOf reads v n tree
      → IfSome (writes v) (λ t. (bit_xor key (sum_of_bytes (short t)) < 2 ^ 32) × (n ≡ bit_xor key (sum_of_bytes (short t)) → ⊥)) → e ≡ DeserializeBadCrc → IsBroken key takes (front ++ rest) e
  broken (group (part t (part u end))) v n front rest e taken h r s k =
      let w = at_some (writes v) (λ t. (bit_xor key (sum_of_bytes (short t)) < 2 ^ 32) × (n ≡ bit_xor key (sum_of_bytes (short t)) → ⊥)) t (back t v r.0) s in
      record {
        tree = t;
        seal = u;
        front = front;
        rest = rest;
        whole = refl;
        spells = h;
        taken = (taken t v r.0, (numbers.taken u n r.1.0, tt));
        wrong = not_seal key t u n r.1.0 w.0 w.1;
        error = k;
      }
  broken (group (part t end)) v n front rest e taken h r s k = absurd r.1
  broken (group (part t (part u (part w ts)))) v n front rest e taken h r s k = absurd r.1.1
  broken _ v n front rest e taken h r s k = absurd r

  -- the value and its sum, or another sum
  pub seal_outcome : {a b : SourceState} {P B : Type 0} {pairs : Tree → P → Type 0} {p : P} (g : Bool) (f : B → A) (r : Result B Error) (v : A) (n : ℕ) → ((t : Tree) (v : A) → reads t v → takes t)
      → Reads a b (Spelled pairs) p → ((t : Tree) → pairs t p → IsPairOf reads v n t)
      → IfOk r (λ w. (f w ≡ v) × IfSome (writes v) (λ t. n ≡ bit_xor key (sum_of_bytes (short t))))
      → IfErr r (λ e. (e ≡ DeserializeBadCrc) × IfSome (writes v) (λ t. (bit_xor key (sum_of_bytes (short t)) < 2 ^ 32) × (n ≡ bit_xor key (sum_of_bytes (short t)) → ⊥)))
      → Outcome a b r (Spelled (λ t w. ReadsSealed key reads t (f w))) (RefusesSealed key takes refuses) g
  seal_outcome g f (Ok w) v n taken h is ok err = record {
    taken = h.taken;
    gave = h.gave;
    found = record {
      tree = h.found.tree;
      spells = h.found.spells;
      read = subst (λ z. ReadsSealed key reads h.found.tree z) (sym ok.0) (found h.found.tree v n (is h.found.tree h.found.read) ok.1);
    };
  }
  seal_outcome g f (Err e) v n taken h is ok err =
      refused_here (RefusesSealed key takes refuses) h.gave (λ rest. inr (broken h.found.tree v n h.taken rest e taken h.found.spells (is h.found.tree h.found.read) err.1 err.0))
      (λ m. let no : DeserializeBadCrc ≡ OutOfMemory = sym err.0 ∙ m in cc)

or_none : (g : Bool) → (g || false) ≡ true → g ≡ true
or_none true h = refl
or_none false h = h

-- neither was read
pub pair_fails : {a b : SourceState} {e : Error} (key : ℕ) (takes : Tree → Type 0) (refuses : List ℕ → Error → Type 0) (g : Bool) → Fails a b (RefusesPair takes refuses (TakesFixed 4) (IsShort 4)) (g || false) e → Fails a b (RefusesSealed key takes refuses) g e
pair_fails {a} {b} {e} key takes refuses g f =
    fails_after {s = []} (RefusesPair takes refuses (TakesFixed 4) (IsShort 4)) (RefusesSealed key takes refuses) (gave_none a) (λ rest h. inl h) (or_none g) f

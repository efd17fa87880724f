-- Values followed by the sums of their encodings. A sum is XORed with a key: 0 if there is none.
use Rattle.std.specs.Prelude.{◌≡◌, ℕ, ◌<◌, ◌^◌, List, ◌++◌, ◌⊎◌, Option, Some, None, refl, bit_xor}
use Rattle.std.proofs.Common.{sym, ◌∙◌, ap, subst, inl, inr}
use Rattle.postcard_tree.specs.declared.error.Error.{Error}
use Rattle.postcard_tree.specs.declared.error.Error.TheVariants.{DeserializeBadCrc}
use Rattle.postcard_tree.specs.Tree.{Tree, group, end, part, bytes_of}
use Rattle.postcard_tree.specs.Spelling.{short, Spells}
use Rattle.postcard_tree.specs.Fixed.{little_endian, TakesFixed, ReadsFixed}
use Rattle.postcard_tree.specs.FixedOnce.{takes_group, length_little, octets_little, little_laws, unsigned_laws}
use Rattle.postcard_tree.specs.Reading.{IsShort, NoFront, TakesPair, ReadsPair, RefusesPair}
use Rattle.postcard_tree.specs.Alike.{AlikePairs}
use Rattle.postcard_tree.specs.ReadingLaws.{ReadingLaws, pair_laws}
use Rattle.sealed.specs.Checksum.{sum_of_bytes}

-- the sum of a tree's shortest encoding, XORed with a key, as four bytes, the lowest first
unfoldable pub seal_of : ℕ → Tree → Tree
seal_of key t = group (bytes_of (little_endian 4 (bit_xor key (sum_of_bytes (short t)))))

-- a tree, followed by the sum
abbrev pub with_seal : Tree → Tree → Tree
with_seal t seal = group (part t (part seal end))

-- what a value writes followed by the sum; nothing if it can't be encoded
abbrev pub writes_sealed : ℕ → Option Tree → Option Tree
writes_sealed key None = None
writes_sealed key (Some t) = Some (with_seal t (seal_of key t))

-- an accepted tree, and its sum
abbrev pub TakesSealed : ℕ → (Tree → Type 0) → Tree → Type 0
TakesSealed key takes (group (part t (part u end))) = takes t × (u ≡ seal_of key t)
TakesSealed key takes _ = ⊥

-- the value that such a tree is read as: what its first part is read as
abbrev pub ReadsSealed : {A : Type 0} → ℕ → (Tree → A → Type 0) → Tree → A → Type 0
ReadsSealed key reads (group (part t (part u end))) v = reads t v × (u ≡ seal_of key t)
ReadsSealed key reads _ v = ⊥

-- an accepted value, and four bytes that aren't its sum
pub record IsBroken (key : ℕ) (takes : Tree → Type 0) (s : List ℕ) (e : Error) : Type 0 where
  -- The value, as a tree.
  pub tree : Tree
  -- The four bytes after it, as a tree.
  pub seal : Tree
  -- The bytes that encode both.
  pub front : List ℕ
  -- The bytes after them.
  pub rest : List ℕ
  -- Together they are all the bytes.
  pub whole : s ≡ front ++ rest
  -- The first ones are an encoding of value and seal.
  pub spells : Spells (with_seal tree seal) front
  -- The type accepts the value.
  pub taken : TakesPair takes (TakesFixed 4) (with_seal tree seal)
  -- The seal isn't the value's.
  pub wrong : seal ≡ seal_of key tree → ⊥
  -- The error is DeserializeBadCrc.
  pub error : e ≡ DeserializeBadCrc

-- the value is refused, or fewer than four bytes follow it, or these aren't its sum
abbrev pub RefusesSealed : ℕ → (Tree → Type 0) → (List ℕ → Error → Type 0) → List ℕ → Error → Type 0
RefusesSealed key takes refuses s e = RefusesPair takes refuses (TakesFixed 4) (IsShort 4) s e ⊎ IsBroken key takes s e

-- Bytes that begin with a value of a type under one key begin with none of it under another.
abbrev pub KeysDiffer : (Tree → Type 0) → Type 0
KeysDiffer takes = (key other : ℕ) (t u : Tree) (front before rest behind : List ℕ) → key < 2 ^ 32 → other < 2 ^ 32
    → TakesSealed key takes t → TakesSealed other takes u → Spells t front → Spells u before → front ++ rest ≡ before ++ behind → key ≡ other

-- Its laws: those of the pair of a value and a number, of which some aren't accepted

seal_taken : (key : ℕ) (t : Tree) → TakesFixed 4 (seal_of key t)
unfolding seal_of
seal_taken key t =
    let n = bit_xor key (sum_of_bytes (short t)) in
    takes_group 4 (little_endian 4 n) (length_little 4 n) (octets_little 4 n)

pub as_pair : (key : ℕ) (takes : Tree → Type 0) (t : Tree) → TakesSealed key takes t → TakesPair takes (TakesFixed 4) t
as_pair key takes (group (part t (part u end))) h = (h.0, (subst (TakesFixed 4) (sym h.1) (seal_taken key t), tt))
as_pair key takes _ h = absurd h

sealed_taken : {A : Type 0} (key : ℕ) (takes : Tree → Type 0) (reads : Tree → A → Type 0) → ((t : Tree) (v : A) → reads t v → takes t) → (t : Tree) (v : A) → ReadsSealed key reads t v → TakesSealed key takes t
sealed_taken key takes reads one (group (part t (part u end))) v h = (one t v h.0, h.1)
sealed_taken key takes reads one _ v h = absurd h

sealed_value : {A : Type 0} (key : ℕ) (reads : Tree → A → Type 0) (alike : A → A → Type 0) → ((t : Tree) (v w : A) → reads t v → reads t w → alike v w) → (t : Tree) (v w : A) → ReadsSealed key reads t v → ReadsSealed key reads t w → alike v w
sealed_value key reads alike one (group (part t (part u end))) v w h k = one t v w h.0 k.0
sealed_value key reads alike one _ v w h k = absurd h

-- a tree with its seal isn't the one that is broken
not_sealed : (key : ℕ) (takes : Tree → Type 0) (tree seal t : Tree) → (seal ≡ seal_of key tree → ⊥) → with_seal tree seal ≡ t → TakesSealed key takes t → ⊥
not_sealed key takes tree seal _ wrong e h = wrong (subst (TakesSealed key takes) (sym e) h).1

module _ {A : Type 0} (key : ℕ) {P : Tree → Type 0} {R : Tree → A → Type 0} {F : List ℕ → Error → Type 0} {L : A → A → Type 0} (one : ReadingLaws P R F L) where
  pairs : ReadingLaws {A = A × ℕ} (TakesPair P (TakesFixed 4)) (ReadsPair R (ReadsFixed (λ n. little_endian 4 n) (λ n. n < 256 ^ 4))) (RefusesPair P F (TakesFixed 4) (IsShort 4)) (AlikePairs L (λ v w. v ≡ w))
  pairs = pair_laws one (little_laws (unsigned_laws 4 refl))

  sealed_refused : (s : List ℕ) (e : Error) → RefusesSealed key P F s e → NoFront (TakesSealed key P) s
  sealed_refused s e (inl h) t front rest p q w = pairs.refused s e h t front rest (as_pair key P t p) q w
  sealed_refused s e (inr b) t front rest p q w =
      not_sealed key P b.tree b.seal t b.wrong (pairs.once (with_seal b.tree b.seal) t b.front front b.rest rest b.taken (as_pair key P t p) b.spells q (sym b.whole ∙ w)).1 p

  pub sealed_laws : ReadingLaws (TakesSealed key P) (ReadsSealed key R) (RefusesSealed key P F) L
  sealed_laws = record {
    taken = sealed_taken key P R one.taken;
    trees = λ t h. pairs.trees t (as_pair key P t h);
    once = λ t u a b x y p q. pairs.once t u a b x y (as_pair key P t p) (as_pair key P u q);
    refused = sealed_refused;
    one_value = sealed_value key R L one.one_value;
  }

-- What is written is read, and writes back what was read

pub sealed_back : {A : Type 0} (key : ℕ) (reads : Tree → A → Type 0) (v : A) (o : Option Tree) (t : Tree) → ((u : Tree) → o ≡ Some u → reads u v) → writes_sealed key o ≡ Some t → ReadsSealed key reads t v
sealed_back key reads v None t one e = cc
sealed_back key reads v (Some u) t one e = subst (λ z. ReadsSealed key reads z v) (let k : with_seal u (seal_of key u) ≡ t = cc in k) (one u refl, refl)

pub sealed_written : {A : Type 0} (key : ℕ) (reads : Tree → A → Type 0) (writes : A → Option Tree) → ((t : Tree) (v : A) → reads t v → writes v ≡ Some t) → (t : Tree) (v : A) → ReadsSealed key reads t v → writes_sealed key (writes v) ≡ Some t
sealed_written key reads writes one (group (part t (part u end))) v h = ap (writes_sealed key) (one t v h.0) ∙ ap (λ x. Some (with_seal t x)) (sym h.1)
sealed_written key reads writes one _ v h = absurd h

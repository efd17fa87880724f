-- The result of reading the start of some bytes.
use Rattle.std.specs.Prelude.{◌≡◌, ℕ, List, ◌++◌, refl, Bool, true, Result, Ok, Err, MatchResult}
use Rattle.std.proofs.Common.{sym, ◌∙◌, subst, inl, inr}
use Rattle.postcard_tree.specs.declared.error.Error.{Error}
use Rattle.postcard_tree.specs.declared.error.Error.TheVariants.{OutOfMemory}
use Rattle.postcard_tree.specs.Tree.{Tree}
use Rattle.postcard_tree.specs.Spelling.{Spells}
use Rattle.postcard_tree.specs.Reading.{Spelled}
use Rattle.postcard_tree.specs.ReadingLaws.{ReadingLaws}
use Rattle.postcard_de.specs.Source.{slice_source, Reads, Fails, Outcome}

-- the prefix of s before rest encodes a tree that is read as v
pub record ReadsFront {A : Type 0} (reads : Tree → A → Type 0) (s rest : List ℕ)
    (v : A) : Type 0 where
  -- the prefix
  pub front : List ℕ
  -- the prefix and the rest are all of s
  pub whole : s ≡ front ++ rest
  -- the prefix encodes a tree that is read as v
  pub spelled : Spelled reads front v

-- if a prefix of s encodes an accepted tree, the result is what it is read as, or out of memory
abbrev pub AnswersFronts : {A : Type 0} → (Tree → Type 0) → (Tree → A → Type 0)
    → Bool → List ℕ → Result A Error → Type 0
AnswersFronts takes reads grows s r =
    (t : Tree) (front rest : List ℕ) → takes t → Spells t front → s ≡ front ++ rest
    → MatchResult r (λ v. reads t v) (λ e. (e ≡ OutOfMemory) × (grows ≡ true))

pub read_front : {A : Type 0} {reads : Tree → A → Type 0} {s rest : List ℕ} {v : A}
    → Reads (slice_source s) (slice_source rest) (Spelled reads) v → ReadsFront reads s rest v
read_front {A} {reads} {s} {rest} {v} h = record { front = h.taken; whole = h.gave.told; spelled = h.found }

module _ {A : Type 0} {takes : Tree → Type 0} {reads : Tree → A → Type 0} {refuses : List ℕ → Error → Type 0} {alike : A → A → Type 0} (laws : ReadingLaws takes reads refuses alike) (s rest : List ℕ) (g : Bool) where
  pub answers_ok : (v : A) → ReadsFront reads s rest v → AnswersFronts takes reads g s (Ok v)
  answers_ok v h t front more p q w =
      let i = laws.once h.spelled.tree t h.front front rest more (laws.taken h.spelled.tree v h.spelled.read) p h.spelled.spells q (sym h.whole ∙ w) in
      subst (λ z. reads z v) i.1 h.spelled.read

  pub answers_err : (e : Error) → Fails (slice_source s) (slice_source rest) refuses g e
      → AnswersFronts takes reads g s (Err e)
  answers_err e h t front more p q w =
      elim (h.first refl refl) [ inl m ↦ (m, h.memory m) | inr m ↦ absurd (laws.refused s e m t front more p q w) ]

  pub answers_fronts : (r : Result A Error)
      → Outcome (slice_source s) (slice_source rest) r (Spelled reads) refuses g
      → AnswersFronts takes reads g s r
  answers_fronts (Ok v) h = answers_ok v (read_front h)
  answers_fronts (Err e) h = answers_err e h

-- the first of a pair, if it is one
abbrev pub first_of : {A B : Type 0} → Result (A × B) Error → Result A Error
first_of (Ok p) = Ok p.0
first_of (Err e) = Err e

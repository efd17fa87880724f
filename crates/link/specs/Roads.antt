-- The three ways to receive values: stretch by stretch under a limit, in place, and by an accumulator.
use Rattle.std.specs.Prelude.{◌≡◌, ◌≢◌, ◌⊎◌, ℕ, ◌<◌, Bool, true, false, List, [], ◌∷◌, ◌++◌, length, map}
use Rattle.std.specs.List.{AllZip, AllByRecursion}
use Rattle.postcard_tree.specs.Tree.{Tree}
use Rattle.postcard.specs.Frames.{Holds, HoldsValue}
use Rattle.postcard.specs.Feeds.{Feeds}
use Rattle.cobs.specs.Frames.{NoZero}
use Rattle.cobs.specs.Sentinel.{masked}
use Rattle.link.specs.Stream.{Verdict, value, cut, IsContent, ended, Answers}

-- the trees of the values among answers
abbrev pub values_of : List Verdict → List Tree
values_of [] = []
values_of (value t ∷ answers) = t ∷ values_of answers
values_of (_ ∷ answers) = values_of answers

-- each ended stretch has with its sentinel at most so many bytes
abbrev pub AllFit : ℕ → ℕ → List ℕ → Type 0
AllFit room s stream = AllByRecursion (λ stretch. length stretch < room) (ended s stream)

-- The answers of reading in place until no stretch is left: sentinels are skipped, an ended stretch is answered without a
-- limit and the rest begins behind its sentinel, and an unfinished one is cut.
pub data ReadsInPlace (holds : List ℕ → Tree → Type 0)
    (s : ℕ) : List ℕ → List Verdict → Type 0 where
  nothing : ReadsInPlace holds s [] []
  skipped : {stream : List ℕ} {answers : List Verdict} → ReadsInPlace holds s stream answers
      → ReadsInPlace holds s (s ∷ stream) answers
  answered : {stream : List ℕ} {answers : List Verdict} (stretch : List ℕ) (answer : Verdict)
      (rest : List ℕ) → NoZero stretch → stretch ≢ []
      → stream ≡ masked s stretch ++ (s ∷ rest) → IsContent holds stretch answer
      → ReadsInPlace holds s rest answers → ReadsInPlace holds s stream (answer ∷ answers)
  unanswered : {stream : List ℕ} (stretch : List ℕ) → NoZero stretch → stretch ≢ []
      → stream ≡ masked s stretch → ReadsInPlace holds s stream (cut ∷ [])

-- Where the stretches fit a limit, the values are those of the answers under it.
abbrev pub IsSameInPlace : (List ℕ → Tree → Type 0) → ℕ → Type 0
IsSameInPlace holds s = (room : ℕ) (stream : List ℕ) (us vs : List Verdict) → AllFit room s stream
    → Answers holds room s stream us → ReadsInPlace holds s stream vs → values_of us ≡ values_of vs

-- The loop that an accumulator's documentation has: each piece is fed until nothing is left of it or nothing was answered.
-- From these held bytes, over these pieces, these values; the bytes are those on the line, each XORed with the sentinel. Where
-- `may_stop`, the loop may be left early.
pub data Loops {A : Type 0} (takes : Tree → Type 0) (reads : Tree → A → Type 0)
    (growing may_stop : Bool) (room : ℕ) : List ℕ → List (List ℕ) → List A → Type 0 where
  done : {held : List ℕ} → Loops takes reads growing may_stop room held [] []
  stopped : {held : List ℕ} {pieces : List (List ℕ)} → may_stop ≡ true
      → Loops takes reads growing may_stop room held pieces []
  used_up : {held : List ℕ} {pieces : List (List ℕ)} {values : List A}
      → Loops takes reads growing may_stop room held pieces values
      → Loops takes reads growing may_stop room held ([] ∷ pieces) values
  consumed : {held kept piece : List ℕ} {pieces : List (List ℕ)} {values : List A}
      → Feeds room held piece (Unit {0}) (λ r. ⊥) (λ f r. ⊥) kept
      → Loops takes reads growing may_stop room kept pieces values
      → Loops takes reads growing may_stop room held (piece ∷ pieces) values
  overfull : {held kept piece : List ℕ} {pieces : List (List ℕ)} {values : List A} (rest : List ℕ)
      → Feeds room held piece ⊥ (λ r. rest ≡ r) (λ f r. ⊥) kept
      → Loops takes reads growing may_stop room kept (rest ∷ pieces) values
      → Loops takes reads growing may_stop room held (piece ∷ pieces) values
  failed : {held kept piece : List ℕ} {pieces : List (List ℕ)} {values : List A} (rest : List ℕ)
      → Feeds room held piece ⊥ (λ r. ⊥)
      (λ f r. (rest ≡ r) × ((t : Tree) → Holds takes f t → growing ≡ true)) kept
      → Loops takes reads growing may_stop room kept (rest ∷ pieces) values
      → Loops takes reads growing may_stop room held (piece ∷ pieces) values
  success : {held kept piece : List ℕ} {pieces : List (List ℕ)} {values : List A} (v : A)
      (rest : List ℕ)
      → Feeds room held piece ⊥ (λ r. ⊥) (λ f r. (rest ≡ r) × HoldsValue takes reads f v) kept
      → Loops takes reads growing may_stop room kept (rest ∷ pieces) values
      → Loops takes reads growing may_stop room held (piece ∷ pieces) (v ∷ values)

-- the pieces, one behind another
abbrev pub joined : List (List ℕ) → List ℕ
joined [] = []
joined (piece ∷ pieces) = piece ++ joined pieces

-- these are read from some of the trees, in order
abbrev pub ReadsSome : {A : Type 0} → (Tree → A → Type 0) → List Tree → List A → Type 0
ReadsSome reads ts [] = Unit {0}
ReadsSome reads [] (v ∷ vs) = ⊥
ReadsSome reads (t ∷ ts) (v ∷ vs) =
    (reads t v × ReadsSome reads ts vs) ⊎ ReadsSome reads ts (v ∷ vs)

-- the values are those of the trees; for a type that can ask for memory some may be missing
pub record AreValues {A : Type 0} (reads : Tree → A → Type 0) (growing : Bool)
    (ts : List Tree) (vs : List A) : Type 0 where
  -- none is missing for a type that doesn't allocate
  pub all : growing ≡ false → AllZip reads ts vs
  -- for another one they are some, in order
  pub some : ReadsSome reads ts vs

-- The values are those of the first of these trees; of all of them, unless the loop may be left early.
pub record AreFirst {A : Type 0} (reads : Tree → A → Type 0) (growing may_stop : Bool)
    (ts : List Tree) (vs : List A) : Type 0 where
  -- the trees of these values
  pub first : List Tree
  -- and the others
  pub more : List Tree
  -- these are all trees
  pub parts : ts ≡ first ++ more
  -- the values are read from the first of them
  pub are : AreValues reads growing first vs
  -- there are no others, unless the loop may stop early
  pub whole : may_stop ≡ false → more ≡ []

-- Where the stretches fit the accumulator, the values are those of the answers under its size, however the stream is cut.
abbrev pub IsSameByAccumulator : {A : Type 0} → (Tree → Type 0)
    → (Tree → A → Type 0) → Bool → List A → ℕ → Type 0
IsSameByAccumulator takes reads growing values s = (may_stop : Bool) (room : ℕ)
    (pieces : List (List ℕ)) (answers : List Verdict) → 0 < room → AllFit room s (joined pieces)
    → Answers (Holds takes) room s (joined pieces) answers
    → Loops takes reads growing may_stop room [] (map (masked s) pieces) values
    → AreFirst reads growing may_stop (values_of answers) values

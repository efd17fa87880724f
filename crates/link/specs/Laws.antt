-- What the laws of a link say. The ordinary ones speak of the trees that a stretch holds in some way, as `Holds` or
-- `HoldsExactly` says.
use Rattle.std.specs.Prelude.{◌≡◌, ◌≢◌, ◌↔◌, ◌⊎◌, List, [], ◌∷◌, ◌++◌, ℕ, ◌+◌, ◌-◌, ◌≤◌, ◌==◌, length, map, take, count_by, Option, Some, Ok}
use Rattle.std.specs.List.{after_first}
use Rattle.cobs.specs.Cases.{FillsBlocks, trailing}
use Rattle.cobs.specs.Frames.{shortest_frame, longest_frame, most_length}
use Rattle.cobs.specs.Sentinel.{masked}
use Rattle.cobs.specs.Whole.{unpadded}
use Rattle.postcard_tree.specs.Tree.{Tree}
use Rattle.postcard_tree.specs.Spelling.{short}
use Rattle.postcard.specs.Frames.{Holds}
use Rattle.link.specs.Stream.{Verdict, value, damaged, unfinished, HoldsExactly, IsAnswer, Given, Answers}
use Rattle.link.specs.Run.{Send, IsRun, line, told}
use Rattle.link.specs.Pushes.{Matches}
use Rattle.link.specs.InPlace.{ReadsNext}
use Rattle.link.specs.Roads.{ReadsInPlace}
use Rattle.link.specs.declared.receiver.Answer.{Answer}

-- What a receiver answers to the line of a run is what is to be told of the run, and nothing else.
abbrev pub IsTold : (Tree → Type 0) → (List ℕ → Tree → Type 0) → ℕ → ℕ → Type 0
IsTold takes holds limit s =
    (run : List (List Send)) (answers : List Verdict) → IsRun takes limit s run
    → Answers holds limit s (line s run) answers ↔ (answers ≡ told s run)

-- A run under a limit is one under any greater limit.
abbrev pub IsRunWithin : (Tree → Type 0) → ℕ → Type 0
IsRunWithin takes s = (n limit : ℕ) (run : List (List Send)) → n ≤ limit → IsRun takes n s run
    → IsRun takes limit s run

-- A stream has at most one list of answers before its end is known, and at most one as a whole.
pub record HasOneAnswer (holds : List ℕ → Tree → Type 0) (limit s : ℕ) : Type 0 where
  -- before the end is known there is one list
  pub given : (stream : List ℕ) (us vs : List Verdict) → Given holds limit s stream us
      → Given holds limit s stream vs → us ≡ vs
  -- and for the whole stream there is one
  pub whole : (stream : List ℕ) (us vs : List Verdict) → Answers holds limit s stream us
      → Answers holds limit s stream vs → us ≡ vs

-- nothing, or a stream whose last byte is the sentinel
abbrev pub EndsBetween : ℕ → List ℕ → Type 0
EndsBetween s stream = (stream ≡ []) ⊎ ((x : List ℕ) × (stream ≡ x ++ (s ∷ [])))

-- Behind a sentinel, and at the start, the answers to what comes are those that it has alone.
abbrev pub Appends : (List ℕ → Tree → Type 0) → ℕ → ℕ → Type 0
Appends holds limit s = (a b : List ℕ) (answers : List Verdict) → EndsBetween s a
    → Answers holds limit s (a ++ b) answers ↔ ((us vs : List Verdict) × Given holds limit s a us
    × Answers holds limit s b vs × (answers ≡ us ++ vs))

-- the bytes through the last sentinel
abbrev pub through_last : ℕ → List ℕ → List ℕ
through_last s a = take (length a - length (unfinished s a)) a

-- the bytes behind the first sentinel; none where there is none
abbrev pub behind_first : ℕ → List ℕ → List ℕ
behind_first s b = after_first (λ c. c == s) b

-- how many bytes are the sentinel
abbrev pub sentinels : ℕ → List ℕ → ℕ
sentinels s x = count_by (λ c. c == s) x

-- the answers are these on either side, and between them at most n
abbrev pub HasBetween : ℕ → List Verdict → List Verdict → List Verdict → Type 0
HasBetween n us ws answers = (vs : List Verdict) × (answers ≡ us ++ (vs ++ ws)) × (length vs ≤ n)

-- Bytes between a and b change no answer to a through its last sentinel and none to b behind its first one; between these
-- there is at most one answer more than they have sentinels.
abbrev pub IsLocal : (List ℕ → Tree → Type 0) → ℕ → ℕ → Type 0
IsLocal holds limit s = (a x y b : List ℕ) (p q : List Verdict)
    → Answers holds limit s (a ++ (x ++ b)) p → Answers holds limit s (a ++ (y ++ b)) q
    → (us ws : List Verdict) × Given holds limit s (through_last s a) us
    × Answers holds limit s (behind_first s b) ws
    × HasBetween (sentinels s x + 1) us ws p × HasBetween (sentinels s y + 1) us ws q

-- Whoever joins a line anywhere hears, from the next sentinel on, what everyone hears.
abbrev pub StartsAnywhere : (List ℕ → Tree → Type 0) → ℕ → ℕ → Type 0
StartsAnywhere holds limit s =
    (x b : List ℕ) (answers : List Verdict) → Answers holds limit s (x ++ (s ∷ b)) answers
    → (us vs : List Verdict) × Answers holds limit s b vs × (answers ≡ us ++ vs)

-- A nonempty proper front of a frame that sending makes is damaged, where it is within the limit.
abbrev pub IsDamagedInFronts : (Tree → Type 0) → ℕ → Type 0
IsDamagedInFronts takes limit = (t : Tree) (front rest : List ℕ) (answer : Verdict) → takes t
    → shortest_frame (short t) ≡ front ++ rest
    → front ≢ [] → rest ≢ [] → length front ≤ limit
    → IsAnswer (Holds takes) limit front answer ↔ (answer ≡ damaged)

-- A value that writes a tree has a frame within a limit that is at least as long as the longest frame of the greatest size.
abbrev pub HasRoom : Option ℕ → Option Tree → Type 0
HasRoom greatest writes = (limit size : ℕ) (t : Tree) → greatest ≡ Some size
    → most_length size ≤ limit → writes ≡ Some t → length (shortest_frame (short t)) ≤ limit

-- no sentinel stands first or behind another, and the last byte is one
pub record IsTidy (s : ℕ) (stream : List ℕ) : Type 0 where
  -- it is empty or ends in a sentinel
  pub ends : EndsBetween s stream
  -- it begins with none
  pub first : (x : List ℕ) → stream ≢ s ∷ x
  -- and has no two in a row
  pub single : (x y : List ℕ) → stream ≢ x ++ (s ∷ (s ∷ y))

-- Tidy streams whose strict answers are values are equal exactly where these are.
abbrev pub IsInjective : (Tree → Type 0) → ℕ → ℕ → Type 0
IsInjective takes limit s = (x y : List ℕ) (ts us : List Tree) → IsTidy s x → IsTidy s y
    → Answers (HoldsExactly takes) limit s x (map value ts)
    → Answers (HoldsExactly takes) limit s y (map value us) → (x ≡ y) ↔ (ts ≡ us)

-- A stretch that is answered by a value is no shorter than the frame that sending makes of it.
abbrev pub IsLeast : (Tree → Type 0) → ℕ → Type 0
IsLeast takes limit = (stretch : List ℕ) (t : Tree) → IsAnswer (Holds takes) limit stretch (value t)
    → length (shortest_frame (short t)) ≤ length stretch

-- Of a stretch that holds a tree two lengths tell whether sending makes it: the message is as long as the tree's short
-- spelling, and the stretch as its message's shortest frame.
abbrev pub IsToldByLengths : (Tree → Type 0) → Type 0
IsToldByLengths takes =
    (stretch : List ℕ) (t : Tree) (h : Holds takes stretch t) → HoldsExactly takes stretch t
    ↔ ((length h.message ≡ length (short t)) × (length stretch ≡ length (shortest_frame h.message)))

-- The frame that postcard's flavor `Cobs` makes of a value is the one that sending makes; but a block 01 longer where the
-- spelling ends in a run of nonzero bytes whose length is a positive multiple of 254.
abbrev pub DiffersByBlock : Option Tree → Type 0
DiffersByBlock writes = (t : Tree) → writes ≡ Some t
    → (FillsBlocks (trailing (short t)) × (longest_frame (short t) ≡ shortest_frame (short t) ++ 1 ∷ []))
    ⊎ ((¬ FillsBlocks (trailing (short t))) × (longest_frame (short t) ≡ shortest_frame (short t)))

-- Reading in place again and again gives the answers of reading in place: none where only sentinels are left, and else the answer
-- to the next stretch before the answers to what is left.
pub record IsReadInTurn {V : Type 0} (takes : Tree → Type 0)
    (reads : Tree → V → Type 0) (s : ℕ) : Type 0 where
  -- of sentinels alone there are no results
  pub over : (bytes : List ℕ) → unpadded (masked s bytes) ≡ []
      → ReadsInPlace (Holds takes) s bytes []
  -- else the result of the next stretch comes before those of what is left
  pub next : (bytes left : List ℕ) (answer : Answer V) (later : List Verdict)
      → ReadsNext takes reads (unpadded (masked s bytes)) (Ok answer) (masked s left)
      → ReadsInPlace (Holds takes) s left later
      → (verdict : Verdict) × Matches reads answer verdict
      × ReadsInPlace (Holds takes) s bytes (verdict ∷ later)

-- What the loop over an accumulator does with pieces, each byte of which is XORed with the sentinel.
use Rattle.std.specs.Prelude.{◌≡◌, ℕ, ◌≤◌, Bool, true, false, List, [], ◌∷◌, ◌++◌, length, map}
use Rattle.std.specs.Borrow.{RattleType}
use Rattle.std.specs.Mem.{FitsInMemory}
use Rattle.line_io.specs.Device.{LineState}
use Rattle.line_io.specs.Transfers.{HasRead}
use Rattle.cobs.specs.Sentinel.{masked}
use Rattle.postcard_tree.specs.ReadingLaws.{WireForm}
use Rattle.postcard_tree.specs.Tree.{Tree}
use Rattle.postcard.specs.contracts.accumulator.CobsAccumulator as accumulator
use Rattle.postcard.specs.Frames.{Holds}
use Rattle.link.specs.Stream.{Verdict, Answers}
use Rattle.link.specs.Roads.{Loops, joined, AllFit, AreValues, AreFirst, values_of, IsSameByAccumulator}
use Rattle.link.specs.declared.gathering.Gathered.{Gathered}
use Rattle.line_io.specs.declared.transfers.End.{End}
use Rattle.line_io.specs.declared.transfers.End.TheVariants.{NoMemory}

-- an accumulator of such a room can be held
abbrev pub AccumulatorFitsInMemory : RattleType → Type 0
AccumulatorFitsInMemory N = FitsInMemory (accumulator.the_row N)

-- From these held bytes the pieces were fed until `rest` was left of them, and these values came: whatever the loop gives
-- from there, it gives behind them.
pub record GathersPieces {V : Type 0} (takes : Tree → Type 0) (reads : Tree → V → Type 0) (growing : Bool) (room : ℕ)
    (held : List ℕ) (pieces : List (List ℕ)) (kept : List ℕ) (rest : List (List ℕ)) (old new : List V) : Type 0 where
  -- the values that came
  pub got : List V
  -- they were appended to the list
  pub values : new ≡ old ++ got
  -- what the loop gives from what is left, it gives after them
  pub goes_on : (may_stop : Bool) (later : List (List ℕ)) (vs : List V)
      → Loops takes reads growing may_stop room kept (rest ++ later) vs
      → Loops takes reads growing may_stop room held (pieces ++ later) (got ++ vs)

-- A further value came, which had no place in the list behind these.
abbrev pub LacksPlace : {V : Type 0} → (Tree → Type 0) → (Tree → V → Type 0)
    → Bool → ℕ → List ℕ → List (List ℕ) → List V → List V → Type 0
LacksPlace {V} takes reads growing room held pieces old new =
    (lost : V) × (kept : List ℕ) × (rest : List (List ℕ)) × (more : List V) × (new ≡ old ++ more)
    × GathersPieces takes reads growing room held pieces kept rest old (new ++ lost ∷ [])

-- `roads`' law of an accumulator, of any values
abbrev pub AreSameByAccumulator : {V : Type 0} → (Tree → Type 0) → (Tree → V → Type 0)
    → Bool → Type 0
AreSameByAccumulator {V} takes reads growing =
    (values : List V) (s : ℕ) → IsSameByAccumulator takes reads growing values s

-- a byte or none
abbrev pub some_held : List ℕ → ℕ
some_held [] = 0
some_held (b ∷ held) = 1

-- pieces of these bytes on the line
pub record GathersOnLine {V : Type 0} (takes : Tree → Type 0) (reads : Tree → V → Type 0) (growing : Bool)
    (room s : ℕ) (held bytes kept : List ℕ) (rest : List (List ℕ)) (old new : List V) : Type 0 where
  -- the chunks in which the bytes came
  pub pieces : List (List ℕ)
  -- they are these bytes
  pub are : joined pieces ≡ bytes
  -- and were fed in turn
  pub gathers : GathersPieces takes reads growing room held (map (masked s) pieces) kept rest old new

-- A further value had no place in the list, which has all values of the bytes before the last read of at most 1024.
pub record FindsNoPlace {V : Type 0} (takes : Tree → Type 0) (reads : Tree → V → Type 0) (growing : Bool)
    (room s : ℕ) (held bytes : List ℕ) (old new : List V) : Type 0 where
  pub lost : V
  pub now : List ℕ
  pub rest : List (List ℕ)
  pub gathers : GathersOnLine takes reads growing room s held bytes now rest old (new ++ lost ∷ [])
  pub before : List ℕ
  pub last : List ℕ
  pub parts : bytes ≡ before ++ last
  pub short : length last ≤ 1024
  pub then : List ℕ
  pub early : List V
  pub later : List V
  pub said : new ≡ early ++ later
  pub first : GathersOnLine takes reads growing room s held before then [] old early

-- what was gathered, by how the reading ended
abbrev pub HasGathered : {V : Type 0} → (Tree → Type 0) → (Tree → V → Type 0) → Bool → ℕ → ℕ → List ℕ
    → List ℕ → List ℕ → List V → List V → End → Type 0
HasGathered takes reads growing room s held bytes kept old new NoMemory =
    FindsNoPlace takes reads growing room s held bytes old new
HasGathered takes reads growing room s held bytes kept old new _ =
    GathersOnLine takes reads growing room s held bytes kept [] old new

-- Where the stretches of the bytes fit, the values are those of the answers.
abbrev pub AreThose : {V : Type 0} → (Tree → Type 0) → (Tree → V → Type 0)
    → Bool → ℕ → ℕ → List ℕ → List V → Type 0
AreThose takes reads growing room s bytes values =
    (answers : List Verdict) → AllFit room s bytes → Answers (Holds takes) room s bytes answers
    → AreValues reads growing (values_of answers) values

-- by how the reading ended: when out of memory the same of these values and one more, which had no place in the list, and of the
-- first of the answers
abbrev pub AreThoseFor : {V : Type 0} → (Tree → Type 0) → (Tree → V → Type 0)
    → Bool → ℕ → ℕ → List ℕ → List V → End → Type 0
AreThoseFor {V} takes reads growing room s bytes values NoMemory =
    (lost : V) × ((answers : List Verdict) → AllFit room s bytes
    → Answers (Holds takes) room s bytes answers
    → AreFirst reads growing true (values_of answers) (values ++ lost ∷ []))
AreThoseFor takes reads growing room s bytes values _ =
    AreThose takes reads growing room s bytes values

-- The documented loop over pieces of these bytes gives these values, whether or not their stretches fit.
pub record LoopsOver {V : Type 0} (takes : Tree → Type 0) (reads : Tree → V → Type 0)
    (growing may_stop : Bool) (room s : ℕ) (bytes : List ℕ) (values : List V) : Type 0 where
  -- the chunks in which the bytes came
  pub pieces : List (List ℕ)
  -- they are these bytes
  pub are : joined pieces ≡ bytes
  -- the loop over them gives the values
  pub loops : Loops takes reads growing may_stop room [] (map (masked s) pieces) values

-- One more value had no place in the list, which has all values of the bytes before the last read of at most 1024.
pub record LoopsToLoss {V : Type 0} (takes : Tree → Type 0) (reads : Tree → V → Type 0)
    (growing : Bool) (room s : ℕ) (bytes : List ℕ) (values : List V) : Type 0 where
  -- the value for which the list had no space
  pub lost : V
  -- with it, the loop gives these values
  pub loops : LoopsOver takes reads growing true room s bytes (values ++ lost ∷ [])
  -- the bytes before the last read
  pub before : List ℕ
  -- those of the last read
  pub last : List ℕ
  -- these are all bytes
  pub parts : bytes ≡ before ++ last
  -- the last read is at most so long
  pub short : length last ≤ 1024
  -- the values of the bytes before
  pub early : List V
  -- and those after
  pub later : List V
  -- these are all values in the list
  pub said : values ≡ early ++ later
  -- no value of the bytes before is missing
  pub first : LoopsOver takes reads growing false room s before early

-- by how the reading ended
abbrev pub AreLooped : {V : Type 0} → (Tree → Type 0) → (Tree → V → Type 0)
    → Bool → ℕ → ℕ → List ℕ → List V → End → Type 0
AreLooped takes reads growing room s bytes values NoMemory =
    LoopsToLoss takes reads growing room s bytes values
AreLooped takes reads growing room s bytes values _ =
    LoopsOver takes reads growing false room s bytes values

-- These values were gathered along a line by the documented loop, from where the reader was to where it is: those of the answers, where
-- the stretches fit, and what the loop gives, whether or not they do.
abbrev pub AreGatheredBy : {V R : Type 0} → WireForm V → ℕ → ℕ → (R → LineState) → R → Gathered V R
    → Type 0
AreGatheredBy form room s line reader got = (bytes : List ℕ)
    × HasRead (line reader) (line got.reader) got.end bytes
    × AreThoseFor form.takes form.reads form.growing room s bytes got.values.items got.end
    × AreLooped form.takes form.reads form.growing room s bytes got.values.items got.end

-- Which numbers were counted, and which are missing below the greatest of them.
use Rattle.std.specs.Prelude.{◌≡◌, ◌↔◌, ◌⊎◌, ℕ, ◌+◌, ◌-◌, ◌^◌, ◌<◌, ◌≤◌, nat_lt, if◌then◌else◌, max, min, List, [], ◌∷◌, ◌++◌, length, map}
use Rattle.std.specs.List.{Contains}
use Rattle.journal_scan.specs.declared.tallies.Tally.{Tally}

-- numbers one after another, from the first to the last, both of them too
pub record Gap : Type 0 where
  -- the first number
  pub first : ℕ
  -- the last number
  pub last : ℕ

-- the range from one number to another
abbrev pub gap : ℕ × ℕ → Gap
gap e = record { first = e.0; last = e.1 }

-- the ranges that are kept by their first numbers
abbrev pub gaps_of : List (ℕ × ℕ) → List Gap
gaps_of entries = map gap entries

-- the number after the greatest of these, 2^64 - 1 at most; 0 if there are none
abbrev pub behind_greatest : List ℕ → ℕ
behind_greatest [] = 0
behind_greatest (n ∷ ns) = max (min (n + 1) (2 ^ 64 - 1)) (behind_greatest ns)

-- a number lies in one of these ranges
abbrev pub LiesIn : List Gap → ℕ → Type 0
LiesIn [] k = ⊥
LiesIn (g ∷ gaps) k = ((g.first ≤ k) × (k ≤ g.last)) ⊎ LiesIn gaps k

-- these ranges are in order from n on, none is empty, and a number stands between each and the next
abbrev pub AreApart : ℕ → List Gap → Type 0
AreApart n [] = Unit {0}
AreApart n (g ∷ gaps) = (n ≤ g.first) × (g.first ≤ g.last) × AreApart (g.last + 2) gaps

-- each of these first numbers is below this one
abbrev pub KeysBelow : ℕ → List (ℕ × ℕ) → Type 0
KeysBelow k [] = Unit {0}
KeysBelow k (e ∷ entries) = (e.0 < k) × KeysBelow k entries

-- a number lies in this range, which is one of these
pub record IsGapAt (entries : List (ℕ × ℕ)) (g : ℕ × ℕ) (n : ℕ) : Type 0 where
  -- the ranges before it
  pub front : List (ℕ × ℕ)
  -- the ranges after it
  pub rest : List (ℕ × ℕ)
  -- the ranges are these, with this one between
  pub are : entries ≡ front ++ (g ∷ rest)
  -- its first number is at most this one
  pub from : g.0 ≤ n
  -- its last number is at least this one
  pub to : n ≤ g.1

-- two after the last number of such ranges, or n if there are none
abbrev pub behind_ranges : ℕ → List Gap → ℕ
behind_ranges n [] = n
behind_ranges n (g ∷ gaps) = behind_ranges (g.last + 2) gaps

-- the ranges are exactly the numbers below the one after the greatest that aren't among these
pub record AreMissing (numbers : List ℕ) (gaps : List Gap) : Type 0 where
  -- a number is in a range exactly if it is below the one after the greatest, and isn't among these
  pub missing : (k : ℕ) → LiesIn gaps k ↔ ((k < behind_greatest numbers) × (Contains numbers k → ⊥))
  -- the ranges are in order, none is empty, and a number is between each two
  pub apart : AreApart 0 gaps

-- What is kept of these numbers: the next one, the ranges that are missing below it, and how many they are. While a number is left,
-- the ranges end before one that isn't missing.
pub record Tallies (numbers : List ℕ) (next : ℕ) (gaps : List Gap) (count : ℕ) : Type 0 where
  -- the number after the greatest
  pub next_is : next ≡ behind_greatest numbers
  -- a number is in a range exactly if it is below that, and isn't among these
  pub missing : (k : ℕ) → LiesIn gaps k ↔ ((k < next) × (Contains numbers k → ⊥))
  -- the ranges are in order, none is empty, and a number is between each two
  pub apart : AreApart 0 gaps
  -- while a number is left, the ranges end before one that isn't missing
  pub under : next < 2 ^ 64 - 1 → behind_ranges 0 gaps ≤ next
  -- how many numbers they are, at most 2^64 - 1
  pub count_is : count ≡ min (length numbers) (2 ^ 64 - 1)

-- a tally of these numbers
abbrev pub IsTally : List ℕ → Tally → Type 0
IsTally numbers tally = Tallies numbers tally.next (gaps_of tally.gaps.entries) tally.count

-- the range of the numbers from one up to another, if there are any
abbrev pub gap_before : ℕ → ℕ → List Gap
gap_before from n = if nat_lt from n then record { first = from; last = n - 1 } ∷ [] else []

-- the ranges that are left of one without a number in it
abbrev pub gaps_without : Gap → ℕ → List Gap
gaps_without g n = gap_before g.first n ++ gap_before (n + 1) (g.last + 1)

-- To count a number a further range may be needed: it isn't the next one, and wasn't counted before (of the greatest number of all
-- that isn't said).
abbrev pub NeedsRange : List ℕ → ℕ → Type 0
NeedsRange numbers n = (n ≡ behind_greatest numbers → ⊥) × (n < 2 ^ 64 - 1 → Contains numbers n → ⊥)

-- The number after the greatest of some is above each of them, but for 2^64 - 1.
abbrev pub StandsAboveAll : Type 0
StandsAboveAll = (numbers : List ℕ) (n : ℕ) → Contains numbers n → n < 2 ^ 64 - 1
    → n < behind_greatest numbers

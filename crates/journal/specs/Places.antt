-- Where the results of a log stand, and which numbers are believed.
use Rattle.std.specs.Prelude.{◌≡◌, ℕ, ◌+◌, ◌-◌, ◌/◌, ◌^◌, min, nat_lt, if◌then◌else◌, List, [], ◌∷◌, ◌++◌, length}
use Rattle.postcard_tree.specs.Tree.{Tree}
use Rattle.link.specs.Stream.{unfinished}
use Rattle.link.specs.Listening.{HasGiven}
use Rattle.link.specs.declared.receiver.Answer.{Answer}
use Rattle.link.specs.declared.receiver.Answer.TheVariants.{Value, Damaged, TooLong, Cut}

-- A result of a stretch of a log: how many bytes stand before the stretch, and how many through the byte that brings the result about.
pub record Located (V : Type 0) : Type 0 where
  -- how many bytes there are before the stretch
  pub before : ℕ
  -- how many bytes there are through the one that ends it
  pub through : ℕ
  -- the result
  pub answer : Answer (ℕ × V)

-- the results alone
abbrev pub answers_in : {V : Type 0} → List (Located V) → List (Answer (ℕ × V))
answers_in [] = []
answers_in (p ∷ located) = p.answer ∷ answers_in located

-- After the first bytes of a log, one more brings about this result, after those that were given: to the stretch that is
-- unfinished there.
pub record IsLocatedIn {V : Type 0} (holds : List ℕ → Tree → Type 0) (reads : Tree → ℕ × V → Type 0) (limit : ℕ) (bytes : List ℕ) (given : List (Answer (ℕ × V))) (p : Located V) : Type 0 where
  -- the bytes before the one that brings the result
  pub front : List ℕ
  -- that byte
  pub byte : ℕ
  -- the bytes after it
  pub rest : List ℕ
  -- the log is these three
  pub bytes_are : bytes ≡ (front ++ byte ∷ []) ++ rest
  -- before that byte the earlier results are all
  pub not_yet : HasGiven holds reads limit 0 given front
  -- with it this one is the last of them
  pub now : HasGiven holds reads limit 0 (given ++ p.answer ∷ []) (front ++ byte ∷ [])
  -- how many bytes there are before the stretch
  pub before_is : p.before ≡ length front - length (unfinished 0 front)
  -- how many bytes there are through that byte
  pub through_is : p.through ≡ length front + 1

-- so they are located, one after another
abbrev pub AreLocatedIn : {V : Type 0} → (List ℕ → Tree → Type 0) → (Tree → ℕ × V → Type 0) → ℕ → List ℕ → List (Answer (ℕ × V)) → List (Located V) → Type 0
AreLocatedIn holds reads limit bytes given [] = Unit {0}
AreLocatedIn holds reads limit bytes given (p ∷ located) = IsLocatedIn holds reads limit bytes given p × AreLocatedIn holds reads limit bytes (given ++ p.answer ∷ []) located

-- The numbers so far: the next one, and how many bytes stand through the last record that moved it.
pub record Numbering : Type 0 where
  -- the number of the next record
  pub next : ℕ
  -- how many bytes there are through the last record that moved it
  pub through : ℕ

-- before the first record
abbrev pub numbered_from : ℕ → Numbering
numbered_from first = record { next = first; through = 0 }

-- A record takes three bytes at least: one of its number, one more of its frame, and its zero.
abbrev pub least_record : ℕ
least_record = 3

-- the greatest number that is believed of a record that begins after so many bytes: each record that was lost between it and the
-- last one took so many of them at least
abbrev pub furthest : Numbering → ℕ → ℕ
furthest c before = c.next + (before - c.through) / least_record

-- A result as it is handed on: a record whose number is further ahead is damaged.
abbrev pub believed : {V : Type 0} → Numbering → ℕ → Answer (ℕ × V) → Answer (ℕ × V)
believed c before (Value r) = if nat_lt (furthest c before) r.0 then Damaged else Value r
believed c before Damaged = Damaged
believed c before TooLong = TooLong
believed c before Cut = Cut

-- The numbers after a result that was handed on, of a stretch that ends so: a record whose number isn't below the next one moves it.
abbrev pub numbered_behind : {V : Type 0} → Numbering → ℕ → Answer (ℕ × V) → Numbering
numbered_behind c through (Value r) = if nat_lt r.0 c.next then c else record { next = min (r.0 + 1) (2 ^ 64 - 1); through = through }
numbered_behind c through Damaged = c
numbered_behind c through TooLong = c
numbered_behind c through Cut = c

-- the results as they are handed on, one after another
abbrev pub all_believed : {V : Type 0} → Numbering → List (Located V) → List (Answer (ℕ × V))
all_believed c [] = []
all_believed c (p ∷ located) = believed c p.before p.answer ∷ all_believed (numbered_behind c p.through (believed c p.before p.answer)) located

-- the numbers after them all
abbrev pub numbered_after : {V : Type 0} → Numbering → List (Located V) → Numbering
numbered_after c [] = c
numbered_after c (p ∷ located) = numbered_after (numbered_behind c p.through (believed c p.before p.answer)) located

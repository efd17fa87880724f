-- Records: values with numbers.
use Rattle.std.specs.Prelude.{ℕ, ◌+◌, ◌-◌, ◌^◌, min, nat_lt, if◌then◌else◌, List, [], ◌∷◌, Option, Some}
use Rattle.postcard_tree.specs.Tree.{Tree, number, group, part, end, parts, group_of}
use Rattle.postcard_tree.specs.Reading.{TakesNumber, ReadsNumber, GroupOf, PartThen, NoParts}
use Rattle.link.specs.declared.receiver.Answer.{Answer}
use Rattle.link.specs.declared.receiver.Answer.TheVariants.{Value, Damaged, TooLong, Cut}

-- a record as a tree: the number, and the value's tree
abbrev pub numbered : ℕ → Tree → Tree
numbered n t = group (part (number 64 n) (part t end))

-- what the record of a value writes
abbrev pub record_of : ℕ → Option Tree → Option Tree
record_of n writes = group_of (parts (Some (number 64 n) ∷ writes ∷ []))

-- the trees that are records of a type's trees, and what they are read as
abbrev pub takes_record : (Tree → Type 0) → Tree → Type 0
takes_record takes = GroupOf (PartThen (TakesNumber 64) (PartThen takes NoParts))

-- a record is read as its number and its value
abbrev pub reads_record : {V : Type 0} → (Tree → V → Type 0) → Tree → ℕ × V → Type 0
reads_record reads t r = GroupOf (PartThen (λ u. ReadsNumber 64 u r.0) (PartThen (λ u. reads u r.1) NoParts)) t

-- the number after a result, where n is the one after those before it
abbrev pub past : {V : Type 0} → ℕ → Answer (ℕ × V) → ℕ
past n (Value r) = if nat_lt r.0 n then n else min (r.0 + 1) (2 ^ 64 - 1)
past n Damaged = n
past n TooLong = n
past n Cut = n

-- the number after the greatest one of these results, and at least n
abbrev pub past_all : {V : Type 0} → ℕ → List (Answer (ℕ × V)) → ℕ
past_all n [] = n
past_all n (a ∷ answers) = past_all (past n a) answers

-- How many bytes a record takes at least.
use Rattle.std.proofs.Common.{ℕ, zero, suc, ◌<◌, ◌/◌, length, ap, inl, inr, arith}
use Rattle.std.proofs.lemmas.Bool.{le-ltb, lt-ltb, cases_lt}
use Rattle.std.proofs.lemmas.List.{length-append}
use Rattle.cobs.specs.FrameLaws.{IsWithinLengths}
use Rattle.postcard_tree.specs.Tree.{Tree, byte, number, character, sequence, group, part, end}
use Rattle.postcard_tree.specs.Spelling.{groups_of, varint, short, short_all}
use Rattle.postcard.specs.Frames.{Holds}
use Rattle.link.specs.Stream.{HoldsExactly}
use Rattle.link.specs.Laws.{IsLeast}
use Rattle.journal.specs.Records.{takes_record}
use Rattle.journal_laws.specs.Laws.{TakesLeast}

some_groups : (more n : ℕ) → 0 < length (groups_of more n)
some_groups zero n = omega arith
some_groups (suc more) n = elim (cases_lt n 128) [
  | inl l ↦ rw (lt-ltb n 128 l) (omega arith)
  | inr l ↦ rw (le-ltb n 128 l) (omega (arith, some_groups more (n / 128)))
]

some_varint : (n : ℕ) → 0 < length (varint n)
unfolding varint
some_varint n = some_groups 18 n

-- a record's shortest spelling has a byte: one of its number
some_short : (takes : Tree → Type 0) (t : Tree) → takes_record takes t → 0 < length (short t)
some_short takes (byte b) h = absurd h
some_short takes (number bits n) h = absurd h
some_short takes (character c) h = absurd h
some_short takes (sequence ts) h = absurd h
some_short takes (group end) h = absurd h
some_short takes (group (part (byte b) ts)) h = absurd h.0
some_short takes (group (part (number bits n) ts)) h = omega (arith, some_varint n, length-append (varint n) (short_all ts))
some_short takes (group (part (character c) ts)) h = absurd h.0
some_short takes (group (part (sequence us) ts)) h = absurd h.0
some_short takes (group (part (group us) ts)) h = absurd h.0

module _ (takes : Tree → Type 0) (lengths : IsWithinLengths) where
  pub ordinary_least : ((limit : ℕ) → IsLeast (takes_record takes) limit) → TakesLeast (Holds (takes_record takes))
  ordinary_least least stretch t h =
      let frame = least (length stretch) stretch t (omega arith, h) in
      omega (arith, frame, (lengths (short t)).0, some_short takes t h.taken)

  pub strict_least : TakesLeast (HoldsExactly (takes_record takes))
  strict_least stretch t h = omega (arith, ap length h.1, (lengths (short t)).0, some_short takes t h.0)

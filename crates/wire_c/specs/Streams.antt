-- The lines of a stream that is read by calls that each stand alone.
use Rattle.std.specs.Prelude.{◌≡◌, ◌≢◌, ℕ, ◌+◌, ◌-◌, ◌<◌, ◌≤◌, ◌==◌, ◌&&◌, Bool, true, false, List, [], length, drop, slice_index, nat_lt, if◌then◌else◌}
use Rattle.cobs.specs.InPlace.{stretch}
use Rattle.cobs.specs.Sentinel.{masked}
use Rattle.schema_table.specs.declared.value.Value.{Value}
use Rattle.link.specs.Stream.{begun}
use Rattle.link.specs.Pushes.{finished}
use Rattle.link.specs.Listening.{HasGiven}
use Rattle.link.specs.declared.receiver.Answer.{Answer}
use Rattle.wire_lib.specs.declared.receive.Reading.{Reading}
use Rattle.wire_lib.specs.Received.{held_by, read_by, as_list, TellsEach, TellsEnd}
use Rattle.wire_c.specs.declared.terms.WireTerms.{WireTerms}
use Rattle.wire_c.specs.Flags.{is_set}

-- behind so many bytes, and the sentinel after them, if there is one
abbrev pub behind_sentinel : ℕ → ℕ → ℕ
behind_sentinel before all = if nat_lt before all then before + 1 else before

-- How many bytes in front are of a stretch that was answered: if the stream begins inside one, those through its sentinel, or all.
abbrev pub skipped_in : Bool → ℕ → List ℕ → ℕ
skipped_in false s stream = 0
skipped_in true s stream = behind_sentinel (length (stretch (masked s stream))) (length stream)

-- So many bytes of a stream come through its last sentinel; none if it has none.
pub record IsThroughLast (s : ℕ) (stream : List ℕ) (end : ℕ) : Type 0 where
  -- they are of the stream
  pub within : end ≤ length stream
  -- the last of them is the sentinel
  pub is_sentinel : 0 < end → slice_index stream (end - 1) ≡ s
  -- none after them is
  pub none : (k : ℕ) → end ≤ k → k < length stream → slice_index stream k ≢ s

-- Whether a stream of this length ends inside a stretch that was answered, by the end of its last sentinel: it has none and began inside
-- one, or more than 65536 bytes are begun.
abbrev pub is_over : Bool → ℕ → ℕ → Bool
is_over inside end all = if (inside && end == 0) then true else nat_lt 65536 (all - end)

-- how many bytes of a stream are done with, and whether it ends inside an answered stretch
abbrev pub IsDoneWith : Bool → ℕ → List ℕ → ℕ → Bool → Type 0
IsDoneWith inside s stream used still = (end : ℕ) × IsThroughLast s stream end
    × (still ≡ is_over inside end (length stream))
    × (used ≡ (if is_over inside end (length stream) then length stream else end))

-- what the end of a stream adds to its lines, if it ends
abbrev pub TellsLast : Reading → Bool → ℕ → List ℕ → List ℕ → List ℕ → Type 0
TellsLast r false passed stream lines lines' = lines' ≡ lines
TellsLast r true passed stream lines lines' =
    TellsEnd r passed stream (as_list (finished (begun 65536 r.sentinel stream))) lines lines'

-- The lines of a stream of which so many bytes are passed over: one for each answer that a new receiver gives to the others, and those
-- of its end, if it ends.
pub record TellsStream (r : Reading) (passed : ℕ) (ends : Bool) (stream lines : List ℕ) : Type 0 where
  -- the answers
  pub answers : List (Answer Value)
  -- they are those of the stream, and no others
  pub given : HasGiven (held_by r) (read_by r) 65536 r.sentinel answers (drop passed stream)
  -- the lines before the end
  pub before_end : List ℕ
  -- they are one for each answer
  pub told : TellsEach r passed (drop passed stream) [] answers [] before_end
  -- the lines of the end are behind them
  pub at_end : TellsLast r ends passed (drop passed stream) before_end lines

-- The lines of a stream, as these terms say, for some table of types: that of the declarations.
pub record ReadsStream (terms : WireTerms) (stream lines : List ℕ) : Type 0 where
  -- as what messages are read
  pub reading : Reading
  -- by this sentinel
  pub sentinel : reading.sentinel ≡ terms.sentinel
  -- strictly or not
  pub strict : reading.strict ≡ is_set terms.strict
  -- with a checksum or not
  pub summed : reading.summed ≡ is_set terms.crc32
  -- bytes as hexadecimal digits or not
  pub hex : reading.hex ≡ is_set terms.hex
  -- with at most so many nested nodes, and the one of a checksum
  pub depth : reading.depth ≡ (if is_set terms.crc32 then 61 else 60)
  -- the lines
  pub lines_are : TellsStream reading (skipped_in (is_set terms.inside) terms.sentinel stream) (is_set terms.ends) stream lines

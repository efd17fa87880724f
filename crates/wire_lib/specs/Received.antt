-- The results of a stream, and their lines.
use Rattle.std.specs.Prelude.{◌≡◌, ℕ, ◌+◌, ◌-◌, ◌^◌, ◌<◌, Bool, true, false, min, List, [], ◌∷◌, ◌++◌, length, take, Option, Some, None}
use Rattle.std.specs.List.{AllZip, flat_map}
use Rattle.cobs.specs.InPlace.{stretch}
use Rattle.cobs.specs.Sentinel.{masked}
use Rattle.postcard_tree.specs.Tree.{Tree}
use Rattle.schema_table.specs.Schemas.{SchemaTakes, SchemaReads}
use Rattle.schema_table.specs.declared.value.Value.{Value}
use Rattle.link.specs.Stream.{begun, unfinished}
use Rattle.link.specs.Judged.{HoldsBy}
use Rattle.link.specs.Pushes.{finished, IsLeast}
use Rattle.link.specs.Receivers.{IsBehind}
use Rattle.link.specs.Decoding.{in_owner}
use Rattle.link.specs.Listening.{HasGiven}
use Rattle.link.specs.declared.receiver.Answer.{Answer}
use Rattle.link.specs.declared.receiver.Answer.TheVariants as answer
use Rattle.wire_lib.specs.declared.receive.Reading.{Reading}
use Rattle.wire_lib.specs.declared.receive.LinesOfFrames.{LinesOfFrames}
use Rattle.wire_lib.specs.Said.{IsLineOf}
use Rattle.wire_lib.specs.Summed.{TakesSummed, ReadsSummed}

-- the trees that a stretch can hold, ordinarily or strictly: those of the type, with no more nested nodes than allowed, that end in
-- their checksum if one is asked for
abbrev pub held_by : Reading → List ℕ → Tree → Type 0
held_by r = HoldsBy r.strict (TakesSummed r.summed (SchemaTakes r.depth r.schema.now.nodes.items r.place))

-- the values that they are read as
abbrev pub read_by : Reading → Tree → Value → Type 0
read_by r = ReadsSummed r.summed (SchemaReads r.depth r.schema.now.nodes.items r.place)

-- how frames are read
abbrev pub reading_of : LinesOfFrames → Reading
reading_of r = r.reading

-- how many more bytes are skipped
abbrev pub skip_of : LinesOfFrames → ℕ
skip_of r = r.skip

-- whether a result is a value
abbrev pub is_a_value : Answer Value → Bool
is_a_value (answer.Value v) = true
is_a_value _ = false

-- whether all of these are values
abbrev pub are_all_values : List (Answer Value) → Bool
are_all_values [] = true
are_all_values (answer.Value v ∷ answers) = are_all_values answers
are_all_values (_ ∷ answers) = false

-- whether all results so far were values, and none was lost
abbrev pub good_so_far : LinesOfFrames → Bool
good_so_far r = r.is_good

-- After `passed` bytes that are skipped the receiver got this stream.
pub record HasCome (r : LinesOfFrames) (passed : ℕ) (stream : List ℕ) : Type 0 where
  -- the receiver continues after the stream
  pub after : IsBehind in_owner 65536 r.reading.sentinel r.receiver stream
  -- how many bytes came, with those that are skipped
  pub came : r.at ≡ min (passed + length stream) (2 ^ 64 - 1)

-- After `passed` bytes that are skipped the receiver got this stream, and these are the results of the stream, whether or not one was
-- lost.
pub record HasGot (r : LinesOfFrames) (passed : ℕ) (stream : List ℕ)
    (answers : List (Answer Value)) : Type 0 where
  -- these are all results of the stream
  pub given : HasGiven (held_by r.reading) (read_by r.reading) 65536 r.reading.sentinel answers stream
  -- the receiver continues after it
  pub come : HasCome r passed stream

-- Memory ran out at the next result: these are the results of the stream, and the receiver got the bytes behind it up to the first
-- that brings another one, or all of them.
pub record HasStopped (r : LinesOfFrames) (passed : ℕ) (stream rest : List ℕ)
    (answers : List (Answer Value)) : Type 0 where
  -- these are all results of the stream
  pub given : HasGiven (held_by r.reading) (read_by r.reading) 65536 r.reading.sentinel answers stream
  -- how many of the bytes behind it came
  pub used : ℕ
  -- fewer of them bring no result: so at most one is lost
  pub least : IsLeast (held_by r.reading) 65536 r.reading.sentinel stream rest used
  -- the receiver continues after them
  pub come : HasCome r passed (stream ++ take used rest)
  -- it knows that one was lost
  pub lost : r.is_good ≡ false

-- the result as a list of one, or an empty list
abbrev pub as_list : Option (Answer Value) → List (Answer Value)
as_list None = []
as_list (Some a) = a ∷ []

-- the results that the end of such a stream adds
abbrev pub added_at_end : LinesOfFrames → List ℕ → List (Answer Value)
added_at_end r stream = as_list (finished (begun 65536 r.reading.sentinel stream))

-- The position of the first byte of the stretch that a prefix of a stream leaves unfinished. Positions are counted from 0, and
-- `passed` skipped bytes precede the prefix.
abbrev pub place_from : ℕ → ℕ → List ℕ → ℕ
place_from passed s front = passed + length front - length (unfinished s front)

-- The position after the last byte of the result's stretch: the end of the prefix. A stretch that is too long also has the byte that
-- is too many, and what came of it after that byte.
abbrev pub place_to : ℕ → ℕ → Answer Value → List ℕ → List ℕ → ℕ
place_to passed s answer.TooLong front (byte ∷ more) =
    passed + length front + 1 + length (stretch (masked s more))
place_to passed s _ front later = passed + length front

-- This is the line of a result, of the stretch that a prefix of a stream leaves unfinished, if these bytes came later. Its positions
-- are the stretch's while fewer than 2^64 bytes came.
pub record IsLineAt (r : Reading) (passed : ℕ) (front later : List ℕ) (a : Answer Value)
    (line : List ℕ) : Type 0 where
  -- the two positions in the line
  pub from : ℕ
  pub to : ℕ
  -- it is the line of the result with these
  pub is : IsLineOf r a from to line
  -- they are the stretch's
  pub places : passed + length (front ++ later) < 2 ^ 64
      → (from ≡ place_from passed r.sentinel front) × (to ≡ place_to passed r.sentinel a front later)

-- A result of a stream, the next after these earlier ones, and its line: the results of a prefix of the stream are the earlier ones,
-- and one more byte brings this one.
pub record IsSaid (r : Reading) (passed : ℕ) (stream : List ℕ) (earlier : List (Answer Value))
    (a : Answer Value) (line : List ℕ) : Type 0 where
  -- the prefix, the byte, and the rest of the stream
  pub front : List ℕ
  pub byte : ℕ
  pub more : List ℕ
  pub parts : stream ≡ front ++ (byte ∷ more)
  -- the results of the prefix
  pub before : HasGiven (held_by r) (read_by r) 65536 r.sentinel earlier front
  -- the results with the byte
  pub with_it : HasGiven (held_by r) (read_by r) 65536 r.sentinel (earlier ++ a ∷ []) (front ++ byte ∷ [])
  -- the line of the result
  pub line_is : IsLineAt r passed front (byte ∷ more) a line

-- results after earlier ones, in order, and a line for each
abbrev pub AreSaid : Reading → ℕ → List ℕ → List (Answer Value) → List (Answer Value)
    → List (List ℕ) → Type 0
AreSaid r passed stream earlier [] [] = Unit {0}
AreSaid r passed stream earlier (a ∷ more) (line ∷ lines) =
    IsSaid r passed stream earlier a line × AreSaid r passed stream (earlier ++ a ∷ []) more lines
AreSaid r passed stream earlier _ _ = ⊥

-- One line was appended for each of these results, in order, and nothing else.
pub record TellsEach (r : Reading) (passed : ℕ) (stream : List ℕ) (earlier more : List (Answer Value))
    (lines lines' : List ℕ) : Type 0 where
  -- the lines
  pub each : List (List ℕ)
  -- they are the lines of the results
  pub are : AreSaid r passed stream earlier more each
  -- they alone were appended
  pub appended : lines' ≡ lines ++ flat_map (λ line. line) each

-- One line was appended for each result that the end of a stream adds, and nothing else.
pub record TellsEnd (r : Reading) (passed : ℕ) (stream : List ℕ) (added : List (Answer Value))
    (lines lines' : List ℕ) : Type 0 where
  -- the lines
  pub each : List (List ℕ)
  -- they are the lines of the results
  pub are : AllZip (IsLineAt r passed stream []) added each
  -- they alone were appended
  pub appended : lines' ≡ lines ++ flat_map (λ line. line) each

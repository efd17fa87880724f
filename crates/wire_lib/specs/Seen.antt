-- What a viewer has seen of a stream: each result is counted once.
use Rattle.std.specs.Prelude.{◌≡◌, ◌==◌, ◌<◌, ◌≤◌, ℕ, ◌+◌, ◌-◌, ◌^◌, min, map, Bool, true, false, List, [], ◌∷◌, ◌++◌, length, take, slice_index_or, slice_set, String, string_bytes, if◌then◌else◌}
use Rattle.std.specs.Global.{Global}
use Rattle.schema_table.specs.declared.value.Value.{Value}
use Rattle.link.specs.Stream.{begun}
use Rattle.link.specs.Pushes.{finished, IsLeast}
use Rattle.link.specs.Receivers.{IsBehind}
use Rattle.link.specs.Decoding.{in_owner}
use Rattle.link.specs.Listening.{HasGiven}
use Rattle.link.specs.declared.receiver.Answer.{Answer}
use Rattle.link.specs.declared.receiver.Answer.TheVariants as answer
use Rattle.wire_lib.specs.Received.{held_by, read_by, as_list}
use Rattle.wire_lib.specs.declared.receive.Reading.{Reading}
use Rattle.wire_lib.specs.Kinds.{IsTextBeside, kind_in}
use Rattle.wire_lib.specs.Rates.{capped}
use Rattle.wire_lib.specs.Damages.{IsDamageWord, AreTextsOf}
use Rattle.wire_lib.specs.Fronts.{damage_said, kept_behind}
use Rattle.wire_lib.specs.Tables.{IsNoted, KeepsToo, last_of, row_names}
use Rattle.wire_lib.specs.declared.watching.table.Row.{Row}
use Rattle.wire_lib.specs.declared.watching.table.Table.{Table}
use Rattle.wire_lib.specs.declared.watching.viewer.Viewer.{Viewer}

-- how many of these results aren't messages
abbrev pub damages_among : List (Answer Value) → ℕ
damages_among [] = 0
damages_among (answer.Value v ∷ answers) = damages_among answers
damages_among (_ ∷ answers) = damages_among answers + 1

-- how many are messages of that kind
abbrev pub messages_among : ℕ → List (Answer Value) → ℕ
messages_among kind [] = 0
messages_among kind (answer.Value v ∷ answers) =
    messages_among kind answers + (if kind_in v == kind then 1 else 0)
messages_among kind (_ ∷ answers) = messages_among kind answers

-- each row has the number of the messages of its kind
abbrev pub HaveCounted : List Row → List (Answer Value) → Type 0
HaveCounted rows answers = (kind : ℕ) (row : Row) → kind < length rows
    → (slice_index_or rows kind row).count ≡ capped (messages_among kind answers)

-- A table has counted these results, each once.
pub record HasCounted (table : Table) (answers : List (Answer Value)) : Type 0 where
  -- those that aren't messages
  pub damaged : table.damaged ≡ capped (damages_among answers)
  -- the messages, each in the row of its kind
  pub rows : HaveCounted table.rows.items answers

-- whatever the table has counted before, it has counted this result too
abbrev pub CountsToo : Answer Value → Table → Table → Type 0
CountsToo a old new = (answers : List (Answer Value)) → HasCounted old answers
    → HasCounted new (answers ++ a ∷ [])

-- whatever the table has counted before, it has counted these results too
abbrev pub CountsThese : List (Answer Value) → Table → Table → Type 0
CountsThese more old new = (answers : List (Answer Value)) → HasCounted old answers
    → HasCounted new (answers ++ more)

-- a message as a result
abbrev pub as_answer : Value → Answer Value
as_answer v = answer.Value v

-- whatever the table has counted before, it has counted this message too
abbrev pub CountsMessage : Value → Table → Table → Type 0
CountsMessage v old new = CountsToo (as_answer v) old new

-- the text of a damage was kept: what it is, the position of its first byte, how many bytes it has, and the first of them
abbrev pub KeepsDamage : List ℕ → ℕ → ℕ → List ℕ → Table → Table → Type 0
KeepsDamage what from count bytes old new = (text : String Global)
    × (string_bytes text ≡ damage_said what from count bytes)
    × (new.damages.items ≡ last_of 3 (old.damages.items ++ text ∷ []))

-- the text of a result was kept if it isn't a message
abbrev pub KeepsText : Answer Value → ℕ → ℕ → List ℕ → Table → Table → Type 0
KeepsText (answer.Value v) from count bytes old new = new.damages ≡ old.damages
KeepsText a from count bytes old new = (what : List ℕ) × IsDamageWord a what × KeepsDamage what from count bytes old new

-- how frames are read
abbrev pub reading_of : Viewer → Reading
reading_of v = v.reading

-- the names of the kinds
abbrev pub names_of : Viewer → List (List ℕ)
names_of v = row_names v.table.rows.items

-- whether no result was lost
abbrev pub missed_none : Viewer → Bool
missed_none v = v.is_whole

-- The viewer's type, limits, receiver, position, partial frame, and whether a result was lost, are unchanged.
pub record StandsStill (old new : Viewer) : Type 0 where
  -- how frames are read
  pub reading : new.reading ≡ old.reading
  -- the receiver of the stream
  pub receiver : new.receiver ≡ old.receiver
  -- how many bytes came
  pub at : new.at ≡ old.at
  -- the first bytes of the partial frame
  pub front : new.front ≡ old.front
  -- whether a result was lost
  pub whole : new.is_whole ≡ old.is_whole

-- A message was noted in the row of its kind, as one that came in this window of time; nowhere if there is no such row.
pub record NotesMessage (r : Reading) (window : ℕ) (v : Value) (old new : List Row) : Type 0 where
  -- the text that stands beside its kind
  pub text : String Global
  pub beside : IsTextBeside r v (string_bytes text)
  -- its row has it too
  pub noted : kind_in v < length old → (before after : Row)
      × (before ≡ slice_index_or old (kind_in v) before) × IsNoted text window before after
      × (new ≡ slice_set old (kind_in v) after)
  -- no other row has
  pub none : length old ≤ kind_in v → new ≡ old

-- a result was noted if it is a message
abbrev pub NotesResult : Reading → ℕ → Answer Value → List Row → List Row → Type 0
NotesResult r window (answer.Value v) old new = NotesMessage r window v old new
NotesResult r window a old new = new ≡ old

-- the messages among results were noted, one after another
abbrev pub NotesEach : Reading → ℕ → List (Answer Value) → List Row → List Row → Type 0
NotesEach r window [] old new = new ≡ old
NotesEach r window (a ∷ more) old new =
    (mid : List Row) × NotesResult r window a old mid × NotesEach r window more mid new

-- What a table takes of results of a stream, the next after earlier ones, whatever it has taken before.
pub record TakesEach (r : Reading) (stream : List ℕ) (earlier more : List (Answer Value))
    (old new : Table) : Type 0 where
  -- each is counted once
  pub counted : CountsThese more old new
  -- the texts of the damages among them, with their positions and bytes
  pub texts : List (List ℕ)
  pub told : AreTextsOf r stream earlier more texts
  -- the last three of all are kept
  pub kept : KeepsToo texts old new

-- What a table has taken of a stream with these results, none of which was lost.
pub record TookAll (r : Reading) (table : Table) (stream : List ℕ)
    (answers : List (Answer Value)) : Type 0 where
  -- each is counted once
  pub counted : HasCounted table answers
  -- the texts of the damages, with their positions and bytes
  pub texts : List (List ℕ)
  pub told : AreTextsOf r stream [] answers texts
  -- the last three are kept
  pub last : map string_bytes table.damages.items ≡ last_of 3 texts

-- The viewer continues after this stream, whether or not one of its results was lost.
pub record StandsAfter (v : Viewer) (stream : List ℕ) : Type 0 where
  -- so does its receiver
  pub after : IsBehind in_owner 65536 v.reading.sentinel v.receiver stream
  -- how many bytes came
  pub came : v.at ≡ min (length stream) (2 ^ 64 - 1)
  -- the first bytes after the last sentinel
  pub behind : v.front.items ≡ kept_behind v.reading.sentinel [] stream
  -- its table keeps no more than three damages
  pub few : length v.table.damages.items ≤ 3

-- The viewer got this stream, and these are its results, whether or not one was lost.
pub record HasWatched (v : Viewer) (stream : List ℕ) (answers : List (Answer Value)) : Type 0 where
  -- these are all results of the stream
  pub given : HasGiven (held_by v.reading) (read_by v.reading) 65536 v.reading.sentinel answers stream
  -- the viewer continues after it
  pub stands : StandsAfter v stream

-- The viewer got this stream, these are its results, and none was lost.
pub record HasSeen (v : Viewer) (stream : List ℕ) (answers : List (Answer Value)) : Type 0 where
  -- the viewer continues after the stream with these results
  pub watched : HasWatched v stream answers
  -- its table has counted them, and keeps the last damages
  pub taken : TookAll v.reading v.table stream answers
  -- it knows that none was lost
  pub whole : v.is_whole ≡ true

-- Memory ran out at the next result: these are the results of the stream, whether or not one was lost, and the viewer got the bytes
-- behind it up to the first that brings another one, or all of them.
pub record HasMissed (v : Viewer) (stream rest : List ℕ) (answers : List (Answer Value)) : Type 0 where
  -- these are all results of the stream
  pub given : HasGiven (held_by v.reading) (read_by v.reading) 65536 v.reading.sentinel answers stream
  -- how many of the bytes behind it came
  pub used : ℕ
  -- fewer of them bring no result: so at most one is lost
  pub least : IsLeast (held_by v.reading) 65536 v.reading.sentinel stream rest used
  -- the viewer continues after them
  pub stands : StandsAfter v (stream ++ take used rest)

-- Memory ran out at the next result, and none was lost before: that one isn't counted.
pub record HasLost (v : Viewer) (stream rest : List ℕ) (answers : List (Answer Value)) : Type 0 where
  -- these are the results of the stream, and the viewer continues after the next one
  pub missed : HasMissed v stream rest answers
  -- its table has counted them, and keeps the last damages
  pub taken : TookAll v.reading v.table stream answers
  -- it knows that one was lost
  pub lost : v.is_whole ≡ false

-- the results that the end of such a stream adds
abbrev pub added_by_end : Viewer → List ℕ → List (Answer Value)
added_by_end v stream = as_list (finished (begun 65536 v.reading.sentinel stream))

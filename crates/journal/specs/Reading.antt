-- What is read of a log.
use Rattle.std.specs.Prelude.{◌≡◌, ℕ, ◌+◌, ◌-◌, ◌*◌, ◌<◌, ◌≤◌, Bool, true, List, [], ◌∷◌, ◌++◌, length, take, Option, Some, None, Result, Ok, Err}
use Rattle.cobs.specs.Frames.{Frame}
use Rattle.line_io.specs.Device.{LineState}
use Rattle.link.specs.Stream.{kept}
use Rattle.link.specs.Pushes.{IsBegun, Answered, IsStretchOf}
use Rattle.link.specs.Listening.{HasGiven}
use Rattle.link.specs.Judged.{Judging}
use Rattle.link.specs.declared.decoding.ArrayBuffer.{ArrayBuffer}
use Rattle.link.specs.Decoding.{in_array}
use Rattle.link.specs.Receivers.{IsBehind}
use Rattle.link.specs.declared.receiver.Answer.{Answer}
use Rattle.link.specs.declared.receiver.NoMemory.{NoMemory as OutOfMemory}
use Rattle.link.specs.declared.reception.Reception.{Reception}
use Rattle.journal.specs.declared.numbers.Count.{Count}
use Rattle.journal.specs.declared.reading.ReadError.{ReadError}
use Rattle.journal.specs.declared.reading.ReadError.TheVariants.{Fault, NoMemory, Halted}
use Rattle.journal.specs.declared.log.OpenError.{OpenError}
use Rattle.journal.specs.declared.log.OpenError.TheVariants.{Line, Sync, Read}
use Rattle.journal.specs.Records.{past_all}
use Rattle.journal.specs.Places.{Located, answers_in, IsLocatedIn, AreLocatedIn, Numbering, numbered_from, believed, numbered_behind, all_believed, numbered_after}

-- How a log is read: which stretches are records, how long a stretch may be, and which number the first record has.
pub record LogReading (V : Type 0) : Type 1 where
  -- which trees a stretch holds, and what a record is read from
  pub judging : Judging (ℕ × V)
  -- the most bytes of a stretch
  pub limit : ℕ
  -- the number of the first record of an empty log
  pub first : ℕ

-- a log that is read so
abbrev pub log_reading : {V : Type 0} → Judging (ℕ × V) → ℕ → ℕ → LogReading V
log_reading judging limit first = record { judging = judging; limit = limit; first = first }

-- A visitor before and after a reading, what it is that it was handed results, and when it may halt.
pub record Visited (S V : Type 0) : Type 1 where
  -- it was handed these results in turn: the visitor before, the results, the visitor after
  pub took : S → List (Answer (ℕ × V)) → S → Type 0
  -- it may halt
  pub halts : S → Type 0
  -- the visitor before the reading
  pub old : S
  -- the visitor after it
  pub new : S

-- a visitor before and after a reading, by what its type says of it
abbrev pub visited : {S V : Type 0} → (S → List (Answer (ℕ × V)) → S → Type 0) → (S → Type 0) → S → S → Visited S V
visited took halts old new = record { took = took; halts = halts; old = old; new = new }

-- These are the results of a log's bytes as they are handed on, by which trees a stretch holds: those that are given of the bytes,
-- but for records whose numbers are further ahead than the bytes before them can account for, which are damaged. The next number is
-- the one after the greatest of those that are handed on, and at least the first; and at most as far after it as there are bytes.
pub record IsRead {V : Type 0} (log : LogReading V) (answers : List (Answer (ℕ × V))) (next : ℕ) (bytes : List ℕ) : Type 0 where
  -- the results of the bytes with their positions
  pub located : List (Located V)
  -- they are all results of these bytes
  pub given : HasGiven log.judging.holds log.judging.reads log.limit 0 (answers_in located) bytes
  -- their positions are right
  pub places : AreLocatedIn log.judging.holds log.judging.reads log.limit bytes [] located
  -- the results handed on are these, each as it is believed
  pub handed_on : answers ≡ all_believed (numbered_from log.first) located
  -- the next number follows the greatest of them, and is at least the first
  pub next_is : next ≡ past_all log.first answers
  -- it exceeds the first by at most the number of bytes
  pub within : next ≤ log.first + length bytes

-- the same, with the numbers after these bytes
pub record IsReadTo {V : Type 0} (log : LogReading V) (answers : List (Answer (ℕ × V))) (c : Numbering) (bytes : List ℕ) : Type 0 where
  -- the results of the bytes with their positions
  pub located : List (Located V)
  -- they are all results of these bytes
  pub given : HasGiven log.judging.holds log.judging.reads log.limit 0 (answers_in located) bytes
  -- their positions are right
  pub places : AreLocatedIn log.judging.holds log.judging.reads log.limit bytes [] located
  -- the results handed on are these, each as it is believed
  pub handed_on : answers ≡ all_believed (numbered_from log.first) located
  -- the numbers afterwards
  pub numbers : c ≡ numbered_after (numbered_from log.first) located
  -- the next number exceeds the first by at most the bytes that count
  pub within : c.next ≤ log.first + c.through
  -- these are bytes of the log
  pub so_far : c.through ≤ length bytes

-- what is known of the numbers in a count
abbrev pub numbering_of : Count → Numbering
numbering_of count = record { next = count.next; through = count.through }

-- the same, a receiver stands after these bytes, and so many they are
pub record HearsLog {V : Type 0} {N : ℕ} (log : LogReading V) (receiver : Reception (ArrayBuffer N)) (answers : List (Answer (ℕ × V))) (count : Count) (stream : List ℕ) : Type 0 where
  -- the receiver was given these bytes
  pub after : IsBehind in_array N 0 receiver stream
  -- the results so far are those of these bytes
  pub read : IsReadTo log answers (numbering_of count) stream
  -- the count of bytes is right
  pub heard : count.heard ≡ length stream

-- the result of a push, if it has one, was handed on as it is believed, and the numbers after it are told
abbrev pub HandsOnBelieved : {S V : Type 0} → Visited S V → Result (Option (Answer (ℕ × V))) OutOfMemory → ℕ → ℕ → Numbering → Numbering → Type 0
HandsOnBelieved visit (Ok None) before through c later = visit.took visit.old [] visit.new × (later ≡ c)
HandsOnBelieved visit (Ok (Some a)) before through c later = visit.took visit.old (believed c before a ∷ []) visit.new × (later ≡ numbered_behind c through (believed c before a))
HandsOnBelieved visit (Err e) before through c later = ⊥

-- more results were handed on, and with those before them they are what a receiver that stands after these bytes has brought about
pub record HearsMore {S V : Type 0} {N : ℕ} (log : LogReading V) (visit : Visited S V) (receiver : Reception (ArrayBuffer N)) (answers : List (Answer (ℕ × V))) (count : Count) (stream : List ℕ) : Type 0 where
  -- the further results
  pub more : List (Answer (ℕ × V))
  -- they were handed on
  pub handed : visit.took visit.old more visit.new
  -- with the earlier ones they are those of all bytes so far
  pub hears : HearsLog log receiver (answers ++ more) count stream

-- What is read of these bytes of a log was handed on, and this is the number of the next record.
pub record IsHanded {S V : Type 0} (log : LogReading V) (visit : Visited S V) (next : ℕ) (bytes : List ℕ) : Type 0 where
  -- the results
  pub answers : List (Answer (ℕ × V))
  -- the visitor was handed them, in order
  pub handed : visit.took visit.old answers visit.new
  -- they are what is read of these bytes
  pub read : IsRead log answers next bytes

-- So many bytes of a log were read on between two states of its store: at least one by each call, but for so many of them, and at most
-- 1024.
pub record ReadByCalls (old new : LineState) (others count : ℕ) : Type 0 where
  -- each call but those gave a byte that was read on
  pub fewest : old.calls_left ≤ new.calls_left + (count + others)
  -- no call gave more than 1024
  pub most : count ≤ 1024 * (old.calls_left - new.calls_left)

-- After so many bytes of a log the next one is a zero, and it ends a frame within the limit.
pub record EndsFrame (limit count : ℕ) (bytes : List ℕ) : Type 0 where
  -- the bytes before the zero
  pub front : List ℕ
  -- those after it
  pub rest : List ℕ
  -- the log is these, with the zero between them
  pub bytes_are : bytes ≡ front ++ 0 ∷ rest
  -- so many are before it
  pub count_is : count ≡ length front
  -- the stretch that the zero ends
  pub stretch : List ℕ
  -- its message
  pub message : List ℕ
  -- it is within the limit
  pub begun : IsBegun limit 0 front (kept stretch)
  -- it is a frame
  pub frame : Frame stretch message

-- After so many bytes of a log the next one brings about one more result.
pub record BringsNext {V : Type 0} (judging : Judging (ℕ × V)) (limit : ℕ) (given : List (Answer (ℕ × V))) (count : ℕ) (bytes : List ℕ) : Type 0 where
  -- the result with its position
  pub next : Located V
  -- it comes after those that are given
  pub located : IsLocatedIn judging.holds judging.reads limit bytes given next
  -- that byte brings it about
  pub one_more : next.through ≡ count + 1

-- What the next byte of a log is when reading stopped before it: any, if the store failed; if memory ran out, the zero of a frame, whose
-- value could not be allocated; if the visitor halted, the one that brings about the result at which it did.
abbrev pub StopsBefore : {V : Type 0} → Judging (ℕ × V) → ℕ → List (Answer (ℕ × V)) → ℕ → List ℕ → ReadError → Type 0
StopsBefore judging limit given count bytes Fault = Unit {0}
StopsBefore judging limit given count bytes NoMemory = EndsFrame limit count bytes
StopsBefore judging limit given count bytes Halted = BringsNext judging limit given count bytes

-- the visitor when reading stopped: it was handed this much; or, if it halted, so was the visitor that did
abbrev pub HandedUntil : {S : Type 0} → (S → Type 0) → (S → Type 0) → S → ReadError → Type 0
HandedUntil {S} handed halts new Fault = handed new
HandedUntil {S} handed halts new NoMemory = handed new
HandedUntil {S} handed halts new Halted = (mid : S) × handed mid × halts mid

-- Reading a log stopped by this error, after so many of its bytes that these calls gave: what is read of exactly these was handed on.
pub record IsHandedTo {S V : Type 0} (log : LogReading V) (visit : Visited S V) (calls : ℕ → Type 0) (e : ReadError)
    (bytes : List ℕ) : Type 0 where
  -- how many bytes were read on
  pub count : ℕ
  -- they are bytes of the log
  pub within : count ≤ length bytes
  -- by these calls
  pub by : calls count
  -- the results
  pub answers : List (Answer (ℕ × V))
  -- the visitor, or the one that halted, was handed them in order, and no others
  pub handed : HandedUntil (visit.took visit.old answers) visit.halts visit.new e
  -- the numbers afterwards
  pub numbers : Numbering
  -- they are what is read of so many bytes
  pub read : IsReadTo log answers numbers (take count bytes)
  -- why no more was
  pub stops : StopsBefore log.judging log.limit (answers_in read.located) count bytes e

-- the visitor when opening failed: as it was, or as reading left it
abbrev pub OpenedUntil : {S : Type 0} → (ReadError → Type 0) → S → S → OpenError → Type 0
OpenedUntil {S} read old new Line = new ≡ old
OpenedUntil {S} read old new Sync = new ≡ old
OpenedUntil {S} read old new (Read e) = read e

-- A push has such a result if reading stopped by it: none that was allocated, or one at which the visitor halted.
abbrev pub StoppedAt : {A : Type 0} → ReadError → Result (Option A) OutOfMemory → Type 0
StoppedAt NoMemory (Err x) = Unit {0}
StoppedAt Halted (Ok (Some a)) = Unit {0}
StoppedAt e r = ⊥

-- Results of some of a chunk's bytes were handed on, and nothing else, since the next push had such a result.
pub record HearsPart {S V : Type 0} (log : LogReading V) (visit : Visited S V) (answers : List (Answer (ℕ × V))) (stream piece : List ℕ) (e : ReadError) : Type 0 where
  -- these bytes
  pub done : List ℕ
  -- the others
  pub rest : List ℕ
  -- together they are the chunk
  pub piece_is : piece ≡ done ++ rest
  -- a receiver that stands after them
  pub receiver : Reception (ArrayBuffer log.limit)
  -- the count then
  pub count : Count
  -- the further results
  pub more : List (Answer (ℕ × V))
  -- they were handed on
  pub handed : HandedUntil (visit.took visit.old more) visit.halts visit.new e
  -- with the earlier ones they are those of all bytes so far
  pub hears : HearsLog log receiver (answers ++ more) count (stream ++ done)
  -- how many bytes the next push took
  pub used : ℕ
  -- at least one
  pub some : 0 < used
  -- they are of the others
  pub within : used ≤ length rest
  -- its result
  pub result : Result (Option (Answer (ℕ × V))) OutOfMemory
  -- it is right
  pub answered : Answered log.judging.holds log.judging.reads log.limit 0 (stream ++ done) rest used result
  -- how many bytes of its stretch come before the last one that it took
  pub stretch : ℕ
  -- that is right
  pub stretch_is : IsStretchOf 0 (stream ++ done) rest used result stretch
  -- reading stopped by it
  pub stopped : StoppedAt e result

-- some results were handed on, or none
abbrev pub HasHanded : {S A : Type 0} → (S → List A → S → Type 0) → S → S → Type 0
HasHanded {S} {A} took old new = (answers : List A) × took old answers new

-- after some results that were handed on, the visitor is one that halts
abbrev pub HaltsBehind : {S A : Type 0} → (S → List A → S → Type 0) → (S → Type 0) → S → Type 0
HaltsBehind {S} {A} took halts old = (answers : List A) × (mid : S) × took old answers mid × halts mid

-- why reading a log stopped: the store failed, a value asked for memory, or the visitor halted
abbrev pub ReadCause : Type 0 → Bool → Type 0 → ReadError → Type 0
ReadCause failed growing halted Fault = failed
ReadCause failed growing halted NoMemory = growing ≡ true
ReadCause failed growing halted Halted = halted

-- why a log wasn't opened: the store failed, or it wasn't read to its end
abbrev pub OpenCause : Type 0 → Bool → Type 0 → OpenError → Type 0
OpenCause failed growing halted Line = failed
OpenCause failed growing halted Sync = failed
OpenCause failed growing halted (Read e) = ReadCause failed growing halted e

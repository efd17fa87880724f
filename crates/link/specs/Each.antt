-- What is handed on while a stream is read.
use Rattle.std.specs.Prelude.{◌≡◌, ℕ, ◌+◌, ◌-◌, ◌≤◌, ◌⊎◌, List, [], ◌++◌, length, Bool, true, false, Option, Some, None, Result, IsErr}
use Rattle.line_io.specs.Device.{LineState, Gave}
use Rattle.postcard_tree.specs.Tree.{Tree}
use Rattle.link.specs.Filled.{Filled}
use Rattle.link.specs.Receivers.{IsBehind}
use Rattle.link.specs.Judged.{Judging}
use Rattle.link.specs.Steps.{Event}
use Rattle.link.specs.Finds.{Replies}
use Rattle.line_io.specs.Transfers.{HasRead}
use Rattle.link.specs.Listening.{KeepsAnswer, HasGiven, EndsAtLoss, IsReceived, Hears, IsHeard}
use Rattle.link.specs.declared.reception.Reception.{Reception}
use Rattle.link.specs.declared.receiver.Answer.{Answer}
use Rattle.link.specs.declared.receiver.NoMemory.{NoMemory as NoAnswer}
use Rattle.line_io.specs.declared.transfers.End.{End}
use Rattle.line_io.specs.declared.transfers.End.TheVariants.{Ended, ReadFault, NoMemory}

-- What a hearer owes: no answers leave it as it is, and answers may be heard one after another.
pub record HearerLaws {H V : Type 0} (hears : H → List (Answer V) → H → Type 0) : Type 0 where
  -- no results leave it as it is
  pub none : (h : H) → hears h [] h
  -- two lists of results make of it what their concatenation makes
  pub more : (h k m : H) (a b : List (Answer V)) → hears h a k → hears k b m → hears h (a ++ b) m

-- a hearer of which nothing is said
abbrev pub HeardAnyhow : {H V : Type 0} → H → List (Answer V) → H → Type 0
HeardAnyhow old answers new = Unit {0}

pub heard_anyhow : {H V : Type 0} → HearerLaws {H = H} {V = V} HeardAnyhow
heard_anyhow = record { none = λ h. tt; more = λ h k m a b p q. tt }

-- These answers were handed on, and this is so of them.
pub record Handed {H V : Type 0} (hears : H → List (Answer V) → H → Type 0) (old new : H)
    (P : List (Answer V) → Type 0) : Type 0 where
  -- the results that were reported
  pub answers : List (Answer V)
  -- they made of the old hearer the new one
  pub heard : hears old answers new
  -- and this is so of them
  pub so : P answers

-- The answer to an event, where there is one, was handed on.
pub record HandsOn {V : Type 0} (holds : List ℕ → Tree → Type 0) (reads : Tree → V → Type 0)
    (e : Event) (answers : List (Answer V)) : Type 0 where
  -- the result of the event, if there is one
  pub reply : Result (Option (Answer V)) NoAnswer
  -- it is what the event gives
  pub replies : Replies holds reads e reply
  -- and it was reported, if there is one
  pub keeps : KeepsAnswer reply [] answers

-- An event has an answer that found no memory.
pub record Withholds {V : Type 0} (holds : List ℕ → Tree → Type 0)
    (reads : Tree → V → Type 0) (e : Event) : Type 0 where
  -- what the event gives
  pub reply : Result (Option (Answer V)) NoAnswer
  -- it is what the event gives
  pub replies : Replies holds reads e reply
  -- which is out of memory
  pub fails : IsErr reply

-- what reading gave so far: bytes, and there may be more; or how the reading ended
abbrev pub HasReadNow : LineState → LineState → Option End → List ℕ → Type 0
HasReadNow old new None bytes = Gave old new bytes × (new.faults ≡ old.faults)
HasReadNow old new (Some end) bytes = HasRead old new end bytes

-- the call that ended the reading, where one did
abbrev pub last_call : Option End → ℕ
last_call None = 0
last_call (Some end) = 1

-- at the reader's end, and at a fault, a read brings no bytes
abbrev pub BringsNone : Option End → List ℕ → Type 0
BringsNone None bytes = Unit {0}
BringsNone (Some Ended) bytes = bytes ≡ []
BringsNone (Some ReadFault) bytes = bytes ≡ []
BringsNone (Some NoMemory) bytes = Unit {0}

-- The last read of some bytes: one call of the reader, which brought these, no more than the buffer holds.
pub record LastRead (room : ℕ) (line later : LineState) (end : Option End) (before last : List ℕ) : Type 0 where
  -- where the reader was before that call
  pub then : LineState
  -- the reads before it brought the bytes before
  pub gave : Gave line then before
  -- none of them was a fault
  pub quiet : then.faults ≡ line.faults
  -- it brought the last bytes
  pub brought : Gave then later last
  -- it is one call
  pub once : later.calls_left ≡ then.calls_left - 1
  -- it brought no more than the buffer holds
  pub short : length last ≤ room
  -- and nothing at the reader's end, or at a fault
  pub none : BringsNone end last

-- The reader gave bytes, and no more calls of it were used than these are, and the last one. (Of one that tells nothing these are any
-- bytes: there it says nothing.)
pub record UsesFew (old new : LineState) (last : ℕ) : Type 0 where
  -- the bytes that the reads brought
  pub bytes : List ℕ
  -- the reader gave them
  pub gave : Gave old new bytes
  -- no more calls than bytes, and the last one
  pub few : old.calls_left ≤ new.calls_left + length bytes + last

-- A receiver was given this stream, and these were its answers; or it had no memory for values, and went on behind them or not.
abbrev pub IsHeardNow : {D V : Type 0} → (D → Filled) → (List ℕ → Tree → Type 0)
    → (Tree → V → Type 0) → ℕ → ℕ → Bool → Option End → Reception D → List (Answer V) → List ℕ → Type 0
IsHeardNow inside holds reads limit s on None r answers stream =
    Hears inside holds reads limit s r answers stream
IsHeardNow inside holds reads limit s on (Some end) r answers stream =
    IsHeard inside holds reads limit s on end r answers stream

-- what the answers are, by how the reading of the stream ended, or whether there may be more
abbrev pub IsReceivedNow : {V : Type 0} → (List ℕ → Tree → Type 0) → (Tree → V → Type 0) → ℕ → ℕ
    → Option End → List (Answer V) → List ℕ → Type 0
IsReceivedNow holds reads limit s None answers stream = HasGiven holds reads limit s answers stream
IsReceivedNow holds reads limit s (Some end) answers stream =
    IsReceived holds reads limit s end answers stream

-- memory may be wanting only where values can ask for it
abbrev pub MayLackMemory : Bool → Option End → Type 0
MayLackMemory grows None = Unit {0}
MayLackMemory grows (Some Ended) = Unit {0}
MayLackMemory grows (Some ReadFault) = Unit {0}
MayLackMemory grows (Some NoMemory) = grows ≡ true

module _ {D H V : Type 0} (inside : D → Filled) (judging : Judging V)
    (hears : H → List (Answer V) → H → Type 0) where
  -- What was handed on are the answers that these bytes add to whatever the receiver had heard.
  abbrev pub Adds : List ℕ → Reception D → Reception D → H → H → Type 0
  Adds bytes r s h k = Handed hears h k (λ more. (limit z : ℕ) (stream : List ℕ)
      (given : List (Answer V)) → Hears inside judging.holds judging.reads limit z r given stream
      → Hears inside judging.holds judging.reads limit z s (given ++ more) (stream ++ bytes))

  -- the same, however the reading ended: where values had no memory, it went on behind them or not
  abbrev pub AddsBy : Bool → List ℕ → Reception D → Reception D → H → H → Option End → Type 0
  AddsBy on bytes r s h k end = Handed hears h k (λ more. (limit z : ℕ) (stream : List ℕ)
      (given : List (Answer V)) → Hears inside judging.holds judging.reads limit z r given stream
      → IsHeardNow inside judging.holds judging.reads limit z on end s (given ++ more)
      (stream ++ bytes))

  -- The reader gave bytes, by no more calls than these are and the last one; what was handed on are the answers that they add.
  pub record ListensBy (on : Bool) (line later : LineState) (r s : Reception D) (h k : H)
      (end : Option End) : Type 0 where
    -- the bytes that the reads brought
    pub bytes : List ℕ
    -- the reader gave them, and the reading ended as was returned
    pub read : HasReadNow line later end bytes
    -- no more calls than bytes, and the one that ended the reading
    pub few : line.calls_left ≤ later.calls_left + length bytes + last_call end
    -- what was handed on are the answers that these bytes add to all that the receiver was given before
    pub adds : AddsBy on bytes r s h k end

  -- the same where listening goes on behind a value that had no memory
  abbrev pub Listens : LineState → LineState → Reception D → Reception D → H → H → Option End
      → Type 0
  Listens line later r s h k end = ListensBy true line later r s h k end

  -- A hearer was asked before the last read, of at most so many bytes: it hadn't had enough, and what it had been handed are the
  -- answers that the bytes before that read add.
  pub record WasAsked (enough : H → Bool) (settled : H → Type 0) (room : ℕ) (line now : LineState) (end : Option End)
      (r : Reception D) (h k : H) (answers : List (Answer V)) (bytes : List ℕ) : Type 0 where
    -- the bytes of all reads but the last
    pub before : List ℕ
    -- the bytes of the last read
    pub last : List ℕ
    -- these are all bytes
    pub parts : bytes ≡ before ++ last
    -- the last read is one call
    pub read : LastRead room line now end before last
    -- the results that were reported before the last read
    pub early : List (Answer V)
    -- the results that were reported after it
    pub later : List (Answer V)
    -- these are all results
    pub said : answers ≡ early ++ later
    -- the hearer when it was asked
    pub asked : H
    -- it had the early results
    pub heard : hears h early asked
    -- it hadn't had enough
    pub wants : enough asked ≡ false
    -- and had nothing left to flush, if it had nothing at first
    pub settles : settled h → settled asked
    -- and the later results made of it what it is now
    pub hears_on : hears asked later k
    -- the early answers are those that the bytes before the last read add to all that the receiver was given before
    pub given : (limit z : ℕ) (stream : List ℕ) (given : List (Answer V))
        → Hears inside judging.holds judging.reads limit z r given stream
        → HasGiven judging.holds judging.reads limit z (given ++ early) (stream ++ before)

  -- so of each read: there was none, or it was asked before the last
  abbrev pub IsAsked : (H → Bool) → (H → Type 0) → ℕ → LineState → LineState → Option End
      → Reception D → H → H → List (Answer V) → List ℕ → Type 0
  IsAsked enough settled room line now end r h k answers bytes =
      ((end ≡ None) × (now ≡ line) × (bytes ≡ []) × (k ≡ h))
      ⊎ WasAsked enough settled room line now end r h k answers bytes

  -- The same to the reader's end: behind whatever the receiver had heard, what was handed on are the answers that the bytes add, with
  -- what the end adds; or those to what stands before a value that had no memory. The hearer was asked before each read of 1024 bytes.
  pub record HearsOut (enough : H → Bool) (settled : H → Type 0) (line later : LineState)
      (r s : Reception D) (h k : H) (end : Option End) : Type 0 where
    -- the bytes that the reads brought
    pub bytes : List ℕ
    -- the reader gave them, and the reading ended as was returned
    pub read : HasReadNow line later end bytes
    -- no more calls than bytes, and the one that ended the reading
    pub few : line.calls_left ≤ later.calls_left + length bytes + last_call end
    -- What was handed on, whatever stream the receiver was given before and with whatever answers: together they are what is received of
    -- the stream with these bytes; the receiver is behind all of it; and out of memory they are those before the first value that found none.
    pub hands : Handed hears h k (λ more. (limit z : ℕ) (stream : List ℕ) (given : List (Answer V))
        → Hears inside judging.holds judging.reads limit z r given stream
        → IsReceivedNow judging.holds judging.reads limit z end (given ++ more) (stream ++ bytes)
        × IsBehind inside limit z s (stream ++ bytes)
        × (end ≡ Some NoMemory
        → EndsAtLoss judging.holds judging.reads limit z (given ++ more) (stream ++ bytes)))
    -- the hearer was asked before each read
    pub asked : IsAsked enough settled 1024 line later end r h k hands.answers bytes

-- How contracts know a hearer: what answers make of it, whether it has had enough, and that it puts nothing off.
pub record Hearing (H V : Type 0) : Type 1 where
  -- what results make of it
  pub hears : H → List (Answer V) → H → Type 0
  -- whether it has had enough
  pub enough : H → Bool
  -- that nothing is left to flush
  pub settled : H → Type 0

-- these three of a hearer
abbrev pub hearing : {H V : Type 0} → (H → List (Answer V) → H → Type 0) → (H → Bool)
    → (H → Type 0) → Hearing H V
hearing hears enough settled = record { hears = hears; enough = enough; settled = settled }

-- where listening is: where the reader is, the receiver, and the hearer
pub record ListenerPlace (D H : Type 0) : Type 0 where
  -- where the reader is
  pub line : LineState
  -- the receiver
  pub receiver : Reception D
  -- the hearer
  pub hearer : H

-- where these are, by where the readers are
abbrev pub listener_place : {R D H : Type 0} → (R → LineState) → R → Reception D → H
    → ListenerPlace D H
listener_place line reader receiver hearer =
    record { line = line reader; receiver = receiver; hearer = hearer }

-- Between these places the reader gave bytes, until the listening ended so, and what was handed on are the answers that they add.
abbrev pub ListensTo : {D H V : Type 0} → (D → Filled) → Judging V
    → (H → List (Answer V) → H → Type 0) → ListenerPlace D H → ListenerPlace D H → Option End → Type 0
ListensTo inside judging hears before after end = Listens inside judging hears
    before.line after.line before.receiver after.receiver before.hearer after.hearer end

-- The same by one read into a buffer of so many bytes: one call, which brings nothing at the reader's end or at a fault.
abbrev pub ListensOnce : {D H V : Type 0} → (D → Filled) → Judging V
    → (H → List (Answer V) → H → Type 0) → ℕ → ListenerPlace D H → ListenerPlace D H → Option End → Type 0
ListensOnce inside judging hears room before after end =
    (l : ListensTo inside judging hears before after end)
    × (length l.bytes ≤ room) × BringsNone end l.bytes

-- The same read by read, into a buffer of so many bytes; the hearer was asked before each.
abbrev pub ListensUntil : {D H V : Type 0} → (D → Filled) → Judging V → Hearing H V → ℕ
    → ListenerPlace D H → ListenerPlace D H → Option End → Type 0
ListensUntil inside judging h room before after end =
    (l : ListensTo inside judging h.hears before after end)
    × IsAsked inside judging h.hears h.enough h.settled room before.line after.line end
    before.receiver before.hearer after.hearer l.adds.answers l.bytes

-- The same to the reader's end, or until the hearer had enough, with what the end adds.
abbrev pub ListensOut : {D H V : Type 0} → (D → Filled) → Judging V → Hearing H V
    → ListenerPlace D H → ListenerPlace D H → Option End → Type 0
ListensOut inside judging h before after end = HearsOut inside judging h.hears h.enough h.settled
    before.line after.line before.receiver after.receiver before.hearer after.hearer end

-- what a reader gave, however the reading ended
pub gave_now : (line later : LineState) (end : Option End) (bytes : List ℕ)
    → HasReadNow line later end bytes → Gave line later bytes
gave_now line later None bytes h = h.0
gave_now line later (Some Ended) bytes h = h.0
gave_now line later (Some ReadFault) bytes h = h.0
gave_now line later (Some NoMemory) bytes h = h.0

-- few calls of a reader were used, however the reading ended
pub uses_few : (line later : LineState) (end : Option End) (bytes : List ℕ)
    → HasReadNow line later end bytes
    → line.calls_left ≤ later.calls_left + length bytes + last_call end
    → UsesFew line later (last_call end)
uses_few line later end bytes h f = record { bytes = bytes; gave = gave_now line later end bytes h; few = f }

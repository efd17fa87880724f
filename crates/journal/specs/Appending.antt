-- What appending and opening do.
use Rattle.std.specs.Prelude.{◌≡◌, ℕ, ◌+◌, ◌-◌, ◌^◌, ◌<◌, ◌≤◌, Bool, true, false, List, [], ◌∷◌, length, Option, Some, IfSome, Result, Ok, Err}
use Rattle.cobs.specs.Frames.{shortest_frame}
use Rattle.line_io.specs.Device.{LineState, Wrote}
use Rattle.postcard_tree.specs.Tree.{Tree, IsTree}
use Rattle.postcard_tree.specs.declared.error.Error.TheVariants.{SerializeBufferFull}
use Rattle.postcard.specs.Written.{UnlessRefused}
use Rattle.link.specs.Run.{Send, completed, refused, broken, written, IsSend}
use Rattle.journal.specs.Store.{Settles}
use Rattle.journal.specs.Records.{numbered, record_of}
use Rattle.journal.specs.Reading.{LogReading, Visited, IsHanded}
use Rattle.journal.specs.declared.log.AppendError.{AppendError}
use Rattle.journal.specs.declared.log.AppendError.TheVariants.{Refused, Line, Spent, Full}
use Rattle.journal.specs.declared.log.OpenError.{OpenError}
use Rattle.journal.specs.declared.log.OpenError.TheVariants.{Line as NoZero, Sync, Read}

-- what an append did, as a send of a clean sender on the log's line, by its result: the record with this number went out whole, or
-- a beginning of its bytes did, or it was refused
abbrev pub IsAppend : ℕ → Bool → ℕ → Option Tree → Result ℕ AppendError → Send → Type 0
IsAppend limit spent n writes (Ok m) x = (m ≡ n) × ((v : Tree) × (writes ≡ Some v) × (x ≡ completed (numbered n v)))
IsAppend limit spent n writes (Err Line) x = (v : Tree) × (k : ℕ) × (writes ≡ Some v) × (x ≡ broken (numbered n v) k)
IsAppend limit spent n writes (Err (Refused e)) x = (x ≡ refused) × UnlessRefused (record_of n writes) (λ bytes. (e ≡ SerializeBufferFull) × (limit < length (shortest_frame bytes)))
IsAppend limit spent n writes (Err Spent) x = (x ≡ refused) × (spent ≡ true)
IsAppend limit spent n writes (Err Full) x = (x ≡ refused) × (n ≡ 2 ^ 64 - 1)

-- the number after an append, and whether the journal is spent then
abbrev pub next_after : ℕ → Result ℕ AppendError → ℕ
next_after n (Ok m) = n + 1
next_after n (Err e) = n

-- it is spent from the first append on that failed by the line
abbrev pub spent_after : Bool → Result ℕ AppendError → Bool
spent_after spent (Err Line) = true
spent_after spent r = spent

-- where a log stands: its line, how many of the line's bytes no crash takes, the number of the next
-- record, and whether an append or a sync failed
pub record LogPlace : Type 0 where
  -- the state of its store's line
  pub line : LineState
  -- how many of the line's bytes survive any crash
  pub settled : ℕ
  -- the number of the next record
  pub next : ℕ
  -- whether an append or a sync failed
  pub spent : Bool

-- An append of this value to a log that stood at the first place and stands at the second.
pub record Appended (limit : ℕ) (writes : Option Tree) (r : Result ℕ AppendError)
    (old new : LogPlace) : Type 0 where
  -- the append as a send
  pub send : Send
  -- it is one of a clean sender
  pub is_send : IsSend IsTree limit 0 true send
  -- which one, by the result
  pub is : IsAppend limit old.spent old.next writes r send
  -- the store has grown by exactly its bytes
  pub wrote : Wrote old.line new.line (written 0 true send)

-- a fact if the store failed to take bytes
abbrev pub OnStore : Result ℕ AppendError → Type 0 → Type 0
OnStore (Err Line) P = P
OnStore _ P = Unit {0}

-- a fact unless it is refused because the journal is spent
abbrev pub UnlessSpent : Result ℕ AppendError → Type 0 → Type 0
UnlessSpent (Ok m) P = P
UnlessSpent (Err Line) P = P
UnlessSpent (Err (Refused e)) P = P
UnlessSpent (Err Spent) P = Unit {0}
UnlessSpent (Err Full) P = P

-- a fact if there was a number for the record
abbrev pub OnNumbered : Result ℕ AppendError → Type 0 → Type 0
OnNumbered (Ok m) P = P
OnNumbered (Err Line) P = P
OnNumbered (Err (Refused e)) P = P
OnNumbered (Err Spent) P = Unit {0}
OnNumbered (Err Full) P = Unit {0}

-- a fact if nothing was tried
abbrev pub Unless : Result ℕ AppendError → Type 0 → Type 0
Unless (Ok m) P = Unit {0}
Unless (Err Line) P = Unit {0}
Unless (Err (Refused e)) P = P
Unless (Err Spent) P = P
Unless (Err Full) P = P

-- a fact if bytes were handed to the store
abbrev pub OnTried : Result ℕ AppendError → Type 0 → Type 0
OnTried (Ok m) P = P
OnTried (Err Line) P = P
OnTried (Err (Refused e)) P = Unit {0}
OnTried (Err Spent) P = Unit {0}
OnTried (Err Full) P = Unit {0}

-- what a log that wasn't opened got: nothing, or the zero
abbrev pub put_before : OpenError → List ℕ
put_before NoZero = []
put_before Sync = 0 ∷ []
put_before (Read e) = 0 ∷ []

-- a fact if it was read, though not to its end
abbrev pub OnRead : OpenError → Type 0 → Type 0
OnRead NoZero P = Unit {0}
OnRead Sync P = Unit {0}
OnRead (Read e) P = P

-- A log was opened: a zero was put after what the store held; all of that survives any crash; and what is read of it was handed on.
pub record IsOpened {S V : Type 0} (reading : LogReading V) (visit : Visited S V)
    (old : LineState) (log : LogPlace) : Type 0 where
  -- the store has grown by exactly a zero
  pub wrote : Wrote old log.line (0 ∷ [])
  -- no call of the store was a fault
  pub quiet : log.line.faults ≡ old.faults
  -- all that it holds survives any crash
  pub settles : Settles log.line.told log.settled
  -- the visitor was handed what is read of it, and the next number follows from that
  pub read : IfSome log.line.told (λ bytes. IsHanded reading visit log.next bytes)
  -- the store was called at most once a byte, and three times more
  pub few : IfSome log.line.told
      (λ bytes. old.calls_left ≤ log.line.calls_left + (length bytes + 3))
  -- the journal isn't spent
  pub ready : log.spent ≡ false

-- What appending a line does to a log and to the group of its records.
use Rattle.std.specs.Prelude.{◌≡◌, ℕ, ◌+◌, ◌<◌, ◌≤◌, Bool, true, if◌then◌else◌, List, [], ◌∷◌, ◌++◌, length}
use Rattle.line_io.specs.Device.{LineState, Wrote}
use Rattle.link.specs.Run.{sent}
use Rattle.journal.specs.Records.{numbered}
use Rattle.journal.specs.Store.{Settles}
use Rattle.postcard_tree.specs.Tree.{Tree}
use Rattle.journal.specs.Appending.{LogPlace}
use Rattle.records.specs.Settling.{first_of, behind_of, HasGrown}
use Rattle.records.specs.declared.settling.Group.{Group}
use Rattle.records.specs.declared.appending.Next.{Next}
use Rattle.records.specs.declared.appending.Next.TheVariants.{Appended, LeftOut, Ended, Failed}

-- The records that were appended to a log since its line stood at `start` are those of the group, of these values; and after them the
-- bytes `rest`, if appending one more failed.
pub record HoldsGroup (start : LineState) (values : List Tree) (rest : List ℕ) (group : Group) (log : LogPlace) : Type 0 where
  -- exactly these bytes were written
  pub grown : HasGrown start log.line (first_of group) (behind_of group) values rest
  -- the log goes on after the last of them
  pub next_is : log.next ≡ behind_of group

-- one record more is appended
abbrev pub AppendsRecord : Group → LogPlace → Group → LogPlace → Type 0
AppendsRecord old at new later = (start : LineState) (values : List Tree) → HoldsGroup start values [] old at
    → (value : Tree) × HoldsGroup start (values ++ value ∷ []) [] new later

-- none is: the group is as it was, and at most a part of a record comes after its records
abbrev pub AppendsNone : Group → LogPlace → Group → LogPlace → Type 0
AppendsNone old at new later = (new ≡ old) × ((start : LineState) (values : List Tree) → HoldsGroup start values [] old at
    → (rest : List ℕ) × HoldsGroup start values rest new later)

-- From one place to another a log has grown by one whole record, which has its next number.
pub record HasOneMore (old new : LogPlace) : Type 0 where
  -- the record's value
  pub value : Tree
  -- the store has grown by exactly its bytes
  pub wrote : Wrote old.line new.line (sent 0 true (numbered old.next value))
  -- the next number follows it
  pub next_is : new.next ≡ old.next + 1

-- While the lines of the input were counted from one number to another, those that were appended became records of a log, and the status
-- says whether these are all lines.
pub record AreAppended (old new : LogPlace) (before after status : ℕ) : Type 0 where
  -- the values of the appended lines, in order
  pub values : List Tree
  -- the store has grown by exactly their records, with the log's next numbers
  pub grown : HasGrown old.line new.line old.next new.next values []
  -- at 0 each line was appended
  pub all : status ≡ 0 → before + length values ≡ after
  -- at 1 at least one was left out
  pub fewer : status ≡ 1 → before + length values < after

-- the group ends with the log's last record
abbrev pub IsGroupAt : Group → LogPlace → Type 0
IsGroupAt group log = (first_of group ≤ behind_of group) × (behind_of group ≡ log.next)

-- all that the log's store holds survives any crash, unless the group has records
abbrev pub IsSafeWithout : Group → LogPlace → Type 0
IsSafeWithout group log = first_of group ≡ behind_of group → Settles log.line.told log.settled

-- the status at the end of the input, by whether a line was left out
abbrev pub left_out_status : Bool → ℕ
left_out_status left_out = if left_out then 1 else 0

-- a fact if a line was appended
abbrev pub OnAppended : Next → Type 0 → Type 0
OnAppended Appended P = P
OnAppended _ P = Unit {0}

-- a fact if it was left out, or there was none
abbrev pub OnLeftOut : Next → Type 0 → Type 0
OnLeftOut LeftOut P = P
OnLeftOut Ended P = P
OnLeftOut _ P = Unit {0}

-- a fact of the status if appending stops by it
abbrev pub IfStops : Next → (ℕ → Type 0) → Type 0
IfStops (Failed status) P = P status
IfStops _ P = Unit {0}

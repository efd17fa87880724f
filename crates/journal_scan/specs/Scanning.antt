-- Where a scan of a log stands, and what it finds.
use Rattle.std.specs.Prelude.{◌≡◌, ℕ, ◌+◌, ◌<◌, ◌≤◌, nat_lt, Bool, List, [], ◌∷◌, ◌++◌, length, take, drop, Option, Some, None, Result, Ok, Err}
use Rattle.cobs.specs.Frames.{NoZero, Frame}
use Rattle.link.specs.declared.decoding.OwnedBuffer.{OwnedBuffer}
use Rattle.postcard_tree.specs.Tree.{Tree}
use Rattle.postcard_tree.specs.ReadingLaws.{WireForm}
use Rattle.link.specs.Stream.{Verdict, ended, unfinished, IsAnswer, HoldsExactly}
use Rattle.link.specs.Laws.{EndsBetween}
use Rattle.link.specs.Pushes.{Matches}
use Rattle.link.specs.Decoding.{in_owner}
use Rattle.link.specs.Receivers.{IsBehind}
use Rattle.link.specs.declared.reception.Reception.{Reception}
use Rattle.link.specs.declared.receiver.Answer.{Answer}
use Rattle.link.specs.declared.receiver.Answer.TheVariants.{TooLong, Cut}
use Rattle.journal.specs.Records.{takes_record, reads_record}
use Rattle.journal_scan.specs.declared.scanning.Scan.{Scan}
use Rattle.journal_scan.specs.declared.scanning.ScanError.{ScanError}
use Rattle.journal_scan.specs.declared.scanning.Stretch.{Stretch}

-- These bytes of a log are this stretch, from..to; it stands after a zero or at the front, a zero stands after it, and its result is
-- right, strictly.
pub record IsStretchAt {V : Type 0} (form : WireForm V) (limit : ℕ) (bytes stretch : List ℕ) (s : Stretch V) : Type 0 where
  -- the bytes before the stretch
  pub front : List ℕ
  -- the bytes after its zero
  pub rest : List ℕ
  -- the log is these, with the stretch and its zero between
  pub bytes_are : bytes ≡ front ++ (stretch ++ (0 ∷ rest))
  -- where the stretch begins
  pub from_is : length front ≡ s.from
  -- where it ends
  pub to_is : s.from + length stretch ≡ s.to
  -- a zero precedes it, or the start of the log
  pub between : EndsBetween 0 front
  -- no byte of it is a zero
  pub nonzero : NoZero stretch
  -- it isn't empty
  pub some : 0 < length stretch
  -- its result as a tree
  pub verdict : Verdict
  -- the result is read from that tree
  pub says : Matches (reads_record form.reads) s.answer verdict
  -- that is the result of the stretch
  pub is : IsAnswer (HoldsExactly (takes_record form.takes)) limit stretch verdict

-- Between an offset and a later one the stretches that end are this one alone.
pub record IsNextStretch {V : Type 0} (form : WireForm V) (limit : ℕ) (bytes : List ℕ) (old new : ℕ) (s : Stretch V) : Type 0 where
  -- its bytes
  pub stretch : List ℕ
  -- they are this stretch of the log
  pub is : IsStretchAt form limit bytes stretch s
  -- the scan is after its zero
  pub behind : new ≡ s.to + 1
  -- no other stretch ends between the two positions
  pub next : ended 0 (take new bytes) ≡ ended 0 (take old bytes) ++ (stretch ∷ [])

-- Between an offset and a later one exactly one stretch ends, of which a value may be lost: it is a frame within the limit, and the
-- later offset follows its zero.
pub record IsLostStretch (limit : ℕ) (bytes : List ℕ) (old new : ℕ) : Type 0 where
  -- its bytes
  pub stretch : List ℕ
  -- the bytes before it
  pub front : List ℕ
  -- a zero precedes it, or the start of the log
  pub between : EndsBetween 0 front
  -- before the later offset the log is these, the stretch, and its zero
  pub bytes_are : take new bytes ≡ front ++ (stretch ++ 0 ∷ [])
  -- the message in it
  pub message : List ℕ
  -- it is the frame of that
  pub frame : Frame stretch message
  -- it is within the limit
  pub fits : length stretch ≤ limit
  -- no other stretch ends between the two positions
  pub next : ended 0 (take new bytes) ≡ ended 0 (take old bytes) ++ (stretch ∷ [])

-- Where a scan stands in a log's bytes: what it read last is what stands at its offset; its receiver stands after the bytes before;
-- and the unfinished stretch of these begins at `from`.
pub record ScanStands (limit : ℕ) (receiver : Reception OwnedBuffer) (at from : ℕ) (past : Bool) (unread bytes : List ℕ) : Type 0 where
  -- the offset is in the log
  pub within : at ≤ length bytes
  -- what wasn't read yet
  pub rest : List ℕ
  -- what was read last is at the offset
  pub unread_is : drop at bytes ≡ unread ++ rest
  -- where the unfinished stretch begins
  pub from_is : from + length (unfinished 0 (take at bytes)) ≡ at
  -- the receiver was given the bytes before the offset
  pub behind : IsBehind in_owner limit 0 receiver (take at bytes)
  -- whether the unfinished stretch is longer than the limit
  pub past_is : past ≡ nat_lt limit (length (unfinished 0 (take at bytes)))

-- a scan of these bytes, with stretches of at most so many
abbrev pub IsScanning : ℕ → List ℕ → Scan → Type 0
IsScanning limit bytes scan = ScanStands limit scan.receiver scan.at scan.from scan.past (drop scan.start (take scan.end scan.room.items)) bytes

-- the offset of a scan's next byte
abbrev pub offset_of : Scan → ℕ
offset_of scan = scan.at

-- what a scan found between two offsets, strictly: no stretch ends there, or this one does
abbrev pub Found : {V : Type 0} → WireForm V → ℕ → List ℕ → ℕ → ℕ → Option (Stretch V) → Type 0
Found form limit bytes old new None = ended 0 (take new bytes) ≡ ended 0 (take old bytes)
Found form limit bytes old new (Some s) = IsNextStretch form limit bytes old new s

-- what a scan found of these bytes; at an error it passed exactly one stretch, whose value was lost
abbrev pub Goes : {V : Type 0} → WireForm V → ℕ → List ℕ → Scan → Scan → Result (Option (Stretch V)) ScanError → Type 0
Goes form limit bytes old new (Ok o) = IsScanning limit bytes new × Found form limit bytes old.at new.at o
Goes form limit bytes old new (Err e) = IsScanning limit bytes new × IsLostStretch limit bytes old.at new.at

-- what is next in a log: a stretch; or no further stretch ends in it, and the scan is after its last byte
abbrev pub FoundAll : {V : Type 0} → WireForm V → ℕ → List ℕ → ℕ → ℕ → Option (Stretch V) → Type 0
FoundAll form limit bytes old new None = (new ≡ length bytes) × (ended 0 bytes ≡ ended 0 (take old bytes))
FoundAll form limit bytes old new (Some s) = Found form limit bytes old new (Some s)

-- a log with a zero after it, as opening it puts one there
abbrev pub with_zero : List ℕ → List ℕ
with_zero bytes = bytes ++ 0 ∷ []

-- the same of bytes that may not be told
abbrev pub told_with_zero : Option (List ℕ) → Option (List ℕ)
told_with_zero None = None
told_with_zero (Some bytes) = Some (with_zero bytes)

-- what a zero after a log ends: a stretch, or nothing
abbrev pub FoundLast : {V : Type 0} → WireForm V → ℕ → List ℕ → Option (Stretch V) → Type 0
FoundLast form limit bytes o = Found form limit (with_zero bytes) (length bytes) (length bytes + 1) o

-- after so many bytes of a log the next stretch is one whose value was lost
abbrev pub LosesNext : ℕ → List ℕ → ℕ → Type 0
LosesNext limit bytes at = (later : ℕ) × IsLostStretch limit bytes at later

-- what a zero after a log ends is one stretch, whose value was lost
abbrev pub IsLostLast : ℕ → List ℕ → Type 0
IsLostLast limit bytes = IsLostStretch limit (with_zero bytes) (length bytes) (length bytes + 1)

-- the result of a stretch of so many bytes that no zero ends
abbrev pub IsOver : {V : Type 0} → ℕ → ℕ → Answer V → Type 0
IsOver limit n TooLong = limit < n
IsOver limit n Cut = n ≤ limit
IsOver limit n a = ⊥

-- the stretch that no zero ends: its place, and whether it is too long
abbrev pub IsUnfinishedStretch : {V : Type 0} → ℕ → List ℕ → ℕ → Option (Stretch V) → Type 0
IsUnfinishedStretch limit bytes at None = unfinished 0 (take at bytes) ≡ []
IsUnfinishedStretch limit bytes at (Some s) =
    (0 < length (unfinished 0 (take at bytes))) × (s.to ≡ at) × (s.from + length (unfinished 0 (take at bytes)) ≡ at)
    × IsOver limit (length (unfinished 0 (take at bytes))) s.answer

-- A scan of a log is one of each longer log that begins with it.
abbrev pub ScanGoesOn : Type 0
ScanGoesOn = (limit : ℕ) (bytes more : List ℕ) (scan : Scan) → IsScanning limit bytes scan → IsScanning limit (bytes ++ more) scan

-- What appending the records of a log anew writes.
use Rattle.std.specs.Prelude.{◌≡◌, ◌⊎◌, ℕ, ◌+◌, ◌-◌, ◌^◌, ◌<◌, min, Bool, true, List, [], ◌∷◌, ◌++◌, length, map, take, Option, Some, IfSome}
use Rattle.std.proofs.Common.{refl, sym, ap, ◌∙◌, append_assoc}
use Rattle.std.specs.List.{AllZip}
use Rattle.cobs.specs.Frames.{shortest_frame}
use Rattle.line_io.specs.Device.{LineState, Wrote}
use Rattle.postcard_tree.specs.Tree.{Tree}
use Rattle.postcard_tree.specs.ReadingLaws.{WireForm}
use Rattle.postcard.specs.Written.{UnlessRefused}
use Rattle.link.specs.Stream.{Verdict, HoldsExactly, Given, Answers}
use Rattle.link.specs.Run.{completed, sent, session_line}
use Rattle.link.specs.Roads.{values_of}
use Rattle.link.specs.declared.receiver.Answer.{Answer}
use Rattle.link.specs.declared.receiver.Answer.TheVariants.{Value, Damaged, TooLong, Cut}
use Rattle.journal.specs.Records.{numbered, record_of, takes_record}
use Rattle.journal_scan.specs.Checks.{numbers_of}
use Rattle.journal_scan.specs.Scanning.{LosesNext}
use Rattle.journal_scan.specs.Tallies.{behind_greatest}
use Rattle.journal_scan.specs.declared.scanning.ScanError.TheVariants.{Fault, NoMemory}
use Rattle.journal_scan.specs.declared.repairing.Repaired.{Repaired}
use Rattle.journal_scan.specs.declared.repairing.RepairError.{RepairError}
use Rattle.journal_scan.specs.declared.repairing.RepairError.TheVariants.{Read, Refused, Line, Sync}

-- the bytes of records that are appended one after another, each its frame and a zero
abbrev pub appended_anew : List Tree → List ℕ
appended_anew ts = session_line 0 true (map completed ts)

-- those of records and then of others
pub anew_joined : (ts us : List Tree)
    → appended_anew (ts ++ us) ≡ appended_anew ts ++ appended_anew us
anew_joined [] us = refl
anew_joined (t ∷ ts) us = ap (λ x. sent 0 true t ++ x) (anew_joined ts us)
    ∙ sym (append_assoc (sent 0 true t) (appended_anew ts) (appended_anew us))

-- the bytes of a repaired log: a zero, and then its records
abbrev pub rewritten : List Tree → List ℕ
rewritten ts = 0 ∷ appended_anew ts

-- the tree of a record whose value writes one
abbrev pub IsTreeOf : {V : Type 0} → (V → Option Tree) → ℕ × V → Tree → Type 0
IsTreeOf writes r t = (v : Tree) × (writes r.1 ≡ Some v) × (t ≡ numbered r.0 v)

-- the trees of records, in order
abbrev pub AreTreesOf : {V : Type 0} → (V → Option Tree) → List (ℕ × V) → List Tree
    → Type 0
AreTreesOf writes records ts = AllZip (IsTreeOf writes) records ts

-- these are the trees of all records that are read of a log, strictly, in order
pub record AreReadIn (takes : Tree → Type 0) (limit : ℕ) (bytes : List ℕ)
    (ts : List Tree) : Type 0 where
  -- the results of the log, read strictly
  pub answers : List Verdict
  -- they are all of them
  pub whole : Answers (HoldsExactly (takes_record takes)) limit 0 bytes answers
  -- the records among them are these
  pub are : values_of answers ≡ ts

-- these are the trees of all records that are read of some prefix of a log
pub record AreReadFirst (takes : Tree → Type 0) (limit : ℕ) (bytes : List ℕ)
    (ts : List Tree) : Type 0 where
  -- how many bytes of the log were read
  pub count : ℕ
  -- their results, read strictly
  pub answers : List Verdict
  -- they are all results of these bytes
  pub given : Given (HoldsExactly (takes_record takes)) limit 0 (take count bytes) answers
  -- the records among them are these
  pub are : values_of answers ≡ ts

-- A log was repaired: all records that are read of it were appended anew, after a zero; so many they are, and this is the number
-- after the greatest of theirs.
pub record IsRepaired {V : Type 0} (form : WireForm V) (limit : ℕ) (held : Option (List ℕ)) (old new : LineState)
    (repaired : Repaired) : Type 0 where
  -- the records that were appended
  pub records : List (ℕ × V)
  -- their trees
  pub trees : List Tree
  -- each record has its tree
  pub of : AreTreesOf form.writes records trees
  -- they are all records that are read of the log
  pub read : IfSome held (λ bytes. AreReadIn form.takes limit bytes trees)
  -- the destination has grown by exactly a zero and these records
  pub wrote : Wrote old new (rewritten trees)
  -- how many they are, at most 2^64 - 1
  pub records_are : repaired.records ≡ min (length records) (2 ^ 64 - 1)
  -- the number after the greatest of theirs
  pub next_is : repaired.next ≡ behind_greatest (numbers_of records)

-- A repair was interrupted: a prefix of what appending the first records anew writes is there.
pub record IsPartlyRepaired (takes : Tree → Type 0) (limit : ℕ)
    (held : Option (List ℕ)) (old new : LineState) : Type 0 where
  -- the trees of the first records
  pub trees : List Tree
  -- how many bytes were written
  pub count : ℕ
  -- they are the first records that are read of the log
  pub read : IfSome held (λ bytes. AreReadFirst takes limit bytes trees)
  -- the destination has grown by the first bytes of a zero and these records
  pub wrote : Wrote old new (take count (rewritten trees))

-- A repair stopped between two records: a zero and the first records that are read of a log were appended, each of them whole. This
-- holds of the log and of how many of its bytes were read.
pub record IsRepairedTo (takes : Tree → Type 0) (limit : ℕ)
    (held : Option (List ℕ)) (old new : LineState) (goes_on : List ℕ → ℕ → Type 0) : Type 0 where
  -- the trees of the first records
  pub trees : List Tree
  -- they are the first records that are read of the log, and that holds
  pub read : IfSome held (λ bytes. (first : AreReadFirst takes limit bytes trees) × goes_on bytes first.count)
  -- the destination has grown by exactly a zero and these records
  pub wrote : Wrote old new (rewritten trees)

-- What was appended before reading the log, or a record, stopped a repair: whole records. If a value was lost, they are all that are
-- read before it; if a buffer could not be allocated, nothing was appended.
abbrev pub StopsWhole : {V : Type 0} → WireForm V → ℕ → Option (List ℕ)
    → LineState → LineState → RepairError → Type 0
StopsWhole form limit held old new (Read Fault) =
    IsRepairedTo form.takes limit held old new (λ _ _. Unit {0})
StopsWhole form limit held old new (Read NoMemory) = Wrote old new []
    ⊎ ((form.growing ≡ true) × IsRepairedTo form.takes limit held old new (LosesNext limit))
StopsWhole form limit held old new (Refused e) =
    IsRepairedTo form.takes limit held old new (λ _ _. Unit {0})
StopsWhole form limit held old new Line = Unit {0}
StopsWhole form limit held old new Sync = Unit {0}

-- the record that a result is, if it is one
abbrev pub record_read : {V : Type 0} → Answer (ℕ × V) → List (ℕ × V)
record_read (Value r) = r ∷ []
record_read Damaged = []
record_read TooLong = []
record_read Cut = []

-- a record was appended anew
pub record WentAnew (writes : Option Tree) (n : ℕ) (old new : LineState) : Type 0 where
  -- what the value writes
  pub value : Tree
  -- it writes that
  pub is : writes ≡ Some value
  -- the destination has grown by exactly the record
  pub wrote : Wrote old new (sent 0 true (numbered n value))

-- a prefix of it was
pub record BrokeAnew (writes : Option Tree) (n : ℕ) (old new : LineState) : Type 0 where
  -- what the value writes
  pub value : Tree
  -- it writes that
  pub is : writes ≡ Some value
  -- how many bytes were written
  pub count : ℕ
  -- the destination has grown by the first bytes of the record
  pub wrote : Wrote old new (take count (sent 0 true (numbered n value)))

-- the record that a result is was appended anew, if it is one, and is counted
pub record GoesAnew {V : Type 0} (writes : V → Option Tree) (answer : Answer (ℕ × V))
    (old new : LineState) (repaired later : Repaired) : Type 0 where
  -- the tree of the record, if the result is one
  pub trees : List Tree
  -- it is the tree of that record
  pub of : AreTreesOf writes (record_read answer) trees
  -- the destination has grown by exactly the record
  pub wrote : Wrote old new (appended_anew trees)
  -- the record is counted
  pub records_are : later.records ≡ min (repaired.records + length trees) (2 ^ 64 - 1)
  -- the next number follows the greatest, this one included
  pub next_is : (ns : List ℕ) → repaired.next ≡ behind_greatest ns
      → later.next ≡ behind_greatest (ns ++ numbers_of (record_read answer))

-- it wasn't: a prefix of it was, or it was refused, since it takes more than so many bytes
abbrev pub StopsAnew : {V : Type 0} → (V → Option Tree) → ℕ → Answer (ℕ × V)
    → LineState → LineState → RepairError → Type 0
StopsAnew writes most (Value r) old new Line = BrokeAnew (writes r.1) r.0 old new
StopsAnew writes most (Value r) old new (Refused e) =
    Wrote old new []
    × UnlessRefused (record_of r.0 (writes r.1)) (λ bytes. most < length (shortest_frame bytes))
StopsAnew writes most a old new e = ⊥

-- why a repair was interrupted: the log's store failed, or the destination did
abbrev pub RepairCause : RepairError → Type 0 → Type 0 → Type 0
RepairCause (Read Fault) P Q = P
RepairCause (Read NoMemory) P Q = Unit {0}
RepairCause (Refused e) P Q = Unit {0}
RepairCause Line P Q = Q
RepairCause Sync P Q = Q

-- a fact if a record was refused
abbrev pub IfRefused : RepairError → Type 0 → Type 0
IfRefused (Read e) P = Unit {0}
IfRefused (Refused e) P = P
IfRefused Line P = Unit {0}
IfRefused Sync P = Unit {0}

-- a fact if the destination couldn't be synced
abbrev pub IfUnsynced : RepairError → Type 0 → Type 0
IfUnsynced (Read e) P = Unit {0}
IfUnsynced (Refused e) P = Unit {0}
IfUnsynced Line P = Unit {0}
IfUnsynced Sync P = P

-- facts of the log's store and of the destination, but of the one whose fault is the cause
abbrev pub UnlessCause : RepairError → Type 0 → Type 0 → Type 0
UnlessCause (Read Fault) P Q = Q
UnlessCause (Read NoMemory) P Q = P × Q
UnlessCause (Refused e) P Q = P × Q
UnlessCause Line P Q = P
UnlessCause Sync P Q = P

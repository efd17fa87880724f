-- What numbers that may be printed promise.
use Rattle.std.specs.Prelude.{◌≡◌, ℕ, ◌+◌, true, List, [], ◌∷◌, ◌++◌, length, ◌<◌, Option, Some, Result, Ok, Err}
use Rattle.line_io.specs.Device.{LineState, Wrote}
use Rattle.postcard_tree.specs.Tree.{Tree}
use Rattle.link.specs.Run.{sent}
use Rattle.journal.specs.Records.{numbered}
use Rattle.journal.specs.declared.log.AppendError.{AppendError}
use Rattle.journal.specs.declared.log.AppendError.TheVariants.{Refused, Line, Spent, Full}
use Rattle.records.specs.declared.settling.Group.{Group}
use Rattle.records.specs.declared.settling.Settled.{Settled}

-- the number of the first record of a group
abbrev pub first_of : Group → ℕ
first_of g = g.first

-- the number after that of its last record
abbrev pub behind_of : Group → ℕ
behind_of g = g.next

-- the number of the first of settled records
abbrev pub first_settled : Settled → ℕ
first_settled s = s.first

-- the number after that of the last of these
abbrev pub behind_settled : Settled → ℕ
behind_settled s = s.next

-- the bytes of records of these values, numbered from n upwards
abbrev pub records_from : ℕ → List Tree → List ℕ
records_from n [] = []
records_from n (v ∷ vs) = sent 0 true (numbered n v) ++ records_from (n + 1) vs

-- From the old state of the line to the new one, records of these values were appended, with the numbers from `first` up to, not
-- including, `behind`; and after them the bytes `rest`, if appending one more failed.
pub record HasGrown (old new : LineState) (first behind : ℕ) (values : List Tree) (rest : List ℕ) : Type 0 where
  -- exactly these bytes were written
  pub wrote : Wrote old new (records_from first values ++ rest)
  -- a number for each value
  pub numbers : behind ≡ first + length values

-- These bytes are a proper prefix of the record with this number.
pub record IsTornRecord (n : ℕ) (writes : Option Tree) (rest : List ℕ) : Type 0 where
  -- the value of the record
  pub value : Tree
  -- it is what was to be appended
  pub is : writes ≡ Some value
  -- the bytes that are missing
  pub missing : List ℕ
  -- at least one is
  pub some_missing : 0 < length missing
  -- with these bytes they are the record
  pub whole : rest ++ missing ≡ sent 0 true (numbered n value)

-- the bytes that an append that failed leaves after the records: nothing, unless the store failed
abbrev pub IsTorn : ℕ → Option Tree → Result (Unit {0}) AppendError → List ℕ → Type 0
IsTorn n writes (Ok u) rest = ⊥
IsTorn n writes (Err Line) rest = IsTornRecord n writes rest
IsTorn n writes (Err (Refused e)) rest = rest ≡ []
IsTorn n writes (Err Spent) rest = rest ≡ []
IsTorn n writes (Err Full) rest = rest ≡ []

-- the result of an append with the record's number, as a journal returns it
abbrev pub numbered_by : ℕ → Result (Unit {0}) AppendError → Result ℕ AppendError
numbered_by n (Ok u) = Ok n
numbered_by n (Err e) = Err e

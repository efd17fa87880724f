-- How the work of a run ends, before its last line is said.
use Rattle.std.specs.Prelude.{◌≡◌, ℕ, Bool, List, ◌⊎◌, Option, Some, None, Result, Ok, Err, OnOk, OnErr, if◌then◌else◌}
use Rattle.std.specs.List.{list_all}
use Rattle.framed_lib.specs.declared.stop.Stop.{Stop}
use Rattle.framed_lib.specs.declared.stop.Stop.TheVariants as stop
use Rattle.line_io.specs.Device.{LineState}
use Rattle.line_io.specs.Transfers.{Fate, whole, broken}
use Rattle.link.specs.Stream.{Verdict}
use Rattle.line_io.specs.declared.transfers.End.{End}
use Rattle.line_io.specs.declared.transfers.End.TheVariants.{Ended, ReadFault, NoMemory}
use Rattle.line_io.specs.declared.transfers.WriteFault.{WriteFault}
use Rattle.framed_lib.specs.Lines.{AreAnswers, lines_of, is_value}
use Rattle.framed_lib.specs.Output.{WritingByFew}
use Rattle.framed_lib.specs.Program.{RunsToItsEnd, ReadFails, WriteFails, LacksMemory, SaysInVain, read_failed, write_failed, no_memory}

-- How the work ends: with a status, or why it ends early, before the last line is said.
abbrev pub Worked : Option Bool → Bool → ℕ → (Option End → List ℕ → Type 0)
    → (writing saying : Fate → List ℕ → Type 0) → Result ℕ Stop → Type 0
Worked way hex sentinel reading writing saying (Ok status) =
    RunsToItsEnd way hex sentinel reading writing status (saying whole)
Worked way hex sentinel reading writing saying (Err stop.ReadFault) =
    ReadFails way hex sentinel reading writing (saying whole)
Worked way hex sentinel reading writing saying (Err stop.WriteFault) =
    WriteFails way hex sentinel reading writing (saying whole)
Worked way hex sentinel reading writing saying (Err stop.SayingFault) =
    SaysInVain way hex sentinel reading writing (saying broken)
Worked way hex sentinel reading writing saying (Err stop.NoMemory) =
    LacksMemory way hex sentinel reading writing (saying whole)

-- The line was said, with a status; or standard error failed.
abbrev pub SaysLast : LineState → LineState → List ℕ → ℕ → ℕ → Type 0
SaysLast old new line planned status =
    ((status ≡ planned) × WritingByFew old new whole line)
    ⊎ ((status ≡ 3) × WritingByFew old new broken line)

-- what is said last of how the work ended, and the status then: nothing where the work is done or standard error failed
abbrev pub Reports : LineState → LineState → Result ℕ Stop → ℕ → Type 0
Reports old new (Ok planned) status = (status ≡ planned) × (new ≡ old)
Reports old new (Err stop.ReadFault) status = SaysLast old new read_failed 3 status
Reports old new (Err stop.WriteFault) status = SaysLast old new write_failed 3 status
Reports old new (Err stop.SayingFault) status = (status ≡ 3) × (new ≡ old)
Reports old new (Err stop.NoMemory) status = SaysLast old new no_memory 4 status

-- how the work on answers ends, by how the reception ended, where no write ended it, whether the lines were written, and
-- whether all are values
abbrev pub outcome_of : Option End → Result (Unit {0}) WriteFault → Bool → Result ℕ Stop
outcome_of end (Err fault) good = Err stop.WriteFault
outcome_of (Some Ended) (Ok u) good = Ok (if good then 0 else 1)
outcome_of (Some ReadFault) (Ok u) good = Err stop.ReadFault
outcome_of (Some NoMemory) (Ok u) good = Err stop.NoMemory
outcome_of None (Ok u) good = Err stop.WriteFault

-- The lines of the answers to a stream that was read so far went out, or the writer broke off; and whether all are values.
pub record TellsAnswers (strict : Bool) (sentinel : ℕ) (end : Option End) (stream : List ℕ)
    (good : Bool) (written : Result (Unit {0}) WriteFault) (writing : Fate → List ℕ → Type 0) : Type 0 where
  pub verdicts : List Verdict
  pub are : AreAnswers strict sentinel end stream verdicts
  pub values : good ≡ list_all is_value verdicts
  pub went : OnOk written (writing whole (lines_of verdicts))
  pub broke : OnErr written (writing broken (lines_of verdicts))

-- What opening a log by the records that count is.
use Rattle.std.specs.Prelude.{◌≡◌, ℕ, false, List, [], ◌∷◌}
use Rattle.line_io.specs.Device.{LineState, Wrote}
use Rattle.postcard_tree.specs.ReadingLaws.{WireForm}
use Rattle.journal.specs.Store.{Settles}
use Rattle.journal_scan.specs.Checks.{Watched, IsChecked}
use Rattle.journal_scan.specs.Tallies.{IsTally, behind_greatest}
use Rattle.journal_scan.specs.declared.checking.Report.{Report}
use Rattle.journal.specs.Appending.{LogPlace}
use Rattle.journal.specs.declared.reading.ReadError.{ReadError}
use Rattle.journal.specs.declared.reading.ReadError.TheVariants.{Fault as ReadFault, NoMemory as ReadNoMemory, Halted as ReadHalted}
use Rattle.journal_scan.specs.declared.scanning.ScanError.TheVariants.{Fault, NoMemory}
use Rattle.journal_scan.specs.declared.checking.CheckError.{CheckError}
use Rattle.journal_scan.specs.declared.checking.CheckError.TheVariants.{Read, Halted}

-- A log was opened: a zero was put after what the store held; all of that survives any crash; the watcher received all its stretches;
-- and the next number is the one after the greatest of the records that count.
pub record IsOpenedBy {V W : Type 0} (form : WireForm V) (limit : ℕ) (watch : Watched W V)
    (old : LineState) (log : LogPlace) (report : Report V) : Type 0 where
  -- the store has grown by exactly a zero
  pub wrote : Wrote old log.line (0 ∷ [])
  -- no call of the store was a fault
  pub quiet : log.line.faults ≡ old.faults
  -- all that it holds survives any crash
  pub settles : Settles log.line.told log.settled
  -- the log was checked
  pub checked : IsChecked form limit watch log.line.told report
  -- the next number follows the greatest of the records that count
  pub next_is : (numbers : List ℕ) → IsTally numbers report.tally
      → log.next ≡ behind_greatest numbers
  -- the journal isn't spent
  pub ready : log.spent ≡ false

-- a cause of a check, as reading a log says it
abbrev pub IsReadErrorOf : CheckError → ReadError → Type 0
IsReadErrorOf (Read Fault) e = e ≡ ReadFault
IsReadErrorOf (Read NoMemory) e = e ≡ ReadNoMemory
IsReadErrorOf Halted e = e ≡ ReadHalted

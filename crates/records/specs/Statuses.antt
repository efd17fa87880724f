-- The statuses that the program ends with.
use Rattle.std.specs.Prelude.{ℕ, ◌≤◌}
use Rattle.journal_scan.specs.declared.scanning.ScanError.{ScanError}
use Rattle.journal_scan.specs.declared.scanning.ScanError.TheVariants.{Fault, NoMemory}
use Rattle.journal_scan.specs.declared.checking.CheckError.{CheckError}
use Rattle.journal_scan.specs.declared.checking.CheckError.TheVariants.{Read, Halted}

-- a file failed, or is in use (3), or memory ran out (4)
abbrev pub IsFaultStatus : ℕ → Type 0
IsFaultStatus status = (3 ≤ status) × (status ≤ 4)

-- the status if a scan stopped before the end of a log
abbrev pub scan_status : ScanError → ℕ
scan_status Fault = 3
scan_status NoMemory = 4

-- the status if a check did: by its scan, or since a line couldn't be printed
abbrev pub check_status : CheckError → ℕ
check_status (Read e) = scan_status e
check_status Halted = 3

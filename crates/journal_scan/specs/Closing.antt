-- Where a scan of a log with a zero after it stands, and what it finds.
use Rattle.std.specs.Prelude.{◌≡◌, ℕ, ◌+◌, ◌-◌, ◌^◌, Bool, true, false, List, length, Option}
use Rattle.std.specs.Prelude.{if◌then◌else◌}
use Rattle.postcard_tree.specs.ReadingLaws.{WireForm}
use Rattle.journal_scan.specs.declared.scanning.Stretch.{Stretch}
use Rattle.journal_scan.specs.declared.closing.ClosedScan.{ClosedScan}
use Rattle.journal_scan.specs.Scanning.{IsScanning, FoundAll, IsLostStretch, offset_of, with_zero}

-- a fact if a test failed
abbrev pub OnFalse : Bool → Type 0 → Type 0
OnFalse true P = Unit {0}
OnFalse false P = P

-- until the zero after the log was passed it is a scan of these bytes
abbrev pub IsClosing : ℕ → List ℕ → ClosedScan → Type 0
IsClosing limit bytes scan = OnFalse scan.closed (IsScanning limit bytes scan.scan)

-- how many of these bytes and the zero after them it passed
abbrev pub passed_by : List ℕ → ClosedScan → ℕ
passed_by bytes scan = if scan.closed then length bytes + 1 else offset_of scan.scan

-- it passed nothing yet
abbrev pub HasPassedNone : ℕ → List ℕ → ClosedScan → Type 0
HasPassedNone limit bytes scan = IsClosing limit bytes scan × (passed_by bytes scan ≡ 0)

-- what is next in a log with a zero after it: a stretch, or no further one ends
abbrev pub FoundClosed : {V : Type 0} → WireForm V → ℕ → List ℕ
    → ClosedScan → ClosedScan → Option (Stretch V) → Type 0
FoundClosed form limit bytes old new o = IsClosing limit bytes new
    × FoundAll form limit (with_zero bytes) (passed_by bytes old) (passed_by bytes new) o

-- one stretch was passed in a log with a zero after it, whose value was lost
abbrev pub LostClosed : ℕ → List ℕ → ClosedScan → ClosedScan → Type 0
LostClosed limit bytes old new =
    IsClosing limit bytes new × IsLostStretch limit (with_zero bytes) (passed_by bytes old) (passed_by bytes new)

-- more than the bytes that it has still to pass
abbrev pub left_of : ClosedScan → ℕ
left_of scan = if scan.closed then 0 else (2 ^ 64 - offset_of scan.scan) + 1

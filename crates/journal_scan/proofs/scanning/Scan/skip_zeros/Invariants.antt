use Rattle.std.proofs.Common.{◌-◌, ◌≡◌, ◌≤◌, ℕ, List, take}
use Rattle.link.specs.Stream.{ended}
use Rattle.journal_scan.specs.Scanning.{IsScanning}
use Rattle.journal_scan.proofs.scanning.Scan.skip_zeros.Given as goal

-- no stretch is begun, and none ended
abbrev pub invariant-loop-self : goal.invariant-loop-self
invariant-loop-self l = record {
  past : l.self.past ≡ l.fn.self.past;
  begin : l.self.at ≤ l.self.from;
  back : l.fn.self.at ≤ l.self.at;
  stands : (limit : ℕ) (bytes : List ℕ) → IsScanning limit bytes l.fn.self → IsScanning limit bytes l.self × (ended 0 (take l.self.at bytes) ≡ ended 0 (take l.fn.self.at bytes));
}

abbrev pub decreases-loop-self : goal.decreases-loop-self
decreases-loop-self l = l.self.end - l.self.start

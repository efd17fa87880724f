use Rattle.std.proofs.Common.{◌-◌, ◌≡◌, ◌≤◌, true, ℕ, List, take}
use Rattle.link.specs.Stream.{ended}
use Rattle.journal_scan.specs.Scanning.{IsScanning}
use Rattle.journal_scan.proofs.scanning.Scan.pass.Given as goal

-- it is in the stretch that is too long
abbrev pub invariant-loop-self : goal.invariant-loop-self
invariant-loop-self g l = record {
  past : l.self.past ≡ true;
  from : l.self.from ≡ l.fn.self.from;
  back : l.fn.self.at ≤ l.self.at;
  stands : (limit : ℕ) (bytes : List ℕ) → IsScanning limit bytes l.fn.self → IsScanning limit bytes l.self × (ended 0 (take l.self.at bytes) ≡ ended 0 (take l.fn.self.at bytes));
}

abbrev pub decreases-loop-self : goal.decreases-loop-self
decreases-loop-self g l = l.self.end - l.self.start

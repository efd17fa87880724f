use Rattle.std.proofs.Common.{◌≡◌, ◌≤◌, ℕ, List, Some, take}
use Rattle.link.specs.Stream.{ended}
use Rattle.journal_scan.specs.Scanning.{IsScanning, offset_of}
use Rattle.journal_scan.proofs.scanning.Scan.next_ended.Given as goal

-- no stretch ended so far
abbrev pub invariant-loop-stretch : goal.invariant-loop-stretch
invariant-loop-stretch g l = record {
  back : offset_of l.fn.self ≤ offset_of l.self;
  held : (g.S.Store.line l.store).told ≡ (g.S.Store.line l.fn.store).told;
  settled : g.S.Store.settled l.store ≡ g.S.Store.settled l.fn.store;
  quiet : (g.S.Store.line l.store).faults ≡ (g.S.Store.line l.fn.store).faults;
  goes : (limit : ℕ) (bytes : List ℕ) → (g.S.Store.line l.fn.store).told ≡ Some bytes → IsScanning limit bytes l.fn.self → IsScanning limit bytes l.self × (ended 0 (take (offset_of l.self) bytes) ≡ ended 0 (take (offset_of l.fn.self) bytes));
}

abbrev pub decreases-loop-stretch : goal.decreases-loop-stretch
decreases-loop-stretch g l = (g.S.Store.line l.store).calls_left

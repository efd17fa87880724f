use Rattle.std.proofs.Common.{◌≡◌, ℕ, List, Some}
use Rattle.journal_scan.specs.Scanning.{IsScanning}
use Rattle.records.proofs.showing.write_rest.Given as goal

-- the store holds what it held, no read failed, and the scan goes on
abbrev pub invariant-loop : goal.invariant-loop
invariant-loop g l = record {
  held : (g.S.Store.line l.store).told ≡ (g.S.Store.line l.fn.store).told;
  quiet : (g.S.Store.line l.store).faults ≡ (g.S.Store.line l.fn.store).faults;
  stands : (limit : ℕ) (bytes : List ℕ) → (g.S.Store.line l.fn.store).told ≡ Some bytes → IsScanning limit bytes l.fn.scan → IsScanning limit bytes l.scan;
}

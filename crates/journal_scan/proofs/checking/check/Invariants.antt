use Rattle.std.proofs.Common.{◌≡◌, ℕ, List, Some}
use Rattle.journal_scan.specs.declared.scanning.Stretch.{Stretch}
use Rattle.journal_scan.specs.Closing.{left_of}
use Rattle.journal_scan.specs.Tallies.{IsTally}
use Rattle.journal_scan.specs.Checks.{records_in, numbers_of}
use Rattle.journal_scan.proofs.StretchesLemmas.{StandsBehind}
use Rattle.journal_scan.proofs.checking.check.Given as goal

-- the watcher was told of some stretches, and the tally is of these
abbrev pub invariant-loop-stretch : goal.invariant-loop-stretch
invariant-loop-stretch g l = record {
  held : (g.S.Store.line l.store).told ≡ (g.S.Store.line l.fn.store).told;
  settled : g.S.Store.settled l.store ≡ g.S.Store.settled l.fn.store;
  quiet : (g.S.Store.line l.store).faults ≡ (g.S.Store.line l.fn.store).faults;
  stretches : List (Stretch g.row.T.Denot);
  handed : g.W.Watcher.told l.fn.watcher stretches l.watcher;
  tallied : IsTally (numbers_of (records_in g.W.Judge.counted stretches)) l.tally;
  behind : (bytes : List ℕ) → (g.S.Store.line l.fn.store).told ≡ Some bytes → StandsBehind g.T.Readable.form l.fn.limit bytes l.scan stretches;
}

abbrev pub decreases-loop-stretch : goal.decreases-loop-stretch
decreases-loop-stretch g l = left_of l.scan

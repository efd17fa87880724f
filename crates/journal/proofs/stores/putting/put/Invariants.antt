use Rattle.std.proofs.Common.{◌≡◌, ◌≤◌, ◌+◌, ◌-◌, ◌⊎◌, length, take}
use Rattle.line_io.specs.Device.{Wrote}
use Rattle.journal.proofs.stores.putting.put.Given as goal

abbrev pub invariant-loop-at : goal.invariant-loop-at
invariant-loop-at g l = record {
  within : l.at ≤ length l.bytes;
  calls : (g.S.Store.line l.store).calls_left ≤ (g.S.Store.line l.fn.store).calls_left;
  settled : g.S.Store.settled l.store ≡ g.S.Store.settled l.fn.store;
  quiet : (g.S.Store.line l.store).faults ≡ (g.S.Store.line l.fn.store).faults;
  written : Wrote (g.S.Store.line l.fn.store) (g.S.Store.line l.store) (take l.at l.bytes);
  few : (g.S.Store.line l.fn.store).calls_left ≤ (g.S.Store.line l.store).calls_left + l.at;
  once : ((l.at ≡ 0) × (l.store ≡ l.fn.store)) ⊎ (g.S.Store.whole l.fn.store → (l.at ≡ length l.bytes) × ((g.S.Store.line l.store).calls_left ≡ (g.S.Store.line l.fn.store).calls_left - 1));
}

abbrev pub decreases-loop-at : goal.decreases-loop-at
decreases-loop-at g l = length l.bytes - l.at

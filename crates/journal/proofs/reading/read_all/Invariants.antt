use Rattle.std.proofs.Common.{◌≡◌, ◌+◌, ◌-◌, ◌*◌, ◌≤◌, [], take}
use Rattle.std.specs.Prelude.{IfSome}
use Rattle.journal.specs.Reading.{HearsMore, HasHanded, log_reading, visited}
use Rattle.journal.proofs.reading.read_all.Given as goal

-- what was read so far was heard
abbrev pub invariant-loop-n : goal.invariant-loop-n
invariant-loop-n g l = record {
  held : (g.S.Store.line l.store).told ≡ (g.S.Store.line l.fn.store).told;
  settled : g.S.Store.settled l.store ≡ g.S.Store.settled l.fn.store;
  calls : (g.S.Store.line l.store).calls_left ≤ (g.S.Store.line l.fn.store).calls_left;
  few : (g.S.Store.line l.fn.store).calls_left ≤ (g.S.Store.line l.store).calls_left + l.count.heard;
  most : l.count.heard ≤ 1024 * ((g.S.Store.line l.fn.store).calls_left - (g.S.Store.line l.store).calls_left);
  so_far : HasHanded g.V.Visitor.took l.fn.visitor l.visitor;
  quiet : (g.S.Store.line l.store).faults ≡ (g.S.Store.line l.fn.store).faults;
  heard : IfSome (g.S.Store.line l.fn.store).told (λ bytes. HearsMore (log_reading (g.M.MessageReader.judging l.fn.messages) g.row.N l.fn.first) (visited g.V.Visitor.took g.V.Visitor.halts l.fn.visitor l.visitor) l.receiver [] l.count (take l.count.heard bytes));
}

abbrev pub decreases-loop-n : goal.decreases-loop-n
decreases-loop-n g l = (g.S.Store.line l.store).calls_left

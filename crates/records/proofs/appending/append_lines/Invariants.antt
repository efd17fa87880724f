use Rattle.std.proofs.Common.{◌-◌}
use Rattle.journal.specs.Store.{Settles}
use Rattle.journal.specs.Logs.{store_of, log_place}
use Rattle.records.specs.Lines.{AreAppended, IsGroupAt, IsSafeWithout, left_out_status}
use Rattle.records.proofs.appending.append_lines.Given as goal

-- the lines that were counted were appended, or left out; if the group is empty, all that the store holds is settled
abbrev pub invariant-loop-lines : goal.invariant-loop-lines
invariant-loop-lines g l = record {
  appended : AreAppended (log_place g.S.Store.line g.S.Store.settled l.fn.journal) (log_place g.S.Store.line g.S.Store.settled l.journal) l.fn.lines l.lines (left_out_status l.left_out);
  group : IsGroupAt l.group (log_place g.S.Store.line g.S.Store.settled l.journal);
  safe : Settles (g.S.Store.line (store_of l.fn.journal)).told (g.S.Store.settled (store_of l.fn.journal)) → IsSafeWithout l.group (log_place g.S.Store.line g.S.Store.settled l.journal);
}

abbrev pub decreases-loop-lines : goal.decreases-loop-lines
decreases-loop-lines g l = 18446744073709551615 - l.lines

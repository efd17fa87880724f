use Rattle.std.proofs.Common.{◌≡◌, take}
use Rattle.link.specs.Senders.{writer_of, clean_of, sentinel_of}
use Rattle.link.specs.Fates.{SendsAll}
use Rattle.link.proofs.session.send_all.Given as goal

-- the values so far were sent
abbrev pub invariant-loop-i : goal.invariant-loop-i
invariant-loop-i g l = record {
  sentinel : sentinel_of l.sender ≡ sentinel_of l.fn.sender;
  sent : SendsAll g.row.N (sentinel_of l.fn.sender) g.T.Readable.form.writes g.T.Readable.form.valid (clean_of l.fn.sender) (clean_of l.sender)
      (g.W.Outlet.line (writer_of l.fn.sender)) (g.W.Outlet.line (writer_of l.sender)) (take l.i l.values) (take l.i l.fates);
}

use Rattle.std.proofs.Common.{arith}
use Rattle.journal.specs.Reading.{ReadByCalls, log_reading, visited}
use Rattle.journal.proofs.HearingLemmas.{handed_by, calls_before}
use Rattle.journal.proofs.log.Journal.open.Goals as goal

pub returns-in-Err-clause-so_far : goal.returns-in-Err-clause-so_far
returns-in-Err-clause-so_far g c =
    let before = g.S.Store.line c.args.store in
    let mid = g.S.Store.line c.sync.new.self in
    let after = g.S.Store.line c.read_all.new.store in
    handed_by (log_reading (g.M.MessageReader.judging c.args.messages.now) g.row.N c.args.first) (visited g.V.Visitor.took g.V.Visitor.halts c.args.visitor.now c.read_all.new.visitor) _ (ReadByCalls mid after 1) (ReadByCalls before after 3) mid.told after.told c.in-Err.ensures.held
    (λ n h. calls_before before mid after 2 n (omega (arith, c.put.ensures.few, c.sync.ensures.few)) (omega (arith, c.put.ensures.calls, c.sync.ensures.calls)) h) c.in-Err.ensures.so_far

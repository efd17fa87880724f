use Rattle.journal.specs.Reading.{visited}
use Rattle.journal_laws.proofs.OpenedLemmas.{opens_history}
use Rattle.journal_laws.proofs.headline.open_history.Goals as goal

pub returns-in-Ok : goal.returns-in-Ok
returns-in-Ok g c =
    opens_history g.T.Readable.form g.row.N (visited g.V.Visitor.took g.V.Visitor.halts c.args.visitor.now c.open.new.visitor) (g.M.MessageReader.judging c.args.messages.now) (c.show_laws.ensures.counts g.row.N) (c.show_laws.ensures.appends g.row.N) c.show_laws.ensures.records _ _
    c.in-Ok.ensures.opened

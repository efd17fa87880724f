use Rattle.journal_scan.specs.Checks.{watched}
use Rattle.journal_laws.proofs.JudgingLemmas.{judges_history}
use Rattle.journal_laws.proofs.headline.open_history_by.Goals as goal

pub returns-in-Ok : goal.returns-in-Ok
returns-in-Ok g c =
    judges_history g.T.Readable.form g.row.N (watched g.W.Watcher.told g.W.Watcher.halts g.W.Judge.counted c.args.watcher.now c.open_by.new.watcher) (c.counts_on.ensures.strict g.row.N 0) _ _ _
    c.in-Ok.ensures.opened

use Rattle.journal_scan.proofs.StandingLemmas.{stands_new}
use Rattle.journal_scan.proofs.scanning.Scan.new.Goals as goal

pub returns-in-Ok-resize-clause-stands : goal.returns-in-Ok-resize-clause-stands
returns-in-Ok-resize-clause-stands c bytes l e = stands_new c.args.limit c.args.at c.in-Ok.receiver bytes l e c.in-Ok.ensures.after

use Rattle.journal_scan.proofs.MapLemmas.{passed_to}
use Rattle.journal_scan.proofs.tallies.Tally.pass_to.Goals as goal

pub returns-in-Ok-clause-ahead : goal.returns-in-Ok-clause-ahead
returns-in-Ok-clause-ahead c a b = passed_to c.args.self.now.next c.args.number c.args.self.now.gaps.entries _ a (b c.if-self-number.true) c.if-self-number.true c.in-Ok.ensures.entries

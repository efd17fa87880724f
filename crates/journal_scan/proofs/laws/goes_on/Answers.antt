use Rattle.journal_scan.proofs.StandingLemmas.{stands_longer}
use Rattle.journal_scan.proofs.laws.goes_on.Goals as goal

pub returns : goal.returns
returns c limit bytes more scan s = stands_longer bytes more s

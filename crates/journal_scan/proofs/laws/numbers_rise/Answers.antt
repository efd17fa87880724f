use Rattle.journal_scan.proofs.GapsLemmas.{contains_below}
use Rattle.journal_scan.proofs.laws.numbers_rise.Goals as goal

pub returns : goal.returns
returns c numbers n h l = contains_below numbers n h l

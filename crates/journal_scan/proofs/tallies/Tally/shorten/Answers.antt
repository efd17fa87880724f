use Rattle.journal_scan.proofs.MapLemmas.{shortened, is_there, taken_out}
use Rattle.journal_scan.proofs.tallies.Tally.shorten.Goals as goal

pub returns-in-Ok-clause-shortened : goal.returns-in-Ok-clause-shortened
returns-in-Ok-clause-shortened c front rest last below are = shortened c.args.first c.args.number last front rest _ _ below are c.if-first-number.true c.in-Ok.ensures.entries

pub returns-in-Err-clause-there : goal.returns-in-Err-clause-there
returns-in-Err-clause-there c front rest last below are = is_there c.args.first c.args.number last front rest _ below are c.in-Err.ensures.absent

pub returns-clause-shortened : goal.returns-clause-shortened
returns-clause-shortened c front rest last below are = taken_out c.args.first c.args.number last front rest _ _ below are c.if-first-number.false c.remove.ensures.entries

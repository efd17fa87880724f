use Rattle.journal_laws.proofs.AgainLemmas.{repairs_in_fronts}
use Rattle.journal_laws.proofs.laws.repairs_in_fronts.Goals as goal

pub returns : goal.returns
returns g c limit bytes ts us count f w = repairs_in_fronts g.T.Readable.form.takes limit (c.one_answer.ensures.strict limit 0) bytes ts us count f w

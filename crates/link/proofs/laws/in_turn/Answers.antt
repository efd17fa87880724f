use Rattle.link.proofs.InTurnLemmas.{in_turn}
use Rattle.link.proofs.laws.in_turn.Goals as goal

pub returns : goal.returns
returns g c s = in_turn g.T.Readable.form.takes g.T.Readable.form.reads s

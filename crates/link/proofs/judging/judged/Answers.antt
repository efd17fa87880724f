use Rattle.link.proofs.ReadingLemmas.{ordinary_judged}
use Rattle.link.proofs.judging.judged.Goals as goal

pub returns : goal.returns
returns g c = ordinary_judged g.T.Readable.form.takes c.message_of_a_frame.ensures.one g.T.Readable.form.laws.once

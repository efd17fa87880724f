use Rattle.link.proofs.ReadingLemmas.{ordinary_judged}
use Rattle.link.proofs.judging.OrdinaryMessageReader.show.Goals as goal

pub returns : goal.returns
returns g c = ordinary_judged _ c.message_of_a_frame.ensures.one (g.F.FrontReader.laws c.args.self.now.0).once

use Rattle.link.proofs.ReadingLemmas.{front_facts, strict_judged}
use Rattle.link.proofs.judging.StrictMessageReader.show.Goals as goal

pub returns : goal.returns
returns g c = strict_judged _ (front_facts _ _ (g.F.FrontReader.laws c.args.self.now.0) c.message_of_a_frame.ensures.one c.frames_of_a_message.ensures.shortest c.short_is_a_spelling.ensures)

use Rattle.link.proofs.ReadingLemmas.{holds_none, front_value}
use Rattle.link.proofs.judging.OrdinaryMessageReader.read.Goals as goal

pub returns-in-Ok-clause-value : goal.returns-in-Ok-clause-value
returns-in-Ok-clause-value g c p f e =
    let r = c.args.self.now.0 in
    front_value (g.F.FrontReader.takes r) (g.F.FrontReader.reads r) (g.F.FrontReader.laws r).taken p _ _ c.in-Ok.value f c.in-Ok.ensures.value.1

pub returns-in_ok-had_memory-in-Err-clause-value : goal.returns-in_ok-had_memory-in-Err-clause-value
returns-in_ok-had_memory-in-Err-clause-value g c p f e =
    let r = c.args.self.now.0 in
    holds_none (g.F.FrontReader.takes r) (g.F.FrontReader.reads r) (g.F.FrontReader.growing r) p _ c.in-Err.error c.message_of_a_frame.ensures.one f c.in-Err.ensures.only c.in_ok-had_memory-in-Err.ensures.ok

use Rattle.link.specs.Stream.{begun}
use Rattle.link.specs.Lemmas.AnswerLaws.{behind_after}
use Rattle.frames.specs.Standing.{StandsAt}
use Rattle.frames.proofs.EventsLemmas.{plain_answers}
use Rattle.frames.proofs.receiving.FrameReceiver.push_plain.Goals as goal

pub returns-clause-stands : goal.returns-clause-stands
returns-clause-stands c limit s stream h =
    let t = c.take.ensures.taken limit s (begun limit s stream) h in
    behind_after limit s (StandsAt limit s c.take.new.self c.take.new.buffer) stream c.args.bytes.now c.take.result.used t.used (c.take.ensures.at limit s (begun limit s stream) h)

pub returns-clause-answers : goal.returns-clause-answers
returns-clause-answers c limit s stream h = plain_answers limit s stream c.args.bytes.now c.take.new.buffer c.take.result c.take.ensures.front (c.take.ensures.taken limit s (begun limit s stream) h)

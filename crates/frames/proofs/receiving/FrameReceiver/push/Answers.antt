use Rattle.std.proofs.Common.{◌∙◌}
use Rattle.link.specs.Stream.{begun}
use Rattle.link.specs.Lemmas.AnswerLaws.{behind_after}
use Rattle.frames.specs.Standing.{StandsAt}
use Rattle.postcard_tree.specs.Reading.{ReadsBytes}
use Rattle.frames.specs.Events.{HoldsCounted}
use Rattle.frames.proofs.EventsLemmas.{answers_as}
use Rattle.frames.proofs.receiving.FrameReceiver.push.Goals as goal

pub returns-clause-stands : goal.returns-clause-stands
returns-clause-stands c limit s stream h =
    let t = c.take-push.ensures.taken limit s (begun limit s stream) h in
    behind_after limit s (StandsAt limit s c.take-push.new.self c.take-push.new.buffer) stream c.args.bytes.now c.as_counted.result.used (c.as_counted.ensures.used ∙ t.used) (c.take-push.ensures.at limit s (begun limit s stream) h)

pub returns-clause-answers : goal.returns-clause-answers
returns-clause-answers c limit s stream h =
    answers_as HoldsCounted ReadsBytes limit s stream c.args.bytes.now c.take-push.new.buffer c.as_counted.result (c.as_counted.ensures.replies limit _ (c.take-push.ensures.taken limit s (begun limit s stream) h))

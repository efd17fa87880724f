use Rattle.std.proofs.Common.{[], ◌∷◌}
use Rattle.link.specs.Stream.{begun}
use Rattle.postcard_tree.specs.Reading.{ReadsBytes}
use Rattle.frames.specs.Events.{HoldsCounted}
use Rattle.frames_small.specs.Standing.{by_byte}
use Rattle.frames_small.proofs.EventsLemmas.{answers_as, byte_behind}
use Rattle.frames_small.proofs.receiving.SmallReceiver.push.Goals as goal

pub returns-clause-stands : goal.returns-clause-stands
returns-clause-stands c limit s stream h =
    byte_behind limit s stream c.args.byte c.take_byte-event.new.self c.take_byte-event.new.buffer (c.take_byte-event.ensures.at limit s (begun limit s stream) h)

pub returns-clause-answers : goal.returns-clause-answers
returns-clause-answers c limit s stream h =
    answers_as HoldsCounted ReadsBytes limit s stream (c.args.byte ∷ []) c.take_byte-event.new.buffer (by_byte c.args.self.now.stretch c.as_counted.result)
    (c.as_counted.ensures.replies limit c.args.self.now.stretch _ (c.take_byte-event.ensures.taken limit s (begun limit s stream) h))

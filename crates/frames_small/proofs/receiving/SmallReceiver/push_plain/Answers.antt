use Rattle.std.proofs.Common.{[], ◌∷◌}
use Rattle.link.specs.Stream.{begun}
use Rattle.frames_small.proofs.EventsLemmas.{byte_answers, byte_behind}
use Rattle.frames_small.proofs.receiving.SmallReceiver.push_plain.Goals as goal

pub returns-clause-stands : goal.returns-clause-stands
returns-clause-stands c limit s stream h =
    byte_behind limit s stream c.args.byte c.take_byte.new.self c.take_byte.new.buffer (c.take_byte.ensures.at limit s (begun limit s stream) h)

pub returns-clause-answers : goal.returns-clause-answers
returns-clause-answers c limit s stream h = byte_answers limit s stream (c.args.byte ∷ []) c.take_byte.new.buffer c.args.self.now.stretch c.take_byte.result c.take_byte.ensures.front (c.take_byte.ensures.taken limit s (begun limit s stream) h)

use Rattle.std.proofs.Common.{[], ◌∷◌, sym, ◌∙◌}
use Rattle.link.specs.Stream.{begun}
use Rattle.link.specs.Lemmas.AnswerLaws.{behind_after}
use Rattle.frames.specs.Standing.{StandsAt}
use Rattle.frames.proofs.EventsLemmas.{plain_answers}
use Rattle.frames.proofs.receiving.FrameReceiver.push_byte_plain.Goals as goal

pub returns-clause-stands : goal.returns-clause-stands
returns-clause-stands c limit s stream h =
    let t = c.take_byte.ensures.taken limit s (begun limit s stream) h in
    behind_after limit s (StandsAt limit s c.take_byte.new.self c.take_byte.new.buffer) stream (c.args.byte ∷ []) 1 (sym c.take_byte.ensures.used ∙ t.used) (c.take_byte.ensures.at limit s (begun limit s stream) h)

pub returns-clause-answers : goal.returns-clause-answers
returns-clause-answers c limit s stream h = plain_answers limit s stream (c.args.byte ∷ []) c.take_byte.new.buffer c.take_byte.result c.take_byte.ensures.front (c.take_byte.ensures.taken limit s (begun limit s stream) h)

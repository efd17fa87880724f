use Rattle.std.proofs.Common.{refl}
use Rattle.link.specs.Link.{begun, IsAt}
use Rattle.link.specs.Lemmas.AnswerLaws.{behind_after, answered, stretch_of}
use Rattle.link.proofs.reception.Reception.push_with.Goals as goal

pub returns-clause-stands : goal.returns-clause-stands
returns-clause-stands g c limit s stream h =
    behind_after limit s (IsAt g.D.Decoding.inside limit s c.take-taken.new.self) stream c.args.piece.now _ (c.take-taken.ensures.taken limit s (begun limit s stream) h).used (c.take-taken.ensures.at limit s (begun limit s stream) h)

pub returns-clause-answers : goal.returns-clause-answers
returns-clause-answers g c limit s stream h =
    let t = c.take-taken.ensures.taken limit s (begun limit s stream) h in
    answered (g.M.MessageReader.judging c.args.messages.now).holds limit s (begun limit s stream) c.args.piece.now stream refl (g.M.MessageReader.judging c.args.messages.now).reads _ _ t.used (c.read.ensures.replies limit _ (c.lend.ensures.same limit _ t))

pub returns-clause-stretch : goal.returns-clause-stretch
returns-clause-stretch g c limit s stream h =
    let t = c.take-taken.ensures.taken limit s (begun limit s stream) h in
    stretch_of (g.M.MessageReader.judging c.args.messages.now).holds (g.M.MessageReader.judging c.args.messages.now).reads limit s stream c.args.piece.now _ _ _ t.used (c.read.ensures.replies limit _ (c.lend.ensures.same limit _ t)) t.span

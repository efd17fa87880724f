-- What a decoder was given, and what it gives.
use Rattle.std.specs.Prelude.{◌≡◌, ℕ, List, refl}
use Rattle.std.proofs.Math.Logic.{∥∥₁_map}
use Rattle.link.specs.Judged.{Judging}
use Rattle.link.specs.Receivers.{IsBehind}
use Rattle.link.specs.declared.receiver.Answer.{Answer}
use Rattle.link.specs.declared.decoding.Decoding.{Ghosts}
use Rattle.link_codec.specs.declared.error.DecodeError.{DecodeError}
use Rattle.link_codec.specs.declared.decoder.AnswerDecoder.{AnswerDecoder}
use Rattle.link_codec.specs.Gives.{GivenBy, gives_answers}
use Rattle.link_codec.specs.Laws.{answers_stable, answers_partial, answers_end}
use Rattle.tokio_util.specs.Codec.Next.{Gives, IsStable, PartialHasNoFrame, EndIsPartial}

module _ {V M D : Type 0} {g : Ghosts D} where
  -- its reader of messages, which stays
  abbrev pub messages_in : AnswerDecoder V M D g → M
  messages_in d = d.messages

  -- it was given this stream, under this limit and with this sentinel
  abbrev pub IsGiven : GivenBy (AnswerDecoder V M D g)
  IsGiven limit s d stream = IsBehind g.inside limit s d.receiver stream

  -- and its reader of messages is this
  abbrev pub IsGivenTo : M → GivenBy (AnswerDecoder V M D g)
  IsGivenTo m limit s d stream = IsGiven limit s d stream × (messages_in d ≡ m)

  module _ (judging : M → Judging V) where
    -- it gives answers, as its reader of messages judges
    abbrev pub gives_judged : Gives (AnswerDecoder V M D g) (Answer V) DecodeError
    gives_judged d xs next = gives_answers (IsGivenTo (messages_in d))
        (judging (messages_in d)).holds (judging (messages_in d)).reads
        (judging (messages_in d)).growing d xs next

    pub judged_stable : IsStable gives_judged
    judged_stable d xs r t ys more h =
        let j = judging (messages_in d) in
        answers_stable (IsGivenTo (messages_in d)) j.holds j.reads j.growing d xs r t ys more h

    -- every decoder was given some stream
    pub judged_partial : PartialHasNoFrame gives_judged
    judged_partial d xs x t ys nothing h =
        let j = judging (messages_in d) in
        answers_partial (IsGivenTo (messages_in d)) j.holds j.reads j.growing d
        (∥∥₁_map d.stands (λ b. (b.0, b.1, b.2, (b.3, refl)))) xs x t ys nothing h

    pub judged_end : EndIsPartial gives_judged
    judged_end d xs r t ys h =
        let j = judging (messages_in d) in
        answers_end (IsGivenTo (messages_in d)) j.holds j.reads j.growing d xs r t ys h

use Rattle.std.proofs.Math.Logic.{∥∥₁_map}
use Rattle.std.proofs.Common.{[], refl}
use Rattle.link_codec.proofs.DecodingLemmas.{decodes_end}
use Rattle.link_codec.proofs.decoder.AnswerDecoderDecoder.decode_eof.Goals as goal

pub invariant_of-self : goal.invariant_of-self
invariant_of-self g c = record { stands = ∥∥₁_map c.decode.new.self.stands (λ b. (b.0, b.1, [], c.restart.ensures.anew b.0 b.1 b.2 b.3)) }

pub returns-in-None : goal.returns-in-None
returns-in-None g c =
    decodes_end g.M.MessageReader.judging _ c.decode.new.self _ _ _ _ (rw c.in-None.is at c.in_ok-answer.ensures.next) (rw c.in-None.is at c.in_ok-answer.ensures.all)
    c.restart.ensures.anew refl c.restart.ensures.answer

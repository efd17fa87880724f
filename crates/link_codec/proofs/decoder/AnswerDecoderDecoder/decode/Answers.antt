use Rattle.std.proofs.Common.{◌++◌, take, refl}
use Rattle.std.proofs.Math.Logic.{∥∥₁_map}
use Rattle.link_codec.specs.Decoders.{IsGivenTo, messages_in}
use Rattle.link_codec.proofs.DecodingLemmas.{decodes_ok, decodes_judged, none_left_if}
use Rattle.link_codec.proofs.decoder.AnswerDecoderDecoder.decode.Goals as goal

pub invariant_of-self : goal.invariant_of-self
invariant_of-self g c = record { stands = ∥∥₁_map c.args.self.now.stands (λ b. (b.0, b.1, b.2 ++ take _ _, c.push_with-used.ensures.stands b.0 b.1 b.2 b.3)) }

pub returns-in-Ok-clause-next : goal.returns-in-Ok-clause-next
returns-in-Ok-clause-next g c =
    let s = c.as_slice.ensures in
    let m = messages_in c.args.self.now in
    let j = g.M.MessageReader.judging m in
    decodes_judged g.M.MessageReader.judging c.args.self.now _ _ _ _ refl
    (decodes_ok (IsGivenTo m) j.holds j.reads c.args.self.now (∥∥₁_map c.args.self.now.stands (λ b. (b.0, b.1, b.2, (b.3, refl)))) _ _ c.push_with-used.result.used c.push_with-used.result.answer c.advance.ensures.items
    (λ limit s' stream i. (rw s at c.push_with-used.ensures.answers) limit s' stream i.0)
    j.growing _ (rw s at c.push_with-used.ensures.within) (λ limit s' stream i. ((rw s at c.push_with-used.ensures.stands) limit s' stream i.0, i.1)) _ c.in-Ok.is)

pub returns-in-Ok-clause-all : goal.returns-in-Ok-clause-all
returns-in-Ok-clause-all g c =
    let m = messages_in c.args.self.now in
    let j = g.M.MessageReader.judging m in
    none_left_if (IsGivenTo m) j.holds j.reads c.args.self.now (∥∥₁_map c.args.self.now.stands (λ b. (b.0, b.1, b.2, (b.3, refl)))) _ _ c.push_with-used.result.used c.push_with-used.result.answer c.advance.ensures.items
    (λ limit s' stream i. (rw c.as_slice.ensures at c.push_with-used.ensures.answers) limit s' stream i.0) _ c.in-Ok.is

use Rattle.std.proofs.Common.{◌≡◌, ◌∙◌, ◌+◌, ◌-◌, length, take, drop, replicate, ap, sym, length-drop, arith}
use Rattle.std.proofs.lemmas.List.{length-take-le}
use borrow.Rule.Slice.PartMut.{put_mid}
use Rattle.cobs.specs.InPlace.{written_over}
use Rattle.cobs.proofs.MaskingLemmas.{masked_zero}
use Rattle.cobs.proofs.StandingLemmas.{row_put}
use Rattle.cobs.proofs.moves.row_over.Goals as goal

pub returns-then-n-eq64 : goal.returns-then-n-eq64
returns-then-n-eq64 c =
    c.store.ensures
    ∙ ap (λ b. written_over c.args.place b c.args.buffer.now) (masked_zero (replicate 64 c.args.byte))
    ∙ ap (λ k. written_over c.args.place (replicate k c.args.byte) c.args.buffer.now) (sym c.if-n-eq64.true)

pub returns-else-n-eq64 : goal.returns-else-n-eq64
returns-else-n-eq64 c =
    let place = c.args.place in
    let n = c.args.n in
    let old = c.args.buffer.now in
    let k = place + n - place in
    let same : k ≡ n = omega arith in
    let long : length (take k (drop place old)) ≡ n = length-take-le k (drop place old) (omega (arith, length-drop place old, c.requires)) ∙ same in
    ap (put_mid place k old) (c.fill.ensures.after (λ y e. e) ∙ ap (λ j. replicate j c.args.byte) long)
    ∙ ap (λ j. put_mid place j old (replicate n c.args.byte)) same
    ∙ sym (row_put place n c.args.byte old)

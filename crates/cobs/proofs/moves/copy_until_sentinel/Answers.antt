use Rattle.std.proofs.Common.{◌≡◌, ◌+◌, length, take, set, get_or, ap, ◌∙◌, ◌∷◌, [], sym, subst, arith}
use Rattle.std.proofs.lemmas.List.{take_more, length-take-le}
use Rattle.std.specs.Prelude.{bit_xor}
use Rattle.cobs.specs.Frames.{NoZero}
use Rattle.cobs.specs.InPlace.{written_over}
use Rattle.cobs.specs.Sentinel.{masked}
use Rattle.cobs.proofs.EncodingLemmas.{nonzero_push}
use Rattle.cobs.proofs.MaskingLemmas.{masked_length, masked_append}
use Rattle.cobs.proofs.SourcesLemmas.{masked_positive}
use Rattle.cobs.proofs.WindowsLemmas.{written_next}
use Rattle.cobs.proofs.moves.copy_until_sentinel.Goals as goal

pub loop-end-preserved : goal.loop-end-preserved
loop-end-preserved c =
    let s = c.args.sentinel in
    let m = c.args.bytes.now in
    let i = c.loop-end.end in
    let old = c.args.buffer.now in
    let done = masked s (take i m) in
    let x = bit_xor s (get_or m i 0) in
    let long : length done ≡ i = masked_length s (take i m) ∙ length-take-le i m (omega (arith, c.loop-end-test.true)) in
    let next = sym (ap (masked s) (take_more m i 0 c.loop-end-test.true) ∙ masked_append s (take i m) (get_or m i 0 ∷ [])) in
    record {
      clear = subst NoZero next (nonzero_push done x c.loop-end.invariant.clear (masked_positive s (get_or m i 0) c.if-byte-sentinel.false));
      copied = ap (λ b. set b (c.args.place + i) x) c.loop-end.invariant.copied
          ∙ ap (λ j. set (written_over c.args.place done old) j x) (omega (arith, long))
          ∙ written_next done old c.args.place x (omega (arith, long, c.requires, c.loop-end-test.true))
          ∙ ap (λ b. written_over c.args.place b old) next;
    }

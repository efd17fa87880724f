use Rattle.std.specs.Prelude.{bit_xor}
use Rattle.std.proofs.Common.{◌≡◌, ◌+◌, ◌-◌, length, take, drop, set, replicate, ap, refl, sym, ◌∙◌, arith, length-drop}
use Rattle.std.proofs.lemmas.List.{length-take-le}
use borrow.Rule.Slice.PartMut.{put_mid}
use Rattle.cobs.specs.Sentinel.{masked}
use Rattle.cobs.proofs.CodingLemmas.{zeros_at}
use Rattle.cobs.proofs.MaskingLemmas.{masked_length, masked_put, masked_mid, masked_row}
use Rattle.cobs.proofs.StandingLemmas.{row_put}
use Rattle.cobs.proofs.codes.put_codes_of_zeros.Goals as goal

pub returns : goal.returns
returns c =
    let s = c.args.sentinel in
    let from = c.args.at.len in
    let n = c.args.n in
    let old = c.args.dest.now in
    let piece = masked s (take n (drop from old)) in
    let long : length piece ≡ n = masked_length s (take n (drop from old)) ∙ length-take-le n (drop from old) (omega (arith, length-drop from old, c.requires.block.within)) in
    let code = bit_xor s (from - c.args.at.code_at) in
    let is : masked s c.row_over.new.buffer ≡ put_mid from n (set (masked s old) c.args.at.code_at (from - c.args.at.code_at)) (replicate n 1) =
    ap (masked s) (c.row_over.ensures ∙ row_put from n (bit_xor s 1) (set old c.args.at.code_at code))
    ∙ masked_mid s from n (set old c.args.at.code_at code) (replicate n (bit_xor s 1))
    ∙ ap (λ b. put_mid from n b (masked s (replicate n (bit_xor s 1)))) (masked_put s old c.args.at.code_at (from - c.args.at.code_at))
    ∙ ap (put_mid from n (set (masked s old) c.args.at.code_at (from - c.args.at.code_at))) (masked_row s n 1) in
    record {
      begins = omega (arith, c.requires.block.some, long);
      later = omega (arith, c.requires.block.some, c.requires.block.begins);
      coding = λ m more h.
          rw is (zeros_at (masked s old) c.args.at.code_at from n (from + n - 1) (from + length piece) m piece more (replicate n 1) (omega (arith, long, c.requires.block.some)) (λ k l. c.requires.zeros k (omega (arith, l, long)))
          (ap (λ k. replicate k 1) (sym long)) (sym long) (omega (arith, long, c.requires.block.some)) refl h);
    }

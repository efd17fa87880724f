use Rattle.std.proofs.Common.{◌∙◌, arith}
use Rattle.cobs.specs.Sentinel.{masked}
use Rattle.cobs.proofs.LanesLemmas.{all_clear, lanes_long, masked_lanes}
use Rattle.cobs.proofs.moves.is_clear_255.Goals as goal

pub least_of_four-requires : goal.least_of_four-requires
least_of_four-requires c =
    let s = c.args.sentinel in
    let m = c.args.bytes.now in (
      lanes_long s 0 m _ (omega (arith, c.requires)) c.load_masked-first.ensures,
      lanes_long s 64 m _ (omega (arith, c.requires)) c.load_masked-second.ensures,
      lanes_long s 128 m _ (omega (arith, c.requires)) c.load_masked-third.ensures,
      lanes_long s 191 m _ (omega (arith, c.requires)) c.load_masked-fourth.ensures,
    )

pub is_positive-requires : goal.is_positive-requires
is_positive-requires c = c.least_of_four.ensures.long

pub returns : goal.returns
returns c = λ t.
    let s = c.args.sentinel in
    let m = c.args.bytes.now in
    all_clear 64 128 191 255 (masked s m) c.load_masked-first.result c.load_masked-second.result c.load_masked-third.result c.load_masked-fourth.result
    (omega arith) (omega arith) (omega arith) (omega arith) (c.least_of_four.ensures.lanes (c.is_positive.ensures t))
    (c.load_masked-first.ensures ∙ masked_lanes s 0 m) (c.load_masked-second.ensures ∙ masked_lanes s 64 m)
    (c.load_masked-third.ensures ∙ masked_lanes s 128 m) (c.load_masked-fourth.ensures ∙ masked_lanes s 191 m)

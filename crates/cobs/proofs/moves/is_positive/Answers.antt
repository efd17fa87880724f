use Rattle.std.proofs.Common.{◌≡◌, ◌∙◌, ◌++◌, sym, eqb, take, drop, ap, length, length-drop, w8, arith}
use Rattle.std.proofs.lemmas.Bool.{eqb-true}
use Rattle.std.proofs.lemmas.List.{length-take-le}
use Rattle.std.proofs.lemmas.Simd.{bitmask_splat, pick_l_left, pick_l-range_with_len}
use Rattle.std.specs.List.{range_with_len}
use Rattle.std.specs.Simd.Lanes.{pick_l}
use Rattle.cobs.proofs.LanesLemmas.{halves_positive, lesser_of, lesser_length}
use Rattle.cobs.proofs.moves.is_positive.Goals as goal

pub returns : goal.returns
returns c = λ t.
    let lanes = c.args.lanes in
    let low = pick_l 0 (lanes ++ lanes) (range_with_len 0 32) in
    let high = pick_l 0 (lanes ++ lanes) (range_with_len 32 32) in
    let is_low : low ≡ take 32 (drop 0 lanes) =
    pick_l_left 0 lanes lanes 64 (range_with_len 0 32) c.requires tt ∙ pick_l-range_with_len 0 lanes 0 32 (omega (arith, c.requires)) in
    let is_high : high ≡ take 32 (drop 32 lanes) =
    pick_l_left 0 lanes lanes 64 (range_with_len 32 32) c.requires tt ∙ pick_l-range_with_len 0 lanes 32 32 (omega (arith, c.requires)) in
    let long_low : length low ≡ 32 = ap length is_low ∙ length-take-le 32 (drop 0 lanes) (omega (arith, c.requires)) in
    let long_high : length high ≡ 32 = ap length is_high ∙ length-take-le 32 (drop 32 lanes) (omega (arith, c.requires, length-drop 32 lanes)) in
    halves_positive lanes low high c.requires is_low is_high
    (sym (bitmask_splat w8 eqb (lesser_of low high) 32 0 (lesser_length low high (long_low ∙ sym long_high) ∙ long_low) (omega arith)) ∙ eqb-true _ _ t)

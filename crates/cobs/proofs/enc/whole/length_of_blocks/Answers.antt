use Rattle.std.proofs.lemmas.Grind.{common_steps}
use Rattle.std.proofs.Common.{◌≡◌, ◌<◌, ◌∙◌, get_or, length, take, length-take, ap, arith}
use Rattle.std.proofs.lemmas.Bool.{eqb-true}
use Rattle.std.proofs.lemmas.List.{take_rest, get_or-take}
use Rattle.cobs.specs.Sentinel.{masked}
use Rattle.cobs.proofs.LengthsLemmas.{counted_none, counted_zero, counted_full, counted_few, counted_all, frame_at_most}
use Rattle.cobs.proofs.MaskingLemmas.{masked_zero}
use Rattle.cobs.proofs.enc.whole.length_of_blocks.Goals as goal

pub loop-rest-init : goal.loop-rest-init
loop-rest-init c = counted_none c.args.source.now

pub overflow_add-full_runs : goal.overflow_add-full_runs
overflow_add-full_runs c = omega (arith, counted_few _ _ _ c.loop-rest.invariant, frame_at_most c.args.source.now)

pub overflow_add-full_runs-in-None : goal.overflow_add-full_runs-in-None
overflow_add-full_runs-in-None c = omega (arith, counted_few _ _ _ c.loop-rest.invariant, frame_at_most c.args.source.now)

pub overflow_add-result-2 : goal.overflow_add-result-2
overflow_add-result-2 c = omega (arith, counted_all c.args.source.now _ _ (omega arith) c.loop-rest.invariant, frame_at_most c.args.source.now)

pub loop-rest-preserved-in-Some : goal.loop-rest-preserved-in-Some
loop-rest-preserved-in-Some c =
    let found = c.in-Some.ensures in
    rw take_rest (counted_zero _ _ _ _ c.in-Some.zero (omega arith) c.split_at.ensures.front found.0.high found.1 c.loop-rest.invariant)

pub loop-rest-preserved-then-is_clear_255 : goal.loop-rest-preserved-then-is_clear_255
loop-rest-preserved-then-is_clear_255 c =
    let rest = c.loop-rest.rest.now in
    let run = c.split_at.result.0.now in
    rw c.split_at.ensures.back (counted_full _ _ _ _ (omega arith) c.split_at.ensures.front (λ k l t.
    let few : k < 254 = omega (arith, l, ap length c.split_at.ensures.front, length-take 254 rest) in
    let here : get_or run k 0 ≡ get_or rest k 0 = ap (λ b. get_or b k 0) c.split_at.ensures.front ∙ get_or-take 254 rest k 0 few in
    let seen : get_or (masked 0 (take 255 rest)) k 0 ≡ get_or rest k 0 = ap (λ b. get_or b k 0) (masked_zero (take 255 rest)) ∙ get_or-take 255 rest k 0 (omega (arith, few)) in
    omega (arith, here, seen, eqb-true _ _ t, c.is_clear_255.ensures c.if-is_clear_255.true k (omega (arith, few)))) c.loop-rest.invariant)

pub loop-rest-preserved : goal.loop-rest-preserved
loop-rest-preserved c =
    rw c.split_at.ensures.back (counted_full _ _ _ _ (omega arith) c.split_at.ensures.front (λ k l. c.in-None.ensures k (omega arith) l) c.loop-rest.invariant)

pub returns : goal.returns
returns c = counted_all c.args.source.now _ _ (omega arith) c.loop-rest.invariant

pub split_at-requires : goal.split_at-requires
split_at-requires c = omega (arith, c.loop-rest-test.true)

pub is_clear_255-requires : goal.is_clear_255-requires
is_clear_255-requires c = omega (arith, c.loop-rest-test.true, length-take 255 c.loop-rest.rest.now)

pub loop-rest-smaller-then-is_clear_255 : goal.loop-rest-smaller-then-is_clear_255
loop-rest-smaller-then-is_clear_255 c = grind (arith, common_steps)

pub memrchr-requires : goal.memrchr-requires
memrchr-requires c = grind (arith, common_steps)

pub overflow_add-rest : goal.overflow_add-rest
overflow_add-rest c = grind (arith, common_steps)

pub slice_bounds-rest-count : goal.slice_bounds-rest-count
slice_bounds-rest-count c = grind (arith, common_steps)

pub slice_bounds-rest-start : goal.slice_bounds-rest-start
slice_bounds-rest-start c = grind (arith, common_steps)

pub slice_bounds-rest-end : goal.slice_bounds-rest-end
slice_bounds-rest-end c = grind (arith, common_steps)

pub loop-rest-smaller-in-Some : goal.loop-rest-smaller-in-Some
loop-rest-smaller-in-Some c = grind (arith, common_steps)

pub loop-rest-smaller : goal.loop-rest-smaller
loop-rest-smaller c = grind (arith, common_steps)

pub overflow_add-result : goal.overflow_add-result
overflow_add-result c = grind (arith, common_steps)

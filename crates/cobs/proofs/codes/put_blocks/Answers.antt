use Rattle.std.proofs.Common.{refl, arith, rules}
use Rattle.std.proofs.lemmas.List.{take_rest}
use Rattle.std.proofs.lemmas.Grind.{common_steps}
use Rattle.cobs.specs.Held.{pushed}
use Rattle.cobs.specs.Sentinel.{masked}
use Rattle.cobs.proofs.BlocksLemmas.{went_all, went_nowhere, goes_further}
use Rattle.cobs.proofs.MaskingLemmas.{masked_length}
use Rattle.cobs.proofs.codes.put_blocks.Goals as goal

pub loop-rest-init : goal.loop-rest-init
loop-rest-init g c = record { holds = c.requires; pushed_so_far = refl }

pub overflow_sub-dest : goal.overflow_sub-dest
overflow_sub-dest g c = omega (arith, masked_length c.args.sentinel c.loop-rest.dest, c.loop-rest.invariant.holds.laid.within)

pub open_block-open-requires-clause-room : goal.open_block-open-requires-clause-room
open_block-open-requires-clause-room g c = grind (arith, common_steps)

pub overflow_sub-dest-in-loop-rest : goal.overflow_sub-dest-in-loop-rest
overflow_sub-dest-in-loop-rest g c = omega (arith, masked_length c.args.sentinel c.open_block-open.new.dest, c.open_block-open.ensures.laid.within)

pub returns-then-dest-place : goal.returns-then-dest-place
returns-then-dest-place g c =
    went_nowhere (masked c.args.sentinel c.args.dest.now) c.args.bytes.now _ c.loop-rest.rest.now
    (pushed (masked c.args.sentinel c.loop-rest.dest) c.loop-rest.place.len) _ c.args.at.len _ _
    c.loop-rest.invariant.holds.laid c.loop-rest.invariant.holds.goes_on (search rules)
    (omega (arith, masked_length c.args.sentinel c.args.dest.now)) c.loop-rest.invariant.pushed_so_far

pub open_block-open-requires-clause-holds : goal.open_block-open-requires-clause-holds
open_block-open-requires-clause-holds g c = c.loop-rest.invariant.holds

pub returns-then-dest-open : goal.returns-then-dest-open
returns-then-dest-open g c =
    went_nowhere (masked c.args.sentinel c.args.dest.now) c.args.bytes.now _ c.loop-rest.rest.now
    (pushed (masked c.args.sentinel c.loop-rest.dest) c.loop-rest.place.len) _ c.args.at.len _ _
    c.open_block-open.ensures.laid c.open_block-open.ensures.goes_on (search rules)
    (omega (arith, masked_length c.args.sentinel c.args.dest.now)) c.loop-rest.invariant.pushed_so_far

pub put_run-place-requires : goal.put_run-place-requires
put_run-place-requires g c = record {
  laid = c.open_block-open.ensures.laid;
  room = grind (arith, common_steps);
  short = grind (arith, common_steps);
  some = grind (arith, common_steps);
}

pub loop-rest-preserved : goal.loop-rest-preserved
loop-rest-preserved g c =
    let s = c.args.sentinel in
    let there = c.open_block-open.result in
    let step = goes_further (masked s c.args.dest.now) c.args.bytes.now (masked s c.open_block-open.new.dest) c.loop-rest.rest.now
    (pushed (masked s c.loop-rest.dest) c.loop-rest.place.len) (masked s c.put_run-place.new.dest) c.args.at.len there.code_at there.len
    c.put_run-place.result.code_at c.put_run-place.result.len c.min-n.result
    c.open_block-open.ensures.goes_on c.put_run-place.ensures.holds c.loop-rest.invariant.pushed_so_far in
    record { holds = step.0; pushed_so_far = rw take_rest step.1 }

pub returns : goal.returns
returns g c = went_all _ _ c.loop-rest.rest.now _ _ _ _ c.loop-rest.invariant.holds c.loop-rest.invariant.pushed_so_far (search rules)

pub overflow_add-open : goal.overflow_add-open
overflow_add-open g c = grind (arith, common_steps)

pub overflow_sub-open : goal.overflow_sub-open
overflow_sub-open g c = grind (arith, common_steps)

pub loop-rest-smaller : goal.loop-rest-smaller
loop-rest-smaller g c = grind (arith, common_steps)

pub slice_bounds-put_run-end : goal.slice_bounds-put_run-end
slice_bounds-put_run-end g c = grind (arith, common_steps)

pub slice_bounds-rest-start : goal.slice_bounds-rest-start
slice_bounds-rest-start g c = grind (arith, common_steps)

pub slice_bounds-rest-count : goal.slice_bounds-rest-count
slice_bounds-rest-count g c = grind (arith, common_steps)

pub slice_bounds-rest-end : goal.slice_bounds-rest-end
slice_bounds-rest-end g c = grind (arith, common_steps)

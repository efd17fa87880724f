use Rattle.std.proofs.lemmas.Grind.{common_steps}
use Rattle.std.proofs.Common.{◌≡◌, ◌+◌, ◌-◌, ◌≤◌, ℕ, List, ◌++◌, length, take, drop, length-take, length-drop, ap, sym, ◌∙◌, refl, arith}
use Rattle.std.proofs.lemmas.List.{take-take, take-append-drop, take_all}
use Rattle.cobs.specs.InPlace.{written_over}
use Rattle.cobs.specs.Sentinel.{masked}
use Rattle.cobs.proofs.MaskingLemmas.{masked_take, masked_length}
use Rattle.cobs.proofs.LanesLemmas.{lanes_long}
use Rattle.cobs.proofs.SearchingLemmas.{none_on, none_then, end_on}
use Rattle.cobs.proofs.WrittenLemmas.{written_next}
use Rattle.cobs.proofs.dec.window.copy_until.Goals as goal

-- a further part was written
more : (s place at m n : ℕ) (bytes old mid new : List ℕ) → mid ≡ written_over place (masked s (take at bytes)) old → n ≤ m → at + n ≤ length bytes → place + length bytes ≤ length old
    → new ≡ written_over (place + at) (take n (masked s (take m (drop at bytes)))) mid → new ≡ written_over place (masked s (take (at + n) bytes)) old
more s place at m n bytes old mid new e few w room h =
    h ∙ ap (λ b. written_over (place + at) b mid) (masked_take s n (take m (drop at bytes)))
    ∙ written_next s place at at n (place + at) bytes (take n (take m (drop at bytes))) old mid e (take-take n m (drop at bytes) few) (omega arith) (omega arith) w room refl

pub loop-at-init : goal.loop-at-init
loop-at-init c = record {
  within = omega arith;
  none = λ k l. absurd (omega (arith, l));
  written = sym (ap (λ j. take c.args.place c.args.buffer.now ++ drop j c.args.buffer.now) (omega arith) ∙ take-append-drop c.args.place c.args.buffer.now);
}

pub is_positive-requires : goal.is_positive-requires
is_positive-requires c =
    lanes_long c.args.sentinel c.loop-at.at c.args.bytes.now _ (omega (arith, c.loop-at-test.true, c.loop-at.invariant.within)) c.load_masked.ensures

pub loop-at-preserved-then-is_positive : goal.loop-at-preserved-then-is_positive
loop-at-preserved-then-is_positive c =
    let s = c.args.sentinel in
    let at = c.loop-at.at in
    let bytes = c.args.bytes.now in
    let room : 64 ≤ length bytes - at = c.loop-at-test.true in
    let front = take 64 (drop at bytes) in
    let long : length front ≡ 64 = omega (arith, length-take 64 (drop at bytes), length-drop at bytes, room) in
    let all : take 64 (masked s front) ≡ masked s front = take_all 64 (masked s front) (omega (arith, masked_length s front, long)) in
    record {
      within = omega (arith, room, c.loop-at.invariant.within);
      none = none_then s at bytes _ c.loop-at.invariant.none room c.load_masked.ensures (c.is_positive.ensures c.if-is_positive.true);
      written =
          more s c.args.place at 64 64 bytes c.args.buffer.now c.loop-at.buffer c.copy_64.new.to c.loop-at.invariant.written (omega arith) (omega (arith, room, c.loop-at.invariant.within)) c.requires
          (c.copy_64.ensures.copied ∙ ap (λ b. written_over (c.args.place + at) b c.loop-at.buffer) (sym all));
    }

pub loop-at-preserved : goal.loop-at-preserved
loop-at-preserved c =
    let s = c.args.sentinel in
    let at = c.loop-at.at in
    let bytes = c.args.bytes.now in
    let m : ℕ = at + 64 - at in
    let n = c.copy_few_until-n.result in
    let long : length (take m (drop at bytes)) ≤ 64 = omega (arith, length-take m (drop at bytes)) in
    let all : n ≡ 64 = omega (arith, c.if-n-lt64.false, c.copy_few_until-n.ensures.stops.within, long) in
    record {
      within = omega (arith, c.loop-at-test.true, c.loop-at.invariant.within);
      none = λ k l. none_on s at n m bytes c.loop-at.invariant.none (omega (arith, all)) c.copy_few_until-n.ensures.stops.none k (omega (arith, l, all));
      written =
          more s c.args.place at m n bytes c.args.buffer.now c.loop-at.buffer c.copy_few_until-n.new.buffer c.loop-at.invariant.written (omega (arith, all)) (omega (arith, all, c.loop-at-test.true, c.loop-at.invariant.within)) c.requires c.copy_few_until-n.ensures.buffer
          ∙ ap (λ j. written_over c.args.place (masked s (take (at + j) bytes)) c.args.buffer.now) all;
    }

pub returns-then-n-lt64-clause-buffer : goal.returns-then-n-lt64-clause-buffer
returns-then-n-lt64-clause-buffer c =
    let s = c.args.sentinel in
    let at = c.loop-at.at in
    let n = c.copy_few_until-n.result in
    more s c.args.place at (at + 64 - at) n c.args.bytes.now c.args.buffer.now c.loop-at.buffer c.copy_few_until-n.new.buffer c.loop-at.invariant.written (omega (arith, c.if-n-lt64.true)) (omega (arith, c.if-n-lt64.true, c.loop-at-test.true, c.loop-at.invariant.within)) c.requires c.copy_few_until-n.ensures.buffer
    ∙ ap (λ b. written_over c.args.place b c.args.buffer.now) (sym (masked_take s (at + n) c.args.bytes.now))

pub returns-clause-buffer : goal.returns-clause-buffer
returns-clause-buffer c =
    let at = c.loop-at.at in
    let bytes = c.args.bytes.now in
    let n = c.copy_few_until.result in
    let few : n ≤ length bytes - at = omega (arith, c.copy_few_until.ensures.stops.within, length-take (length bytes - at) (drop at bytes)) in
    more c.args.sentinel c.args.place at (length bytes - at) n bytes c.args.buffer.now c.loop-at.buffer c.copy_few_until.new.buffer c.loop-at.invariant.written few (omega (arith, few, c.loop-at.invariant.within)) c.requires c.copy_few_until.ensures.buffer
    ∙ ap (λ b. written_over c.args.place b c.args.buffer.now) (sym (masked_take c.args.sentinel (at + n) bytes))

pub overflow_sub-bytes : goal.overflow_sub-bytes
overflow_sub-bytes c = grind (arith, common_steps)

pub overflow_add-at : goal.overflow_add-at
overflow_add-at c = grind (arith, common_steps)

pub overflow_add-place : goal.overflow_add-place
overflow_add-place c = grind (arith, common_steps)

pub overflow_add-at-in-loop-at : goal.overflow_add-at-in-loop-at
overflow_add-at-in-loop-at c = grind (arith, common_steps)

pub slice_bounds-copy_few_until-count : goal.slice_bounds-copy_few_until-count
slice_bounds-copy_few_until-count c = grind (arith, common_steps)

pub slice_bounds-copy_few_until-start : goal.slice_bounds-copy_few_until-start
slice_bounds-copy_few_until-start c = grind (arith, common_steps)

pub slice_bounds-copy_few_until-end : goal.slice_bounds-copy_few_until-end
slice_bounds-copy_few_until-end c = grind (arith, common_steps)

pub overflow_add-place-in-loop-at : goal.overflow_add-place-in-loop-at
overflow_add-place-in-loop-at c = grind (arith, common_steps)

pub copy_few_until-n-requires-clause-few : goal.copy_few_until-n-requires-clause-few
copy_few_until-n-requires-clause-few c = grind (arith, common_steps)

pub copy_few_until-n-requires-clause-room : goal.copy_few_until-n-requires-clause-room
copy_few_until-n-requires-clause-room c = grind (arith, common_steps)

pub overflow_add-result : goal.overflow_add-result
overflow_add-result c = grind (arith, common_steps)

pub overflow_add-at-in-loop-at-2 : goal.overflow_add-at-in-loop-at-2
overflow_add-at-in-loop-at-2 c = grind (arith, common_steps)

pub loop-at-smaller : goal.loop-at-smaller
loop-at-smaller c = grind (arith, common_steps)

pub slice_bounds-copy_few_until-count-2 : goal.slice_bounds-copy_few_until-count-2
slice_bounds-copy_few_until-count-2 c = grind (arith, common_steps)

pub slice_bounds-copy_few_until-start-2 : goal.slice_bounds-copy_few_until-start-2
slice_bounds-copy_few_until-start-2 c = grind (arith, common_steps)

pub slice_bounds-copy_few_until-end-2 : goal.slice_bounds-copy_few_until-end-2
slice_bounds-copy_few_until-end-2 c = grind (arith, common_steps)

pub overflow_add-place-2 : goal.overflow_add-place-2
overflow_add-place-2 c = grind (arith, common_steps)

pub copy_few_until-requires-clause-few : goal.copy_few_until-requires-clause-few
copy_few_until-requires-clause-few c = grind (arith, common_steps)

pub copy_few_until-requires-clause-room : goal.copy_few_until-requires-clause-room
copy_few_until-requires-clause-room c = grind (arith, common_steps)

pub overflow_add-result-2 : goal.overflow_add-result-2
overflow_add-result-2 c = grind (arith, common_steps)

pub returns-then-n-lt64-clause-stops : goal.returns-then-n-lt64-clause-stops
returns-then-n-lt64-clause-stops c =
    let at = c.loop-at.at in
    let bytes = c.args.bytes.now in
    let e = c.copy_few_until-n.ensures.stops in
    record {
      within = omega (arith, c.loop-at-test.true, c.loop-at.invariant.within, c.if-n-lt64.true);
      none = none_on c.args.sentinel at c.copy_few_until-n.result (at + 64 - at) bytes c.loop-at.invariant.none (omega (arith, c.if-n-lt64.true)) e.none;
      end = λ _. end_on c.args.sentinel at c.copy_few_until-n.result (at + 64 - at) bytes (omega (arith, c.if-n-lt64.true, c.loop-at-test.true)) (omega (arith, c.if-n-lt64.true)) e.end;
    }

pub returns-clause-stops : goal.returns-clause-stops
returns-clause-stops c =
    let at = c.loop-at.at in
    let bytes = c.args.bytes.now in
    let e = c.copy_few_until.ensures.stops in
    let few : c.copy_few_until.result ≤ length bytes - at = omega (arith, e.within, length-take (length bytes - at) (drop at bytes)) in
    record {
      within = omega (arith, few, c.loop-at.invariant.within);
      none = none_on c.args.sentinel at c.copy_few_until.result (length bytes - at) bytes c.loop-at.invariant.none few e.none;
      end = λ l. end_on c.args.sentinel at c.copy_few_until.result (length bytes - at) bytes (omega (arith, l)) (omega (arith, l)) e.end;
    }

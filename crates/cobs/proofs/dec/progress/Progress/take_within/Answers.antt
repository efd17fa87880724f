use Rattle.std.proofs.lemmas.Grind.{common_steps}
use Rattle.std.proofs.Common.{◌≡◌, ◌≢◌, ◌+◌, ◌-◌, ◌<◌, ◌≤◌, ℕ, List, true, length, take, drop, get_or, length-drop, sym, ◌∙◌, ap, subst, arith}
use Rattle.std.proofs.lemmas.List.{length-take-le, take-take}
use Rattle.cobs.specs.Feeding.{stands_by}
use Rattle.cobs.specs.Frames.{part_from, after}
use Rattle.cobs.specs.InPlace.{written_over}
use Rattle.cobs.specs.Sentinel.{masked}
use Rattle.cobs.specs.Taking.{Owes}
use Rattle.cobs.specs.declared.dec.state.DecoderState.TheVariants.{Grab, GrabChain}
use Rattle.cobs.proofs.AtOnceLemmas.{ones_in, none_ahead, masked_within, nonzero_in, row_written, window_written, chain_written}
use Rattle.cobs.proofs.MaskingLemmas.{masked_length}
use Rattle.cobs.proofs.WithinLemmas.{written_part, written_anew}
use Rattle.cobs.proofs.TakesLemmas.{none_front, owes_idle, owes_chain}
use Rattle.cobs.proofs.dec.progress.Progress.take_within.Goals as goal

-- The bytes of a buffer from a place on up to another one, of which none is the sentinel, and the first n of them.
module _ (key read end n len : ℕ) (old mid : List ℕ) (inside : end ≤ length old) (some : read ≤ end) (behind : len ≤ read) (few : n ≤ end - read)
    (clear : (k : ℕ) → read ≤ k → k < end → get_or old k 0 ≢ key) where
  abbrev ahead : List ℕ
  ahead = take (end - read) (drop read old)

  within : n ≤ length ahead
  within = omega (arith, length-take-le (end - read) (drop read old) (omega (arith, length-drop read old, inside)), few)

  room : len + n ≤ length old
  room = omega (arith, inside, some, behind, few)

  none : (k : ℕ) → k < n → get_or ahead k 0 ≢ key
  none k l = none_ahead key read end old clear k (omega (arith, l, few))

  long : length (masked key (take n ahead)) ≡ n
  long = masked_length key (take n ahead) ∙ length-take-le n ahead within

  -- they were moved
  module _ (m : mid ≡ written_over len (masked key (take n (drop read old))) old) where
    moved : mid ≡ written_over len (masked key (take n ahead)) old
    moved = m ∙ ap (λ b. written_over len (masked key b) old) (sym (take-take n (end - read) (drop read old) few))

    there : (k : ℕ) → k ≡ n → take k (drop len mid) ≡ masked key (take n ahead)
    there k e = ap (λ b. take k (drop len b)) moved ∙ written_part len k (masked key (take n ahead)) old (e ∙ sym long) (omega (arith, inside, some, behind))

-- codes 01
pub returns-then-row-gt0-clause-front : goal.returns-then-row-gt0-clause-front
returns-then-row-gt0-clause-front c p s =
    let r = c.requires in
    let n = c.same_by_64-row.result in
    let key = c.args.sentinel in
    let old = c.args.buffer.now in
    let piece : List ℕ = take (c.args.end - c.args.read) (drop c.args.read old) in
    let e = c.same_by_64-row.ensures in
    let few : n ≤ c.args.end - c.args.read = omega (arith, e.within, length-take-le (c.args.end - c.args.read) (drop c.args.read old) (omega (arith, length-drop c.args.read old, r.inside))) in
    row_written p (masked key piece) old c.zero_over.new.buffer c.args.self.now n s (c.in-Grab.is ∙ ap (λ k. Grab k) c.if-left-eq0.true)
    (masked_within key n piece e.within) (ones_in key n piece e.within e.same)
    (room key c.args.read c.args.end n c.args.self.now.len old old r.inside r.some r.behind few r.clear) (omega arith) c.zero_over.ensures

pub put_zeros-self-requires-clause-nonzero : goal.put_zeros-self-requires-clause-nonzero
put_zeros-self-requires-clause-nonzero c = λ j l.
    let r = c.requires in
    let n = c.min-n.result in
    let key = c.args.sentinel in
    let old = c.args.buffer.now in
    let len = c.args.self.now.len in
    let few : n ≤ c.args.end - c.args.read = omega arith in
    let piece : List ℕ = take (c.args.end - c.args.read) (drop c.args.read old) in
    let is = there key c.args.read c.args.end n len old c.move_down.new.buffer r.inside r.some r.behind few r.clear c.move_down.ensures (len + n - len) (omega arith) in
    rw is (nonzero_in key n piece (none key c.args.read c.args.end n len old old r.inside r.some r.behind few r.clear) j (omega (arith, l, ap length is, masked_length key (take n piece))))

pub returns-after-left-eq0-clause-front : goal.returns-after-left-eq0-clause-front
returns-after-left-eq0-clause-front c p s =
    let r = c.requires in
    let n = c.min-n.result in
    let key = c.args.sentinel in
    let old = c.args.buffer.now in
    let read = c.args.read in
    let end = c.args.end in
    let len = c.args.self.now.len in
    let left = c.in-Grab.left in
    let mid = c.move_down.new.buffer in
    let few : n ≤ end - read = omega arith in
    let piece : List ℕ = take (end - read) (drop read old) in
    let fits = room key read end n len old old r.inside r.some r.behind few r.clear in
    let is = there key read end n len old mid r.inside r.some r.behind few r.clear c.move_down.ensures (len + n - len) (omega arith) in
    let first = long key read end n len old old r.inside r.some r.behind few r.clear in
    let z = c.put_zeros-self in
    let count : length z.new.out ≡ n = z.auto.out ∙ ap length is ∙ first in
    window_written key p piece old _ c.args.self.now n left s (within key read end n len old old r.inside r.some r.behind few r.clear)
    (none key read end n len old old r.inside r.some r.behind few r.clear) fits (omega arith) z.new.out z.result c.in-Grab.is
    (z.ensures.out ∙ ap (part_from left true) is) count
    (written_anew len (len + n - len) _ z.new.out old mid (moved key read end n len old mid r.inside r.some r.behind few r.clear c.move_down.ensures)
    (count ∙ sym first) (omega (arith, count)) (omega (arith, first, fits)))
    (z.ensures.state ∙ ap (λ b. stands_by (after left true b)) is)

pub returns-in-GrabChain-clause-front : goal.returns-in-GrabChain-clause-front
returns-in-GrabChain-clause-front c p s =
    let r = c.requires in
    let n = c.min-n-in-GrabChain.result in
    let key = c.args.sentinel in
    let old = c.args.buffer.now in
    let read = c.args.read in
    let end = c.args.end in
    let len = c.args.self.now.len in
    let few : n ≤ end - read = omega arith in
    let piece : List ℕ = take (end - read) (drop read old) in
    chain_written key p piece old _ c.args.self.now n c.in-GrabChain.left s (within key read end n len old old r.inside r.some r.behind few r.clear)
    (none key read end n len old old r.inside r.some r.behind few r.clear) (room key read end n len old old r.inside r.some r.behind few r.clear) (omega arith)
    c.in-GrabChain.is (omega arith) (moved key read end n len old c.move_down-in-GrabChain.new.buffer r.inside r.some r.behind few r.clear c.move_down-in-GrabChain.ensures)

pub returns-in_default-clause-front : goal.returns-in_default-clause-front
returns-in_default-clause-front c p s = none_front p _ _ _ s

pub returns-in_default-2-clause-front : goal.returns-in_default-2-clause-front
returns-in_default-2-clause-front c p s = none_front p _ _ _ s

pub returns-then-row-gt0-clause-coded : goal.returns-then-row-gt0-clause-coded
returns-then-row-gt0-clause-coded c l z = absurd (omega (arith, c.if-row-gt0.true, z))

pub returns-after-left-eq0-clause-coded : goal.returns-after-left-eq0-clause-coded
returns-after-left-eq0-clause-coded c l z = absurd (omega arith)

pub returns-in-GrabChain-clause-coded : goal.returns-in-GrabChain-clause-coded
returns-in-GrabChain-clause-coded c l z = absurd (omega arith)

pub returns-in_default-clause-coded : goal.returns-in_default-clause-coded
returns-in_default-clause-coded c l z =
    let none : c.in-GrabChain.left ≡ 0 = omega (arith, c.if-left-gt0.false) in
    subst Owes (sym (c.in-GrabChain.is ∙ ap (λ k. GrabChain k) none)) owes_chain

pub returns-in_default-2-clause-coded : goal.returns-in_default-2-clause-coded
returns-in_default-2-clause-coded c l z = subst Owes (sym c.in_default.is) owes_idle

pub slice_bounds-same_by_64-count : goal.slice_bounds-same_by_64-count
slice_bounds-same_by_64-count c = grind (arith, common_steps)

pub slice_bounds-same_by_64-start : goal.slice_bounds-same_by_64-start
slice_bounds-same_by_64-start c = grind (arith, common_steps)

pub slice_bounds-same_by_64-end : goal.slice_bounds-same_by_64-end
slice_bounds-same_by_64-end c = grind (arith, common_steps)

pub same_by_64-row-requires : goal.same_by_64-row-requires
same_by_64-row-requires c = grind (arith, common_steps)

pub zero_over-requires-clause-many : goal.zero_over-requires-clause-many
zero_over-requires-clause-many c = grind (arith, common_steps)

pub zero_over-requires-clause-room : goal.zero_over-requires-clause-room
zero_over-requires-clause-room c = grind (arith, common_steps)

pub overflow_add-self : goal.overflow_add-self
overflow_add-self c = grind (arith, common_steps)

pub shape_of-buffer-then-row-gt0 : goal.shape_of-buffer-then-row-gt0
shape_of-buffer-then-row-gt0 c = grind (arith, common_steps)

pub returns-then-row-gt0-clause-within : goal.returns-then-row-gt0-clause-within
returns-then-row-gt0-clause-within c = grind (arith, common_steps)

pub overflow_sub-end : goal.overflow_sub-end
overflow_sub-end c = grind (arith, common_steps)

pub min-n-requires : goal.min-n-requires
min-n-requires c = grind (arith, common_steps)

pub move_down-requires-clause-within : goal.move_down-requires-clause-within
move_down-requires-clause-within c = grind (arith, common_steps)

pub move_down-requires-clause-down : goal.move_down-requires-clause-down
move_down-requires-clause-down c = grind (arith, common_steps)

pub overflow_add-len : goal.overflow_add-len
overflow_add-len c = grind (arith, common_steps)

pub slice_bounds-put_zeros-count : goal.slice_bounds-put_zeros-count
slice_bounds-put_zeros-count c = grind (arith, common_steps)

pub slice_bounds-put_zeros-start : goal.slice_bounds-put_zeros-start
slice_bounds-put_zeros-start c = grind (arith, common_steps)

pub slice_bounds-put_zeros-end : goal.slice_bounds-put_zeros-end
slice_bounds-put_zeros-end c = grind (arith, common_steps)

pub put_zeros-self-requires-clause-short : goal.put_zeros-self-requires-clause-short
put_zeros-self-requires-clause-short c = grind (arith, common_steps)

pub overflow_add-self-in-Grab : goal.overflow_add-self-in-Grab
overflow_add-self-in-Grab c = grind (arith, common_steps)

pub overflow_sub-end-in-GrabChain : goal.overflow_sub-end-in-GrabChain
overflow_sub-end-in-GrabChain c = grind (arith, common_steps)

pub min-n-requires-in-GrabChain : goal.min-n-requires-in-GrabChain
min-n-requires-in-GrabChain c = grind (arith, common_steps)

pub move_down-requires-in-GrabChain-clause-down : goal.move_down-requires-in-GrabChain-clause-down
move_down-requires-in-GrabChain-clause-down c = grind (arith, common_steps)

pub overflow_cast-self : goal.overflow_cast-self
overflow_cast-self c = grind (arith, common_steps)

pub overflow_sub-self : goal.overflow_sub-self
overflow_sub-self c = grind (arith, common_steps)

pub overflow_add-self-in-GrabChain : goal.overflow_add-self-in-GrabChain
overflow_add-self-in-GrabChain c = grind (arith, common_steps)

pub returns-after-left-eq0-clause-within : goal.returns-after-left-eq0-clause-within
returns-after-left-eq0-clause-within c = grind (arith, common_steps)

pub returns-in-GrabChain-clause-within : goal.returns-in-GrabChain-clause-within
returns-in-GrabChain-clause-within c = grind (arith, common_steps)

pub returns-in_default-clause-within : goal.returns-in_default-clause-within
returns-in_default-clause-within c = grind (arith, common_steps)

pub returns-in_default-2-clause-within : goal.returns-in_default-2-clause-within
returns-in_default-2-clause-within c = grind (arith, common_steps)

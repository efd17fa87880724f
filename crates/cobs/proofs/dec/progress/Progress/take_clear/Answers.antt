use Rattle.std.proofs.lemmas.Grind.{common_steps}
use Rattle.std.proofs.Common.{◌≡◌, ◌+◌, ◌-◌, ◌≤◌, true, length, take, ap, sym, ◌∙◌, subst, arith}
use Rattle.std.proofs.lemmas.List.{length-take-le}
use Rattle.cobs.specs.Feeding.{stands_by}
use Rattle.cobs.specs.Frames.{part_from, after}
use Rattle.cobs.specs.Sentinel.{masked}
use Rattle.cobs.specs.Taking.{Owes}
use Rattle.cobs.specs.declared.dec.state.DecoderState.TheVariants.{GrabChain}
use Rattle.cobs.proofs.AtOnceLemmas.{none_in, nonzero_in, written_there, window_written, chain_written}
use Rattle.cobs.proofs.MaskingLemmas.{masked_length}
use Rattle.cobs.proofs.WithinLemmas.{written_anew}
use Rattle.cobs.proofs.TakesLemmas.{none_front, owes_idle, owes_chain}
use Rattle.cobs.proofs.dec.progress.Progress.take_clear.Goals as goal

pub put_zeros-self-requires-clause-nonzero : goal.put_zeros-self-requires-clause-nonzero
put_zeros-self-requires-clause-nonzero c = λ j l.
    let n = c.min-n.result in
    let key = c.args.sentinel in
    let bytes = c.args.bytes.now in
    let len = c.args.self.now.len in
    let within : n ≤ length bytes = omega arith in
    let is = written_there key len n (len + n - len) bytes c.args.buffer.now _ within (omega (arith, c.requires.room, within)) c.copy_over.ensures (omega arith) in
    rw is (nonzero_in key n bytes (none_in key n bytes within c.requires.clear) j (omega (arith, l, ap length is, masked_length key (take n bytes))))

pub returns-in-Grab-clause-front : goal.returns-in-Grab-clause-front
returns-in-Grab-clause-front c p s =
    let n = c.min-n.result in
    let key = c.args.sentinel in
    let bytes = c.args.bytes.now in
    let old = c.args.buffer.now in
    let len = c.args.self.now.len in
    let left = c.in-Grab.left in
    let mid = c.copy_over.new.buffer in
    let within : n ≤ length bytes = omega arith in
    let fits : len + n ≤ length old = omega (arith, c.requires.room, within) in
    let is = written_there key len n (len + n - len) bytes old mid within fits c.copy_over.ensures (omega arith) in
    let first : length (masked key (take n bytes)) ≡ n = masked_length key (take n bytes) ∙ length-take-le n bytes within in
    let z = c.put_zeros-self in
    let count : length z.new.out ≡ n = z.auto.out ∙ ap length is ∙ first in
    window_written key p bytes old _ c.args.self.now n left s within (none_in key n bytes within c.requires.clear) fits (omega arith) z.new.out z.result c.in-Grab.is
    (z.ensures.out ∙ ap (part_from left true) is) count
    (written_anew len (len + n - len) _ z.new.out old mid c.copy_over.ensures (count ∙ sym first) (omega (arith, count)) (omega (arith, first, fits)))
    (z.ensures.state ∙ ap (λ b. stands_by (after left true b)) is)

pub returns-in-GrabChain-clause-front : goal.returns-in-GrabChain-clause-front
returns-in-GrabChain-clause-front c p s =
    let n = c.min-n-in-GrabChain.result in
    let piece = c.args.bytes.now in
    let within : n ≤ length piece = omega arith in
    chain_written c.args.sentinel p piece c.args.buffer.now _ c.args.self.now n c.in-GrabChain.left
    s within (none_in c.args.sentinel n piece within c.requires.clear)
    (omega (arith, c.requires.room, within)) (omega arith)
    c.in-GrabChain.is (omega arith) c.copy_block.ensures

pub returns-in_default-clause-front : goal.returns-in_default-clause-front
returns-in_default-clause-front c p s = none_front p _ _ _ s

pub returns-in_default-2-clause-front : goal.returns-in_default-2-clause-front
returns-in_default-2-clause-front c p s = none_front p _ _ _ s

pub returns-in-Grab-clause-coded : goal.returns-in-Grab-clause-coded
returns-in-Grab-clause-coded c l z = absurd (omega arith)

pub returns-in-GrabChain-clause-coded : goal.returns-in-GrabChain-clause-coded
returns-in-GrabChain-clause-coded c l z = absurd (omega arith)

pub returns-in_default-clause-coded : goal.returns-in_default-clause-coded
returns-in_default-clause-coded c l z =
    let none : c.in-GrabChain.left ≡ 0 = omega (arith, c.if-left-gt0.false) in
    subst Owes (sym (c.in-GrabChain.is ∙ ap (λ k. GrabChain k) none)) owes_chain

pub returns-in_default-2-clause-coded : goal.returns-in_default-2-clause-coded
returns-in_default-2-clause-coded c l z = subst Owes (sym c.in_default.is) owes_idle

pub min-n-requires : goal.min-n-requires
min-n-requires c = grind (arith, common_steps)

pub overflow_add-len : goal.overflow_add-len
overflow_add-len c = grind (arith, common_steps)

pub overflow_add-self : goal.overflow_add-self
overflow_add-self c = grind (arith, common_steps)

pub min-n-requires-in-GrabChain : goal.min-n-requires-in-GrabChain
min-n-requires-in-GrabChain c = grind (arith, common_steps)

pub slice_bounds-copy_block-end : goal.slice_bounds-copy_block-end
slice_bounds-copy_block-end c = grind (arith, common_steps)

pub copy_block-requires : goal.copy_block-requires
copy_block-requires c = grind (arith, common_steps)

pub overflow_cast-self : goal.overflow_cast-self
overflow_cast-self c = grind (arith, common_steps)

pub overflow_sub-self : goal.overflow_sub-self
overflow_sub-self c = grind (arith, common_steps)

pub overflow_add-self-in-GrabChain : goal.overflow_add-self-in-GrabChain
overflow_add-self-in-GrabChain c = grind (arith, common_steps)

pub returns-in-Grab-clause-within : goal.returns-in-Grab-clause-within
returns-in-Grab-clause-within c = grind (arith, common_steps)

pub returns-in-Grab-clause-len : goal.returns-in-Grab-clause-len
returns-in-Grab-clause-len c = grind (arith, common_steps)

pub returns-in-GrabChain-clause-within : goal.returns-in-GrabChain-clause-within
returns-in-GrabChain-clause-within c = grind (arith, common_steps)

pub returns-in-GrabChain-clause-len : goal.returns-in-GrabChain-clause-len
returns-in-GrabChain-clause-len c = grind (arith, common_steps)

pub returns-in_default-clause-within : goal.returns-in_default-clause-within
returns-in_default-clause-within c = grind (arith, common_steps)

pub returns-in_default-clause-len : goal.returns-in_default-clause-len
returns-in_default-clause-len c = grind (arith, common_steps)

pub returns-in_default-2-clause-within : goal.returns-in_default-2-clause-within
returns-in_default-2-clause-within c = grind (arith, common_steps)

pub returns-in_default-2-clause-len : goal.returns-in_default-2-clause-len
returns-in_default-2-clause-len c = grind (arith, common_steps)

use Rattle.std.proofs.Common.{[], ap, arith, get_or, length, set, sym, take, ◌+◌, ◌∙◌, ◌∷◌, ◌≡◌}
use Rattle.cobs.proofs.MaskingLemmas.{masked_length, masked_append}
use Rattle.cobs.proofs.WindowsLemmas.{written_next}
use Rattle.cobs.proofs.moves.copy_few.Goals as goal
use Rattle.cobs.specs.InPlace.{written_over}
use Rattle.cobs.specs.Sentinel.{masked}
use Rattle.std.proofs.lemmas.List.{take_more, length-take-le}
use Rattle.std.specs.Prelude.{bit_xor}

pub loop-i-preserved : goal.loop-i-preserved
loop-i-preserved c =
    let s = c.args.sentinel in
    let m = c.args.bytes.now in
    let i = c.loop-i.i in
    let old = c.args.buffer.now in
    let done = masked s (take i m) in
    let x = bit_xor s (get_or m i 0) in
    let long : length done ≡ i = masked_length s (take i m) ∙ length-take-le i m (omega (arith, c.loop-i-test.true)) in
    ap (λ b. set b (c.args.place + i) x) c.loop-i.invariant
    ∙ ap (λ j. set (written_over c.args.place done old) j x) (omega (arith, long))
    ∙ written_next done old c.args.place x (omega (arith, long, c.requires, c.loop-i-test.true))
    ∙ ap (λ b. written_over c.args.place b old) (sym (ap (masked s) (take_more m i 0 c.loop-i-test.true) ∙ masked_append s (take i m) (get_or m i 0 ∷ [])))

pub returns-then-bytes-ge32 : goal.returns-then-bytes-ge32
returns-then-bytes-ge32 c = c.copy_ends.ensures

pub returns-else-bytes-ge32 : goal.returns-else-bytes-ge32
returns-else-bytes-ge32 c = c.copy_ends-else-bytes-ge32.ensures

pub returns-then-bytes-ge8 : goal.returns-then-bytes-ge8
returns-then-bytes-ge8 c = c.copy_ends-then-bytes-ge8.ensures

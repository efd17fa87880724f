use Rattle.std.proofs.Common.{◌≡◌, ◌-◌, ◌∙◌, length, take, drop, ap, sym, length-drop, arith}
use Rattle.std.proofs.lemmas.List.{take_all}
use Rattle.cobs.specs.Codes.{Marks}
use Rattle.cobs.specs.Sentinel.{masked}
use Rattle.cobs.proofs.LanesLemmas.{ends_marked, shifted}
use Rattle.cobs.proofs.MaskingLemmas.{masked_length, masked_take, masked_drop}
use Rattle.cobs.proofs.moves.zeros_of_ends.Goals as goal

pub returns : goal.returns
returns g c =
    let w = g.row.W in
    let s = c.args.sentinel in
    let bytes = c.args.bytes.now in
    let k = length bytes - w in
    let last : masked s (take w (drop k bytes)) ≡ drop k (masked s bytes) = ap (masked s) (take_all w (drop k bytes) (omega (arith, length-drop k bytes, c.requires.some))) ∙ sym (masked_drop s k bytes) in
    let back : Marks c.zeros_at-2.result 0 (drop k (masked s bytes)) = rw last at c.zeros_at-2.ensures.marks in
    let front : Marks c.zeros_at.result 0 (take w (masked s bytes)) = rw (sym (masked_take s w bytes)) at c.zeros_at.ensures.marks in
    ends_marked (masked s bytes) w k c.zeros_at.result c.zeros_at-2.result _ (masked_length s bytes ∙ omega (arith, c.requires.some)) (omega (arith, c.requires.few)) front back
    (shifted c.zeros_at-2.result w k c.zeros_at-2.ensures.bound c.requires.wide (omega (arith, c.requires.few, c.requires.wide)))

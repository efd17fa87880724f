use Rattle.std.proofs.Common.{◌∙◌, ap, sym, arith, length-take}
use Rattle.std.proofs.lemmas.List.{take_all, length-take-le}
use Rattle.cobs.specs.InPlace.{written_over}
use Rattle.cobs.specs.Sentinel.{masked}
use Rattle.cobs.proofs.moves.copy_block.Goals as goal

pub slice_bounds-copy_over-end : goal.slice_bounds-copy_over-end
slice_bounds-copy_over-end c = sym (length-take-le 254 c.args.bytes.now (omega (arith, c.if-bytes-eq254.true)))

pub copy_over-requires : goal.copy_over-requires
copy_over-requires c = record { room = omega (arith, length-take 254 c.args.bytes.now, c.requires.room) }

pub returns-then-bytes-eq254 : goal.returns-then-bytes-eq254
returns-then-bytes-eq254 c =
    c.copy_over.ensures ∙ ap (λ b. written_over c.args.place (masked c.args.sentinel b) c.args.buffer.now) (take_all 254 c.args.bytes.now (omega (arith, c.if-bytes-eq254.true)))

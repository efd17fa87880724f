use Rattle.std.proofs.Common.{sym, arith}
use Rattle.std.proofs.lemmas.List.{length-take-le}
use Rattle.cobs.proofs.dec.whole.begins_with_row.Goals as goal

pub slice_bounds-are_all-end : goal.slice_bounds-are_all-end
slice_bounds-are_all-end c = sym (length-take-le 64 c.args.bytes.now (omega (arith, c.if-bytes-lt256.false)))

pub are_all-requires : goal.are_all-requires
are_all-requires c = length-take-le 64 c.args.bytes.now (omega (arith, c.if-bytes-lt256.false))

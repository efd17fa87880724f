use Rattle.std.proofs.Common.{◌≤◌, length, sym, subst}
use Rattle.frames.proofs.RoomsLemmas.{count_most}
use Rattle.frames.proofs.rooms.count_bytes.Goals as goal

pub returns-clause-most : goal.returns-clause-most
returns-clause-most c = subst (λ s. length s ≤ 10) (sym c.varint_usize.ensures) (count_most c.short_is_a_spelling.ensures c.args.size c.ranges.size.fits)

use Rattle.std.proofs.Common.{arith}
use Rattle.cobs.proofs.dec.in_place.decode_by.Goals as goal

pub decode_short_in_place-requires-clause-stops : goal.decode_short_in_place-requires-clause-stops
decode_short_in_place-requires-clause-stops g c = c.before_few-few.ensures

pub decode_short_in_place-requires-clause-bytes : goal.decode_short_in_place-requires-clause-bytes
decode_short_in_place-requires-clause-bytes g c = c.all_bytes.ensures

pub decode_long_in_place-requires-clause-begins : goal.decode_long_in_place-requires-clause-begins
decode_long_in_place-requires-clause-begins g c = c.near_end-end.ensures.begins c.if-end-eq256.true

pub decode_long_in_place-requires-clause-bytes : goal.decode_long_in_place-requires-clause-bytes
decode_long_in_place-requires-clause-bytes g c = c.all_bytes.ensures

pub decode_short_in_place-requires-2-clause-stops : goal.decode_short_in_place-requires-2-clause-stops
decode_short_in_place-requires-2-clause-stops g c =
    c.near_end-end.ensures.stops (omega (arith, c.near_end-end.ensures.few, c.if-end-eq256.false))

pub decode_short_in_place-requires-2-clause-bytes : goal.decode_short_in_place-requires-2-clause-bytes
decode_short_in_place-requires-2-clause-bytes g c = c.all_bytes.ensures

pub returns-then-buf-le64 : goal.returns-then-buf-le64
returns-then-buf-le64 g c = c.decode_short_in_place.ensures

pub returns : goal.returns
returns g c = c.decode_short_in_place-2.ensures

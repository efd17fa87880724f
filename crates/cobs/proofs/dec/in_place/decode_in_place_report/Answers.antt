use Rattle.std.proofs.Common.{arith}
use Rattle.cobs.proofs.MaskingLemmas.{masked_zero}
use Rattle.cobs.proofs.VerdictsLemmas.{in_place_frame, in_place_no_frame, in_place_rest}
use Rattle.cobs.proofs.dec.in_place.decode_in_place_report.Goals as goal

pub returns-clause-answer : goal.returns-clause-answer
returns-clause-answer c = rw (masked_zero c.args.buf.now) at c.decode_by.ensures.answer

pub returns-clause-frame : goal.returns-clause-frame
returns-clause-frame c = let e = c.decode_by.ensures in rw (masked_zero c.args.buf.now) at (in_place_frame 0 c.args.buf.now c.decode_by.new.buf (omega arith) e.bytes e.buffer c.decode_by.result e.answer)

pub returns-clause-no_frame : goal.returns-clause-no_frame
returns-clause-no_frame c = let e = c.decode_by.ensures in rw (masked_zero c.args.buf.now) at (in_place_no_frame 0 c.args.buf.now c.decode_by.new.buf (omega arith) e.bytes e.buffer c.decode_by.result e.answer)

pub returns-clause-buffer : goal.returns-clause-buffer
returns-clause-buffer c = rw (masked_zero c.args.buf.now) at c.decode_by.ensures.buffer

pub returns-clause-rest : goal.returns-clause-rest
returns-clause-rest c = let e = c.decode_by.ensures in rw (masked_zero c.args.buf.now) at (in_place_rest 0 c.args.buf.now c.decode_by.new.buf (omega arith) e.bytes e.buffer)

use Rattle.cobs.proofs.VerdictsLemmas.{in_place_frame, in_place_no_frame, in_place_rest}
use Rattle.cobs.proofs.dec.in_place.decode_in_place_report_with_sentinel.Goals as goal

pub returns-clause-frame : goal.returns-clause-frame
returns-clause-frame c = let e = c.decode_by.ensures in in_place_frame c.args.sentinel c.args.buf.now c.decode_by.new.buf c.ranges.sentinel.fits e.bytes e.buffer c.decode_by.result e.answer

pub returns-clause-no_frame : goal.returns-clause-no_frame
returns-clause-no_frame c = let e = c.decode_by.ensures in in_place_no_frame c.args.sentinel c.args.buf.now c.decode_by.new.buf c.ranges.sentinel.fits e.bytes e.buffer c.decode_by.result e.answer

pub returns-clause-rest : goal.returns-clause-rest
returns-clause-rest c = let e = c.decode_by.ensures in in_place_rest c.args.sentinel c.args.buf.now c.decode_by.new.buf c.ranges.sentinel.fits e.bytes e.buffer

use Rattle.cobs.proofs.dec.in_place.decode_in_place.Goals as goal

pub returns-in-Ok-clause-buffer : goal.returns-in-Ok-clause-buffer
returns-in-Ok-clause-buffer c = c.decode_in_place_report.ensures.buffer

pub returns-in-Ok-clause-rest : goal.returns-in-Ok-clause-rest
returns-in-Ok-clause-rest c = c.decode_in_place_report.ensures.rest

pub returns-in-Err-clause-buffer : goal.returns-in-Err-clause-buffer
returns-in-Err-clause-buffer c = c.decode_in_place_report.ensures.buffer

pub returns-in-Err-clause-rest : goal.returns-in-Err-clause-rest
returns-in-Err-clause-rest c = c.decode_in_place_report.ensures.rest

pub returns-in-Err-clause-no_frame : goal.returns-in-Err-clause-no_frame
returns-in-Err-clause-no_frame c = c.in-Err.ensures.no_frame

use Rattle.cobs.proofs.dec.in_place.decode_in_place_with_sentinel.Goals as goal

pub returns-clause-answer : goal.returns-clause-answer
returns-clause-answer c = rw c.mask.ensures at c.decode_in_place.ensures.answer

pub returns-clause-frame : goal.returns-clause-frame
returns-clause-frame c = rw c.mask.ensures at c.decode_in_place.ensures.frame

pub returns-clause-no_frame : goal.returns-clause-no_frame
returns-clause-no_frame c = rw c.mask.ensures at c.decode_in_place.ensures.no_frame

pub returns-clause-buffer : goal.returns-clause-buffer
returns-clause-buffer c = rw c.mask.ensures at c.decode_in_place.ensures.buffer

pub returns-clause-rest : goal.returns-clause-rest
returns-clause-rest c = rw c.mask.ensures at c.decode_in_place.ensures.rest

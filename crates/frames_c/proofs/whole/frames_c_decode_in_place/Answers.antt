use Rattle.frames_c.proofs.ReadLemmas.{where_refused}
use Rattle.frames_c.proofs.whole.frames_c_decode_in_place.Goals as goal

pub returns-clause-no_frame : goal.returns-clause-no_frame
returns-clause-no_frame c = where_refused c.decode_in_place.result _ _ _ c.read.ensures c.decode_in_place.ensures.no_frame

use Rattle.schemas.proofs.TopsLemmas.{text_by}
use Rattle.schemas.proofs.read.read_text.Goals as goal

pub returns : goal.returns
returns g c = text_by c.in_ok-v.v c.in_ok-v.ensures.reads

use Rattle.schemas.proofs.TopsLemmas.{bytes_by}
use Rattle.schemas.proofs.read.read_bytes.Goals as goal

pub returns : goal.returns
returns g c = bytes_by c.in_ok-v.v c.in_ok-v.ensures.reads

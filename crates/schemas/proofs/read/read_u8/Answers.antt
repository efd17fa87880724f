use Rattle.schemas.proofs.TopsLemmas.{byte_by}
use Rattle.schemas.proofs.read.read_u8.Goals as goal

pub returns : goal.returns
returns g c = byte_by _ c.in_ok-v.ensures

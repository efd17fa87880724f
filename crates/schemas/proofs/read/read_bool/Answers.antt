use Rattle.schemas.proofs.TopsLemmas.{bool_by}
use Rattle.schemas.proofs.read.read_bool.Goals as goal

pub returns : goal.returns
returns g c = bool_by _ c.in_ok-v.ensures

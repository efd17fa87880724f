use Rattle.schemas.proofs.TopsLemmas.{char_by}
use Rattle.schemas.proofs.read.read_char.Goals as goal

pub returns : goal.returns
returns g c = char_by _ c.in_ok-v.ensures.reads

use Rattle.std.proofs.Common.{rules}
use Rattle.schemas.proofs.TopsLemmas.{signed_byte_by}
use Rattle.schemas.proofs.read.read_i8.Goals as goal

pub returns : goal.returns
returns g c = signed_byte_by _ (search rules) c.in_ok-v.ensures

use Rattle.std.proofs.Common.{rules}
use Rattle.schemas.proofs.TopsLemmas.{signed_by}
use Rattle.schema_table.specs.ValueLaws.{tree-I16, top-I16}
use Rattle.schemas.proofs.read.read_i16.Goals as goal

pub returns : goal.returns
returns g c = signed_by 16 _ _ (search rules) (tree-I16 _) (top-I16 _) c.in_ok-v.ensures

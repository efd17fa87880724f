use Rattle.std.proofs.Common.{rules}
use Rattle.schemas.proofs.TopsLemmas.{signed_by}
use Rattle.schema_table.specs.ValueLaws.{tree-I128, top-I128}
use Rattle.schemas.proofs.read.read_i128.Goals as goal

pub returns : goal.returns
returns g c = signed_by 128 _ _ (search rules) (tree-I128 _) (top-I128 _) c.in_ok-v.ensures

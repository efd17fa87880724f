use Rattle.schemas.proofs.TopsLemmas.{number_by}
use Rattle.schema_table.specs.ValueLaws.{tree-U128, top-U128}
use Rattle.schemas.proofs.read.read_u128.Goals as goal

pub returns : goal.returns
returns g c = number_by 128 _ (tree-U128 _) (top-U128 _) c.in_ok-v.ensures

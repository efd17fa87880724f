use Rattle.schemas.proofs.TopsLemmas.{number_by}
use Rattle.schema_table.specs.ValueLaws.{tree-U16, top-U16}
use Rattle.schemas.proofs.read.read_u16.Goals as goal

pub returns : goal.returns
returns g c = number_by 16 _ (tree-U16 _) (top-U16 _) c.in_ok-v.ensures

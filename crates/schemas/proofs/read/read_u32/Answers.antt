use Rattle.schemas.proofs.TopsLemmas.{number_by}
use Rattle.schema_table.specs.ValueLaws.{tree-U32, top-U32}
use Rattle.schemas.proofs.read.read_u32.Goals as goal

pub returns : goal.returns
returns g c = number_by 32 _ (tree-U32 _) (top-U32 _) c.in_ok-v.ensures

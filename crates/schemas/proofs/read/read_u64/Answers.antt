use Rattle.schemas.proofs.TopsLemmas.{number_by}
use Rattle.schema_table.specs.ValueLaws.{tree-U64, top-U64}
use Rattle.schemas.proofs.read.read_u64.Goals as goal

pub returns : goal.returns
returns g c = number_by 64 _ (tree-U64 _) (top-U64 _) c.in_ok-v.ensures

use Rattle.std.proofs.Common.{rules}
use Rattle.schemas.proofs.TopsLemmas.{signed_by}
use Rattle.schema_table.specs.ValueLaws.{tree-I32, top-I32}
use Rattle.schemas.proofs.read.read_i32.Goals as goal

pub returns : goal.returns
returns g c = signed_by 32 _ _ (search rules) (tree-I32 _) (top-I32 _) c.in_ok-v.ensures

use Rattle.std.proofs.Common.{rules}
use Rattle.schemas.proofs.TopsLemmas.{signed_by}
use Rattle.schema_table.specs.ValueLaws.{tree-I64, top-I64}
use Rattle.schemas.proofs.read.read_i64.Goals as goal

pub returns : goal.returns
returns g c = signed_by 64 _ _ (search rules) (tree-I64 _) (top-I64 _) c.in_ok-v.ensures

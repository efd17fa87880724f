use Rattle.std.proofs.Common.{arith}
use Rattle.postcard_ser.proofs.containers.ArrayVecSerialize.serialize.Goals as goal

pub returns-clause-valid : goal.returns-clause-valid
returns-clause-valid g c = grind arith

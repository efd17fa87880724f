use Rattle.std.proofs.Common.{arith}
use Rattle.std.proofs.lemmas.Grind.{common_steps}
use Rattle.postcard_de.proofs.de_flavors.SliceFlavor.try_take_n_temp.Goals as goal

pub returns : goal.returns
returns c = grind (arith, common_steps)

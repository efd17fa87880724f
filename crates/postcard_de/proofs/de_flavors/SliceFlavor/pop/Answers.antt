use Rattle.std.proofs.Common.{arith}
use Rattle.std.proofs.lemmas.Grind.{common_steps}
use Rattle.postcard_de.proofs.de_flavors.SliceFlavor.pop.Goals as goal

pub returns-then-remaining-eq0-clause-short : goal.returns-then-remaining-eq0-clause-short
returns-then-remaining-eq0-clause-short c = grind (arith, common_steps)

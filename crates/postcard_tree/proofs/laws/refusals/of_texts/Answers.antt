use Rattle.postcard_tree.specs.ByteSlices.{bytes_each}
use Rattle.postcard_tree.proofs.laws.refusals.of_texts.Goals as goal

pub returns-clause-bytes : goal.returns-clause-bytes
returns-clause-bytes g c = bytes_each

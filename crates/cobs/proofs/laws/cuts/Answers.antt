use Rattle.cobs.proofs.CutsLemmas.{any_pieces}
use Rattle.cobs.proofs.laws.cuts.Goals as goal

pub returns : goal.returns
returns c = any_pieces

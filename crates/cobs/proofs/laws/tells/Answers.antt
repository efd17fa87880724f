use Rattle.cobs.proofs.TellsLemmas.{tells_message}
use Rattle.cobs.proofs.laws.tells.Goals as goal

pub returns : goal.returns
returns c = tells_message

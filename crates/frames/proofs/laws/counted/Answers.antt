use Rattle.frames.proofs.LawsLemmas.{counted_once}
use Rattle.frames.proofs.laws.counted.Goals as goal

pub returns-clause-once : goal.returns-clause-once
returns-clause-once c = counted_once

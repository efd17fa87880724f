use Rattle.calls.proofs.RepliesLemmas.{are_calls}
use Rattle.calls.proofs.laws.executes_calls.Goals as goal

pub returns : goal.returns
returns g c equal passes kept later qs log out h e i = are_calls equal passes h e i

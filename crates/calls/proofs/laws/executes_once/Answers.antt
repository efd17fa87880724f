use Rattle.calls.specs.ServedLaws.{rises}
use Rattle.calls.proofs.laws.executes_once.Goals as goal

pub returns : goal.returns
returns g c equal passes kept later qs log out h = rises h

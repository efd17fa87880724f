use Rattle.sealed.specs.Checksum.{check_value}
use Rattle.sealed.proofs.laws.check_value.Goals as goal

pub returns : goal.returns
returns c = check_value

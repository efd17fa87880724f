use Rattle.framed_lib.proofs.OutputLemmas.{first-set}
use Rattle.framed_lib.proofs.digits.put_end.Goals as goal

pub returns-clause-end : goal.returns-clause-end
returns-clause-end c = rw c.if-not-hex.false (first-set c.args.room.now 10 c.requires)

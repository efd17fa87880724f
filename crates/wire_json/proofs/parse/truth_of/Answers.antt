use Rattle.wire_json.proofs.NumberRefusals.{no_truth}
use Rattle.wire_json.proofs.parse.truth_of.Goals as goal

pub returns-in_default-clause-refused : goal.returns-in_default-clause-refused
returns-in_default-clause-refused c w = no_truth c.args.key.now c.in_default.not-true c.in_default.not-false

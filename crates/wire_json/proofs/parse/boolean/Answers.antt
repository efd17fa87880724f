use Rattle.wire_json.proofs.LeafRefusals.{no_bool}
use Rattle.wire_json.proofs.parse.boolean.Goals as goal

pub returns-in_default-clause-refused : goal.returns-in_default-clause-refused
returns-in_default-clause-refused c wrong = no_bool c.args.json.now c.in_default.not-Bool

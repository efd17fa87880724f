use Rattle.wire_json.proofs.NumberRefusals.{no_json_number}
use Rattle.wire_json.proofs.parse.number.Goals as goal

pub returns-in_default-clause-refused : goal.returns-in_default-clause-refused
returns-in_default-clause-refused c w l = no_json_number c.args.node.now c.args.json.now l c.in_default.not-Number

use Rattle.wire_json.proofs.LeafRefusals.{no_char}
use Rattle.wire_json.proofs.parse.character.Goals as goal

pub returns-in_default-clause-refused : goal.returns-in_default-clause-refused
returns-in_default-clause-refused c wrong = no_char c.args.json.now c.in_default.not-String

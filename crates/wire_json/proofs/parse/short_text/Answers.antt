use Rattle.wire_json.proofs.LeafRefusals.{no_short_text}
use Rattle.wire_json.proofs.parse.short_text.Goals as goal

pub returns-in_default-clause-refused : goal.returns-in_default-clause-refused
returns-in_default-clause-refused c wrong = no_short_text c.args.most c.args.json.now c.in_default.not-String

use Rattle.json.specs.Value.{value_view}
use Rattle.wire_json.proofs.LeafRefusals.{no_bytes}
use Rattle.wire_json.proofs.ParsedLemmas.{bytes_leaf, bytes_mean}
use Rattle.wire_json.proofs.parse.bytes.Goals as goal

pub returns-in-Ok : goal.returns-in-Ok
returns-in-Ok c = record { of_type = bytes_leaf c.in-Ok.bytes; means = bytes_mean (value_view c.args.json.now) c.in-Ok.bytes c.in-Ok.ensures.means; refused = tt }

pub returns-in-Err-clause-refused : goal.returns-in-Err-clause-refused
returns-in-Err-clause-refused c wrong = no_bytes (value_view c.args.json.now) (c.in-Err.ensures.refused wrong)

-- What is printed of a value means it.
use Rattle.wire_json.proofs.RoundLemmas.{printed_back}
use Rattle.wire_json.proofs.TakenLemmas.{printed_taken, line_back, line_taken}
use Rattle.wire_json.proofs.laws.parsed_as_printed.Goals as goal

pub returns : goal.returns
returns c = record { printed = printed_back; printed_taken = printed_taken; line = line_back; line_taken = line_taken }

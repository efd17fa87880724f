-- What is sent of a receiver's line.
use Rattle.wire_lib.proofs.ResentLemmas.{line_sent}
use Rattle.wire_lib.proofs.laws.sent_as_received.Goals as goal

pub returns : goal.returns
returns c = record { sent = line_sent c.parsed_as_printed.ensures.line }

use Rattle.std.proofs.Common.{arith}
use Rattle.std.proofs.lemmas.Grind.{common_steps}
use Rattle.spans.proofs.memory.span.Span+Writable.into_ahead.Goals as goal

pub into_slice-requires-clause-count : goal.into_slice-requires-clause-count
into_slice-requires-clause-count c = grind (arith, common_steps)

pub returns : goal.returns
returns c = grind (arith, common_steps)

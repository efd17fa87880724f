use Rattle.std.proofs.Common.{arith}
use Rattle.std.proofs.lemmas.Grind.{common_steps, elements}
use Rattle.spans.proofs.memory.span.Span+Writable.set_byte.Goals as goal

pub returns-clause-behind : goal.returns-clause-behind
returns-clause-behind c = grind (arith, elements)

pub returns-clause-ahead : goal.returns-clause-ahead
returns-clause-ahead c = grind (arith, common_steps)

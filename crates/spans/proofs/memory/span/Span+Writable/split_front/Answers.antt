use Rattle.std.proofs.Common.{arith}
use Rattle.std.proofs.lemmas.Grind.{common_steps}
use Rattle.spans.proofs.memory.span.Span+Writable.split_front.Goals as goal

pub returns-clause-apart : goal.returns-clause-apart
returns-clause-apart c = rw (c.into_slice-front.ensures.place, c.into_slice-front.ensures.bytes) c.split_at-front.ensures.apart

pub split_at-front-requires-clause-within : goal.split_at-front-requires-clause-within
split_at-front-requires-clause-within c = grind (arith, common_steps)

pub overflow_sub-rest-2 : goal.overflow_sub-rest-2
overflow_sub-rest-2 c = grind (arith, common_steps)

pub invariant_of-rest : goal.invariant_of-rest
invariant_of-rest c = grind (arith, common_steps)

pub returns-clause-parts : goal.returns-clause-parts
returns-clause-parts c = grind (arith, common_steps)

use Rattle.std.proofs.Common.{arith}
use Rattle.std.proofs.lemmas.Grind.{common_steps}
use Rattle.spans.proofs.memory.span.Span+ReadOnly.split_front.Goals as goal

pub returns-clause-apart : goal.returns-clause-apart
returns-clause-apart c = rw (c.into_slice-taken.ensures.place, c.into_slice-taken.ensures.bytes) c.split_at-taken.ensures.apart

pub split_at-taken-requires-clause-within : goal.split_at-taken-requires-clause-within
split_at-taken-requires-clause-within c = grind (arith, common_steps)

pub overflow_sub-left-2 : goal.overflow_sub-left-2
overflow_sub-left-2 c = grind (arith, common_steps)

pub invariant_of-left : goal.invariant_of-left
invariant_of-left c = grind (arith, common_steps)

pub returns-clause-parts : goal.returns-clause-parts
returns-clause-parts c = grind (arith, common_steps)

use Rattle.std.proofs.Common.{arith}
use Rattle.std.proofs.lemmas.Grind.{common_steps}
use Rattle.spans.proofs.memory.span.Span+Writable.front.Goals as goal

pub overflow_add-result : goal.overflow_add-result
overflow_add-result c = grind (arith, common_steps)

pub slice_bounds-result-end : goal.slice_bounds-result-end
slice_bounds-result-end c = grind (arith, common_steps)

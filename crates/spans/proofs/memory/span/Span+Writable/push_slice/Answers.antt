use Rattle.std.proofs.lemmas.Grind.{common_steps}
use Rattle.std.proofs.Common.{◌≤◌, length, ap, subst, arith}
use Rattle.spans.proofs.SpanLemmas.{ahead_after}
use Rattle.spans.proofs.memory.span.Span+Writable.push_slice.Goals as goal

pub returns-clause-ahead : goal.returns-clause-ahead
returns-clause-ahead c =
    let s = c.args.self.now in
    rw c.as_mut_slice-all.ensures.value
    (ahead_after s.behind (length c.args.bytes.now) s.memory.bytes c.copy_from_slice.new.self (subst (λ n. s.behind ≤ n) s.whole s.within) (ap length c.copy_from_slice.ensures.after))

pub overflow_add-end : goal.overflow_add-end
overflow_add-end c = grind (arith, common_steps)

pub slice_bounds-copy_from_slice-end : goal.slice_bounds-copy_from_slice-end
slice_bounds-copy_from_slice-end c = grind (arith, common_steps)

pub invariant_of-self : goal.invariant_of-self
invariant_of-self c = grind (arith, common_steps)

pub returns-clause-behind : goal.returns-clause-behind
returns-clause-behind c = grind (arith, common_steps)

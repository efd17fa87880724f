use Rattle.std.proofs.Common.{arith}
use Rattle.frames_small.proofs.CountsLemmas.{more_than_last}
use Rattle.frames_small.proofs.counting.value_of.Goals as goal

pub returns-then-most-n-clause-none : goal.returns-then-most-n-clause-none
returns-then-most-n-clause-none c e =
    omega (arith, c.if-most-n.true, c.loop-at.invariant.value, more_than_last c.args.groups.now c.loop-at.at (omega (arith, c.loop-at-test.true)))

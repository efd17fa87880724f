use Rattle.frames_small.proofs.CountsLemmas.{count_short, count_long}
use Rattle.std.proofs.Common.{arith}
use Rattle.frames_small.proofs.counting.count_end.Goals as goal

pub returns-then-at-message-clause-none : goal.returns-then-at-message-clause-none
returns-then-at-message-clause-none c e = count_short c.args.message.now c.loop-at.at c.loop-at.invariant.goes c.if-at-message.true c.loop-at-test.true

pub returns-clause-none : goal.returns-clause-none
returns-clause-none c e = count_long c.args.message.now c.loop-at.at c.loop-at.invariant.goes (omega (arith, c.loop-at-test.false, c.loop-at.invariant.few)) c.loop-at.invariant.within

use Rattle.std.proofs.Common.{arith, refl}
use Rattle.frames_small.proofs.CountsLemmas.{message_read, message_short, uncounted}
use Rattle.frames_small.proofs.counting.counted.Goals as goal

pub returns-then-start-eq0-clause-none : goal.returns-then-start-eq0-clause-none
returns-then-start-eq0-clause-none c e = let r = c.count_end-start.ensures.none c.if-start-eq0.true in uncounted c.args.message.now r.0 r.1

pub returns-in-None-clause-none : goal.returns-in-None-clause-none
returns-in-None-clause-none c e =
    let start = c.count_end-start.ensures in
    message_short c.args.message.now c.count_end-start.result start.few start.within (start.ends (omega (arith, c.if-start-eq0.false))) (c.in-None.ensures.none refl)

pub returns-in-Some-clause-read : goal.returns-in-Some-clause-read
returns-in-Some-clause-read c =
    let start = c.count_end-start.ensures in
    message_read c.args.message.now c.count_end-start.result start.few start.within (start.ends (omega (arith, c.if-start-eq0.false)))
    c.in-Some.length c.in-Some.ensures.some (omega (arith, c.in-Some.ensures.few)) c.in-Some.ensures.few

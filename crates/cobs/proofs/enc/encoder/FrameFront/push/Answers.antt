use Rattle.std.proofs.Common.{arith}
use Rattle.std.proofs.lemmas.Grind.{common_steps}
use Rattle.cobs.proofs.enc.encoder.FrameFront.push.Goals as goal

pub returns-then-self-clause-stands : goal.returns-then-self-clause-stands
returns-then-self-clause-stands c = grind (arith, common_steps)

pub returns-then-self-clause-ok : goal.returns-then-self-clause-ok
returns-then-self-clause-ok c = grind (arith, common_steps)

pub returns-then-self-clause-err : goal.returns-then-self-clause-err
returns-then-self-clause-err c = grind (arith, common_steps)

pub returns-then-self-clause-nothing : goal.returns-then-self-clause-nothing
returns-then-self-clause-nothing c = grind (arith, common_steps)

pub returns-then-self-clause-sentinel : goal.returns-then-self-clause-sentinel
returns-then-self-clause-sentinel c = grind (arith, common_steps)

pub put_all-next-requires : goal.put_all-next-requires
put_all-next-requires c = c.requires c.if-self.false

pub returns-then-next-eq0-clause-stands : goal.returns-then-next-eq0-clause-stands
returns-then-next-eq0-clause-stands c = grind (arith, common_steps)

pub returns-then-next-eq0-clause-ok : goal.returns-then-next-eq0-clause-ok
returns-then-next-eq0-clause-ok c = grind (arith, common_steps)

pub returns-then-next-eq0-clause-err : goal.returns-then-next-eq0-clause-err
returns-then-next-eq0-clause-err c = grind (arith, common_steps)

pub returns-then-next-eq0-clause-nothing : goal.returns-then-next-eq0-clause-nothing
returns-then-next-eq0-clause-nothing c = c.put_all-next.ensures.nothing

pub returns-then-next-eq0-clause-sentinel : goal.returns-then-next-eq0-clause-sentinel
returns-then-next-eq0-clause-sentinel c = grind (arith, common_steps)

pub returns-clause-stands : goal.returns-clause-stands
returns-clause-stands c = grind (arith, common_steps)

pub returns-clause-ok : goal.returns-clause-ok
returns-clause-ok c = grind (arith, common_steps)

pub returns-clause-err : goal.returns-clause-err
returns-clause-err c = grind (arith, common_steps)

pub returns-clause-nothing : goal.returns-clause-nothing
returns-clause-nothing c = c.put_all-next.ensures.nothing

pub returns-clause-sentinel : goal.returns-clause-sentinel
returns-clause-sentinel c = grind (arith, common_steps)

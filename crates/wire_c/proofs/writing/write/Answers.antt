use Rattle.std.proofs.Common.{refl}
use Rattle.wire_c.proofs.CallsLemmas.{writes_by, refuses_by}
use Rattle.wire_c.proofs.writing.write.Goals as goal

pub returns-then-is_good-clause-frames : goal.returns-then-is_good-clause-frames
returns-then-is_good-clause-frames c = writes_by c.args.told.terms _ c.args.lines.now _ _ _ refl c.is_flag.ensures c.in-Ok.ensures.depth c.if-is_good.true c.in-Ok-made_of.ensures

pub returns-clause-refused : goal.returns-clause-refused
returns-clause-refused c = refuses_by c.args.told.terms _ c.args.lines.now _ _ _ refl c.is_flag.ensures c.in-Ok.ensures.depth c.if-is_good.false c.in-Ok-made_of.ensures

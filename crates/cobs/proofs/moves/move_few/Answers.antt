use Rattle.std.proofs.Common.{arith, ◌+◌}
use Rattle.cobs.proofs.WrittenLemmas.{moved_byte}
use Rattle.cobs.proofs.moves.move_few.Goals as goal
use Rattle.std.proofs.lemmas.Grind.{common_steps}

pub loop-i-preserved : goal.loop-i-preserved
loop-i-preserved c =
    moved_byte c.args.sentinel c.args.from c.args.place c.loop-i.i (c.args.place + c.loop-i.i) (c.args.from + c.loop-i.i) c.args.buffer.now c.loop-i.buffer c.loop-i.invariant
    c.requires.down (omega (arith, c.requires.within, c.loop-i-test.true)) c.loop-i.auto.buffer (omega arith) (omega arith)

pub returns-then-n-ge32 : goal.returns-then-n-ge32
returns-then-n-ge32 c = c.move_ends.ensures

pub returns-else-n-ge32 : goal.returns-else-n-ge32
returns-else-n-ge32 c = c.move_ends-else-n-ge32.ensures

pub returns-then-n-ge8 : goal.returns-then-n-ge8
returns-then-n-ge8 c = c.move_ends-then-n-ge8.ensures

pub move_ends-requires-clause-within : goal.move_ends-requires-clause-within
move_ends-requires-clause-within c = grind (arith, common_steps)

pub move_ends-requires-clause-down : goal.move_ends-requires-clause-down
move_ends-requires-clause-down c = grind (arith, common_steps)

pub move_ends-requires-else-n-ge32-clause-down : goal.move_ends-requires-else-n-ge32-clause-down
move_ends-requires-else-n-ge32-clause-down c = grind (arith, common_steps)

pub move_ends-requires-then-n-ge8-clause-within : goal.move_ends-requires-then-n-ge8-clause-within
move_ends-requires-then-n-ge8-clause-within c = grind (arith, common_steps)

pub move_ends-requires-then-n-ge8-clause-down : goal.move_ends-requires-then-n-ge8-clause-down
move_ends-requires-then-n-ge8-clause-down c = grind (arith, common_steps)

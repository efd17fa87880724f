use Rattle.std.proofs.Common.{arith}
use Rattle.frames.proofs.StoringLemmas.{stored_stands, stored_plain, stored_counted}
use Rattle.frames.proofs.receiving.FrameReceiver.stores.Goals as goal

pub returns-clause-stands : goal.returns-clause-stands
returns-clause-stands c t = stored_stands c.args.self.now c.args.buffer.now c.args.byte c.if-byte-self.false c.if-self-ne0.false (omega (arith, c.if-buffer-self.false))

pub returns-clause-plain : goal.returns-clause-plain
returns-clause-plain c t = stored_plain c.args.self.now c.args.buffer.now c.args.byte c.if-byte-self.false c.if-self-ne0.false (omega (arith, c.if-buffer-self.false))

pub returns-clause-counted : goal.returns-clause-counted
returns-clause-counted c t = stored_counted c.args.self.now c.args.buffer.now c.args.byte c.if-byte-self.false c.if-self-ne0.false (omega (arith, c.if-buffer-self.false))

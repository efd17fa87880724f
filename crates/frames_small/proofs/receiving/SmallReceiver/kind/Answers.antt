use Rattle.frames_small.proofs.EndingLemmas.{ends_past, ends_none, ends_frame, ends_damaged}
use Rattle.frames_small.proofs.receiving.SmallReceiver.kind.Goals as goal

pub returns-then-self-clause-taken : goal.returns-then-self-clause-taken
returns-then-self-clause-taken c limit s b i = ends_past limit s c.args.self.now c.args.buffer.now b i c.if-self.true

pub returns-then-self-eq0-clause-taken : goal.returns-then-self-eq0-clause-taken
returns-then-self-eq0-clause-taken c limit s b i = ends_none limit s c.args.self.now c.args.buffer.now b i c.if-self.false c.if-self-eq0.true

pub returns-then-self-eq0-2-clause-taken : goal.returns-then-self-eq0-2-clause-taken
returns-then-self-eq0-2-clause-taken c limit s b i = ends_frame limit s c.args.self.now c.args.buffer.now c.message_of_a_frame.ensures.is b i c.if-self.false c.if-self-eq0.false c.if-self-eq0-2.true

pub returns-else-self-eq0-2-clause-taken : goal.returns-else-self-eq0-2-clause-taken
returns-else-self-eq0-2-clause-taken c limit s b i = ends_damaged limit s c.args.self.now c.args.buffer.now c.message_of_a_frame.ensures.ends b i c.if-self.false c.if-self-eq0.false c.if-self-eq0-2.false

use Rattle.std.proofs.Common.{◌<◌, length, arith, sym, subst}
use Rattle.link.specs.Steps.{event_at}
use Rattle.frames.specs.Standing.{StandsAt}
use Rattle.frames.specs.Events.{FindsFrame}
use Rattle.frames.proofs.StandingLemmas.{kept_is, closed}
use Rattle.frames.proofs.receiving.FrameReceiver.take_sentinel.Goals as goal

pub returns-clause-finds : goal.returns-clause-finds
returns-clause-finds c limit s b i =
    let k = kept_is limit s c.args.self.now c.args.buffer.now b c.if-self-ne0.false i in
    let some : 0 < length k.0 = omega (arith, k.2.counted, c.if-self-eq0.false) in
    let w = c.close.ensures.found limit s k.0 (subst (StandsAt limit s c.args.self.now c.args.buffer.now) k.1 i) some in
    subst (λ x. FindsFrame c.close.new.buffer (event_at limit s x s) c.close.result) (sym k.1) (subst (λ e. FindsFrame c.close.new.buffer e c.close.result) (sym (closed limit s k.0 some)) w.1)

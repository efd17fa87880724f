use Rattle.std.proofs.Common.{sym, subst}
use Rattle.link.specs.Steps.{begun_at}
use Rattle.frames_small.specs.Standing.{SmallStandsAt}
use Rattle.frames_small.proofs.DecidingLemmas.{byte_is}
use Rattle.frames_small.proofs.receiving.SmallReceiver.take_byte.Goals as goal

pub returns-then-code-eq0-clause-at : goal.returns-then-code-eq0-clause-at
returns-then-code-eq0-clause-at c limit s b i =
    subst (λ n. SmallStandsAt limit s c.end.new.self c.args.buffer.now (begun_at limit s b n)) (sym (byte_is c.args.self.now.sentinel c.args.byte s i.sentinel c.if-code-eq0.true)) (c.end.ensures.at limit s b i)

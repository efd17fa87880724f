use Rattle.cobs.proofs.SourcesLemmas.{stretch_front}
use Rattle.cobs.proofs.dec.whole.before.Goals as goal

pub returns : goal.returns
returns c = stretch_front c.args.sentinel c.args.bytes.now c.before_sentinel.result c.before_sentinel.ensures.within c.before_sentinel.ensures.none c.before_sentinel.ensures.end

use Rattle.std.proofs.Common.{refl}
use Rattle.frames.proofs.CountsLemmas.{read_short}
use Rattle.frames.proofs.counting.counted_in.Goals as goal

pub returns-then-count-message-clause-read : goal.returns-then-count-message-clause-read
returns-then-count-message-clause-read c = read_short c.short_is_a_spelling.ensures c.args.message.now _ refl c.if-message-lt128.true c.if-count-message.true

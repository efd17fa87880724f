use Rattle.link.specs.Finds.{lent_message}
use Rattle.link.proofs.ReadingLemmas.{damaged_replies}
use Rattle.link.proofs.reception.read.Goals as goal

pub returns-in-Damaged-clause-replies : goal.returns-in-Damaged-clause-replies
returns-in-Damaged-clause-replies g c limit k t = damaged_replies (g.M.MessageReader.judging c.args.messages.now).holds c.show.ensures (g.M.MessageReader.judging c.args.messages.now).reads lent_message k.event _ t.finds c.in-Damaged.is

use Rattle.link.specs.Firsts.{not_both}
use Rattle.link.specs.Lemmas.Facts.{exactly_holds}
use Rattle.link.specs.Lemmas.Lengths.{by_lengths}
use Rattle.link.proofs.ReadingLemmas.{holds_none, front_facts, sent_value, not_sent}
use Rattle.link.proofs.judging.StrictMessageReader.read.Goals as goal

pub returns-then-is_sent-clause-value : goal.returns-then-is_sent-clause-value
returns-then-is_sent-clause-value g c =
    let r = c.args.self.now.0 in
    let laws = g.F.FrontReader.laws r in
    let facts = front_facts _ _ laws c.message_of_a_frame.ensures.one c.frames_of_a_message.ensures.shortest c.short_is_a_spelling.ensures in
    let lengths = by_lengths (g.F.FrontReader.takes r) facts c.frames_of_a_message.ensures.other c.short_is_the_shortest.ensures in
    sent_value (g.F.FrontReader.takes r) (g.F.FrontReader.reads r) g.V.Readable.form.writes facts lengths laws.taken (g.met.F.ExactReader.writes_back r) c.args.message.now _ c.in-Ok.value c.args.stretch c.in-Ok.ensures.value.1 _ c.is_sent.ensures c.if-is_sent.true

pub returns-else-is_sent-clause-value : goal.returns-else-is_sent-clause-value
returns-else-is_sent-clause-value g c =
    let r = c.args.self.now.0 in
    let laws = g.F.FrontReader.laws r in
    let facts = front_facts _ _ laws c.message_of_a_frame.ensures.one c.frames_of_a_message.ensures.shortest c.short_is_a_spelling.ensures in
    let lengths = by_lengths (g.F.FrontReader.takes r) facts c.frames_of_a_message.ensures.other c.short_is_the_shortest.ensures in
    not_sent (g.F.FrontReader.takes r) (g.F.FrontReader.reads r) g.V.Readable.form.writes facts lengths laws.taken (g.met.F.ExactReader.writes_back r) c.args.message.now _ c.in-Ok.value c.args.stretch c.in-Ok.ensures.value.1 _ c.is_sent.ensures (λ x. not_both c.is_sent.result x c.if-is_sent.false)

pub returns-in_ok-had_memory-in-Err-clause-value : goal.returns-in_ok-had_memory-in-Err-clause-value
returns-in_ok-had_memory-in-Err-clause-value g c p f e t h =
    let r = c.args.self.now.0 in
    let facts = front_facts _ _ (g.F.FrontReader.laws r) c.message_of_a_frame.ensures.one c.frames_of_a_message.ensures.shortest c.short_is_a_spelling.ensures in
    holds_none (g.F.FrontReader.takes r) (g.F.FrontReader.reads r) (g.F.FrontReader.growing r) p _ c.in-Err.error c.message_of_a_frame.ensures.one f c.in-Err.ensures.only c.in_ok-had_memory-in-Err.ensures.ok t
    (exactly_holds (g.F.FrontReader.takes r) facts p t h)

use Rattle.postcard.proofs.OneMoreLemmas.{answers, leaves_out, hears}
use Rattle.postcard.proofs.laws.heard_with_one_more.Goals as goal

pub returns-clause-answered : goal.returns-clause-answered
returns-clause-answered g c = answers _ _ _ c.nonzero.ensures.zero

pub returns-clause-left_out : goal.returns-clause-left_out
returns-clause-left_out g c = leaves_out _ _ _ c.nonzero.ensures.zero

pub returns-clause-sent : goal.returns-clause-sent
returns-clause-sent g c =
    hears g.T.Readable.form.laws c.short_is_a_spelling.ensures c.message_of_a_frame.ensures.one _ c.nonzero.ensures.zero c.frames_of_a_message.ensures.shortest

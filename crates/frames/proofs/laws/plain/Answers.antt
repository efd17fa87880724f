use Rattle.frames.proofs.LawsLemmas.{heard_of_front, heard_of_broken, heard_whole}
use Rattle.frames.proofs.laws.plain.Goals as goal

pub returns-clause-front : goal.returns-clause-front
returns-clause-front c = heard_of_front c.fronts.ensures.begins c.frames_of_a_message.ensures.shortest

pub returns-clause-broken : goal.returns-clause-broken
returns-clause-broken c = heard_of_broken c.nonzero.ensures.zero c.fronts.ensures.begins c.frames_of_a_message.ensures.shortest

pub returns-clause-whole : goal.returns-clause-whole
returns-clause-whole c = heard_whole c.message_of_a_frame.ensures.one c.frames_of_a_message.ensures.shortest

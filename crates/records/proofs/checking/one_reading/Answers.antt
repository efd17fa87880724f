use Rattle.records.proofs.CheckingLemmas.{one_reading}
use Rattle.records.proofs.checking.one_reading.Goals as goal

pub returns : goal.returns
returns c = one_reading _ (λ v w same. same.0) _ c.message_of_a_frame.ensures.one c.frames_of_a_message.ensures.shortest c.short_is_a_spelling.ensures

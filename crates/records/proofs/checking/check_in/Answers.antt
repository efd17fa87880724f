use Rattle.std.proofs.lemmas.Result.{IfOk-weaker}
use Rattle.records.proofs.CheckingLemmas.{sound_log}
use Rattle.records.proofs.checking.check_in.Goals as goal

pub returns-in-Ok-clause-sound : goal.returns-in-Ok-clause-sound
returns-in-Ok-clause-sound g c =
    IfOk-weaker c.sum_up.result _ _ (λ status h below. sound_log _ _ _ _ _ _ c.in-Ok.report status _ c.one_reading.ensures c.new-printer.ensures.sealed c.in-Ok.ensures.checked c.end.ensures.sealed h) c.sum_up.ensures.sound

use Rattle.std.proofs.Common.{◌∙◌}
use Rattle.link.specs.Stream.{begun}
use Rattle.link.proofs.ReceivingLemmas.{counted_begun}
use Rattle.link.proofs.reception.Reception.begun_bytes.Goals as goal

pub returns : goal.returns
returns g c limit s stream h = c.held.ensures.count ∙ counted_begun limit s _ _ _ (begun limit s stream) h.state

use Rattle.std.proofs.Common.{refl}
use Rattle.calls.proofs.WaitedLemmas.{numbered}
use Rattle.calls.proofs.client.Client.hear.Goals as goal

pub returns-clause-accepts : goal.returns-clause-accepts
returns-clause-accepts g c =
    let k = numbered _ c.in-Value.number (c.is_pending.ensures.0 c.if-not-is_pending.false) in
    (c.in-Value.number, k.0, k.1, c.in-Value.is, refl)

use Rattle.std.proofs.Common.{rules}
use Rattle.std.proofs.lemmas.Result.{IfOk-weaker, on_err_weaker}
use Rattle.journal_scan.proofs.StretchesLemmas.{again_counted, needs_counted}
use Rattle.journal_scan.proofs.checking.count_record.Goals as goal

pub returns-then-counts-clause-again : goal.returns-then-counts-clause-again
returns-then-counts-clause-again g c =
    IfOk-weaker c.count.result _ _ (λ again h numbers t. again_counted g.W.Judge.counted (c.in-Value.number, c.in-Value.value) _ numbers again c.in-Value.is (search rules) (h numbers t)) c.count.ensures.again

pub returns-then-counts-clause-needs : goal.returns-then-counts-clause-needs
returns-then-counts-clause-needs g c =
    on_err_weaker c.count.result (λ h numbers t. needs_counted g.W.Judge.counted (c.in-Value.number, c.in-Value.value) _ numbers c.in-Value.is (search rules) (h numbers t)) c.count.ensures.needs

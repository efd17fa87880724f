use Rattle.std.proofs.Common.{◌∙◌, max, ap, arith}
use Rattle.journal_scan.proofs.AnewLemmas.{went_anew, goes_one}
use Rattle.journal_scan.proofs.repairing.append_answer.Goals as goal

pub returns-else-put-length-clause-goes : goal.returns-else-put-length-clause-goes
returns-else-put-length-clause-goes g c =
    let went = went_anew c.in-Value.number (g.T.Readable.form.writes c.in-Value.value) c.in-Ok.n c.put.result _ _ _ c.in-Ok.ensures.ok (omega arith) c.put.ensures.bytes in
    rw c.in-Value.is (goes_one g.T.Readable.form.writes _ _ c.args.repaired _ (c.in-Value.number, c.in-Value.value) went c.saturating_add.ensures (c.max.ensures ∙ ap (max c.args.repaired.next) c.saturating_add-in-Value.ensures))

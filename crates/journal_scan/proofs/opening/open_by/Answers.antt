use Rattle.std.proofs.Common.{◌≡◌, [], ◌∷◌, take, ap, sym, ◌∙◌, subst, arith}
use Rattle.line_io.specs.Device.{Wrote}
use Rattle.journal.specs.Store.{Settles}
use Rattle.journal.specs.Logs.{store_of}
use Rattle.journal_scan.specs.Checks.{IsChecked, watched}
use Rattle.journal_scan.proofs.AnewLemmas.{wrote_still}
use Rattle.journal_scan.proofs.opening.open_by.Goals as goal

pub returns-in-Ok-clause-opened : goal.returns-in-Ok-clause-opened
returns-in-Ok-clause-opened g c =
    let L = g.S.Store.line in
    let T = g.S.Store.settled in
    let same = c.resume.ensures.store in
    let one : c.put.result ≡ 1 = omega (arith, c.put.ensures.within, c.if-put-eq0.false) in
    let quiet : (L c.sync.new.self).faults ≡ (L c.put.new.store).faults = grind (arith, c.sync.ensures.quiet, c.is_err.ensures.value, c.is_err.ensures.negation, c.if-is_err.false) in
    let safe : Settles (L c.sync.new.self).told (T c.sync.new.self) = grind (arith, c.sync.ensures.settled, c.is_err.ensures.value, c.is_err.ensures.negation, c.if-is_err.false) in
    let held = ap (λ s. (L s).told) same ∙ c.in-Ok.ensures.held in
    let faults = ap (λ s. (L s).faults) same ∙ c.in-Ok.ensures.quiet in
    let settled = ap T same ∙ c.in-Ok.ensures.settled in
    let w = subst (λ n. Wrote (L c.args.store) (L c.put.new.store) (take n (0 ∷ []))) one c.put.ensures.bytes in
    record {
      wrote = wrote_still (L c.args.store) (L c.put.new.store) (L (store_of c.resume.result)) (0 ∷ []) w (held ∙ c.sync.ensures.held) (omega (arith, faults, quiet));
      quiet = faults ∙ quiet ∙ c.put.ensures.quiet (omega (arith, one));
      settles = subst (λ h. Settles h (T (store_of c.resume.result))) (sym held) (subst (λ t. Settles (L c.sync.new.self).told t) (sym settled) safe);
      checked = subst (λ h. IsChecked g.T.Readable.form g.row.N (watched g.W.Watcher.told g.W.Watcher.halts g.W.Judge.counted c.args.watcher.now c.check.new.watcher) h c.in-Ok.report) (sym held) c.in-Ok.ensures.checked;
      next_is = λ numbers t. c.resume.ensures.next ∙ c.next-next.ensures numbers t;
      ready = c.resume.ensures.ready;
    }

use Rattle.std.proofs.Common.{◌≡◌, ℕ, List, ◌∷◌, ◌++◌, [], None, Some, Err, refl, sym, ap, ◌∙◌, subst, inl, rules}
use Rattle.journal_scan.specs.Closing.{FoundClosed}
use Rattle.journal_scan.specs.Checks.{AreStretches, IsRest, StopsAfter, watched}
use Rattle.journal_scan.specs.declared.checking.CheckError.TheVariants.{Read}
use Rattle.journal_scan.specs.Scanning.{with_zero}
use Rattle.journal_scan.specs.Tallies.{IsTally}
use Rattle.journal_scan.proofs.StretchesLemmas.{none_behind, one_behind, all_behind, left_behind, numbers_more, if_told, checked_to, stops_unread, stops_uncounted}
use Rattle.journal_scan.proofs.checking.check.Goals as goal

pub loop-stretch-init : goal.loop-stretch-init
loop-stretch-init g c = record {
  held = refl;
  settled = refl;
  quiet = refl;
  stretches = [];
  handed = g.met.W.Watcher.laws.nothing c.args.watcher.now;
  tallied = c.new-tally.ensures;
  behind = λ bytes h. none_behind g.T.Readable.form c.args.limit bytes c.in-Ok.scan (c.in-Ok.ensures.begins bytes);
}

pub loop-stretch-preserved : goal.loop-stretch-preserved
loop-stretch-preserved g c =
    let before = c.loop-stretch.invariant in
    let s = c.in-Ok-Some.stretch in
    record {
      held = c.in-Ok-Some.ensures.held ∙ before.held;
      settled = c.in-Ok-Some.ensures.settled ∙ before.settled;
      quiet = c.in-Ok-Some.ensures.quiet ∙ before.quiet;
      stretches = before.stretches ++ s ∷ [];
      handed = g.met.W.Watcher.laws.more _ _ _ _ _ before.handed (search rules);
      tallied = subst (λ ns. IsTally ns c.count_record.new.tally) (sym (numbers_more g.W.Judge.counted before.stretches s)) (c.in-Ok-count_record.ensures.counted _ before.tallied);
      behind = λ bytes h.
          let k = before.behind bytes h in
          let f = subst (λ o. FoundClosed g.T.Readable.form c.args.limit bytes c.loop-stretch.scan c.next.new.self o) c.in-Ok-Some.field-0-is (c.in-Ok-Some.ensures.found c.args.limit bytes (before.held ∙ h) k.closing) in
          one_behind g.T.Readable.form c.args.limit bytes c.loop-stretch.scan c.next.new.self before.stretches k s f;
    }

pub returns-in-Ok-None-clause-checked : goal.returns-in-Ok-None-clause-checked
returns-in-Ok-None-clause-checked g c =
    let before = c.loop-stretch.invariant in
    record {
      stretches = before.stretches;
      handed = before.handed;
      are = if_told (g.S.Store.line c.args.store.now).told (λ bytes. AreStretches g.T.Readable.form c.args.limit (with_zero bytes) (before.stretches ++ [])) (λ bytes h.
          let k = before.behind bytes h in
          let f = subst (λ o. FoundClosed g.T.Readable.form c.args.limit bytes c.loop-stretch.scan c.next.new.self o) c.in-Ok-None.field-0-is (c.in-Ok-None.ensures.found c.args.limit bytes (before.held ∙ h) k.closing) in
          all_behind g.T.Readable.form c.args.limit bytes c.loop-stretch.scan c.next.new.self before.stretches k f);
      tallied = before.tallied;
      rest = if_told (g.S.Store.line c.args.store.now).told (λ bytes. IsRest {V = g.row.T.Denot} bytes None) (λ bytes h. tt);
    }

pub returns-then-is_left_over-clause-checked : goal.returns-then-is_left_over-clause-checked
returns-then-is_left_over-clause-checked g c =
    let before = c.loop-stretch.invariant in
    let s = c.in-Ok-Some.stretch in
    let held = (g.S.Store.line c.args.store.now).told in
    let left = c.is_left_over.ensures.0 c.if-is_left_over.true in
    let ends = λ (bytes : List ℕ) (h : held ≡ Some bytes). (
    let k = before.behind bytes h in
    let f = subst (λ o. FoundClosed g.T.Readable.form c.args.limit bytes c.loop-stretch.scan c.next.new.self o) c.in-Ok-Some.field-0-is (c.in-Ok-Some.ensures.found c.args.limit bytes (before.held ∙ h) k.closing) in
    left_behind g.T.Readable.form c.args.limit bytes c.loop-stretch.scan c.next.new.self before.stretches k s left.0 f) in
    record {
      stretches = before.stretches;
      handed = before.handed;
      are = if_told held (λ bytes. AreStretches g.T.Readable.form c.args.limit (with_zero bytes) (before.stretches ++ s ∷ [])) (λ bytes h. (ends bytes h).0);
      tallied = before.tallied;
      rest = if_told held (λ bytes. IsRest bytes (Some s)) (λ bytes h. ((ends bytes h).1, left.1));
    }

pub returns-in-Err-clause-so_far : goal.returns-in-Err-clause-so_far
returns-in-Err-clause-so_far g c =
    let told = (g.S.Store.line c.args.store.now).told in
    subst (λ e. StopsAfter g.T.Readable.form c.args.limit (watched g.W.Watcher.told g.W.Watcher.halts g.W.Judge.counted c.args.watcher.now c.args.watcher.now) told (Read e)) (sym c.in-Err.ensures.memory)
    (inl (g.met.W.Watcher.laws.nothing c.args.watcher.now))

pub returns-in-Err-next-clause-so_far : goal.returns-in-Err-next-clause-so_far
returns-in-Err-next-clause-so_far g c =
    let before = c.loop-stretch.invariant in
    stops_unread g.T.Readable.form c.args.limit (watched g.W.Watcher.told g.W.Watcher.halts g.W.Judge.counted c.args.watcher.now c.loop-stretch.watcher) (g.S.Store.line c.args.store.now).told c.loop-stretch.scan before.stretches before.handed before.behind
    c.next.new.self c.in-Err-next.e (λ m. c.next.ensures.memory (c.in-Err-next.is ∙ ap (λ x. Err x) m)) (λ m bytes x k. c.next.ensures.lost (c.in-Err-next.is ∙ ap (λ x. Err x) m) c.args.limit bytes (before.held ∙ x) k)

pub returns-in-Err-count_record-clause-so_far : goal.returns-in-Err-count_record-clause-so_far
returns-in-Err-count_record-clause-so_far g c =
    let before = c.loop-stretch.invariant in
    stops_uncounted g.T.Readable.form c.args.limit (watched g.W.Watcher.told g.W.Watcher.halts g.W.Judge.counted c.args.watcher.now c.loop-stretch.watcher) (g.S.Store.line c.args.store.now).told c.loop-stretch.scan before.stretches before.handed before.behind
    c.next.new.self c.in-Ok-Some.stretch (λ bytes h. subst (λ o. FoundClosed g.T.Readable.form c.args.limit bytes c.loop-stretch.scan c.next.new.self o) c.in-Ok-Some.field-0-is (c.in-Ok-Some.ensures.found c.args.limit bytes (before.held ∙ h) (before.behind bytes h).closing))
    (c.in-Err-count_record.ensures.needs _ before.tallied)

pub returns-then-is_err-clause-so_far : goal.returns-then-is_err-clause-so_far
returns-then-is_err-clause-so_far g c =
    let before = c.loop-stretch.invariant in (
      c.loop-stretch.watcher,
      checked_to g.T.Readable.form c.args.limit (watched g.W.Watcher.told g.W.Watcher.halts g.W.Judge.counted c.args.watcher.now c.loop-stretch.watcher) (g.S.Store.line c.args.store.now).told c.loop-stretch.scan before.stretches before.handed before.behind,
      search rules,
    )

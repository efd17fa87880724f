use Rattle.std.proofs.Common.{◌∷◌, [], Err, refl, sym, ap, subst, inl, ◌∙◌, arith, rules}
use Rattle.line_io.specs.Calls.{Wrote-none}
use Rattle.journal_scan.proofs.AnewLemmas.{if_stopped, none_appended, went_so, on_any, found_told, repair_begins, repair_ends, repair_stops, repair_goes, repair_breaks, repair_fits, repair_unread, repair_whole, unread_none}
use Rattle.journal_scan.specs.Repairs.{StopsWhole}
use Rattle.journal_scan.specs.Scanning.{told_with_zero}
use Rattle.journal_scan.specs.declared.repairing.RepairError.TheVariants.{Read}
use Rattle.journal_scan.proofs.repairing.repair.Goals as goal
use Rattle.journal_scan.proofs.repairing.repair.Goals.{in-Ok-sync, in-Err-sync}

pub returns-in_err-buffer-clause-partly : goal.returns-in_err-buffer-clause-partly
returns-in_err-buffer-clause-partly g c = on_any c.from_residual.result _ (none_appended g.T.Readable.form.takes c.args.limit _ _ _ (Wrote-none (g.D.Store.line c.args.to.now)))

pub returns-in-Err-clause-partly : goal.returns-in-Err-clause-partly
returns-in-Err-clause-partly g c = none_appended g.T.Readable.form.takes c.args.limit _ _ _ (Wrote-none (g.D.Store.line c.args.to.now))

pub returns-then-put-eq0-clause-partly : goal.returns-then-put-eq0-clause-partly
returns-then-put-eq0-clause-partly g c = none_appended g.T.Readable.form.takes c.args.limit _ _ _ (went_so _ _ c.put.result 0 (0 ∷ []) (omega arith) c.put.ensures.bytes)

pub loop-stretch-init : goal.loop-stretch-init
loop-stretch-init g c = record {
  held = refl;
  settled = refl;
  read_quiet = refl;
  room = c.in_ok-buffer.ensures.room;
  safe = c.put.ensures.settled;
  quiet = c.put.ensures.quiet (omega arith);
  so_far = repair_begins g.T.Readable.form g.met.T.Exact.writes_back c.args.limit _ _ _ _ c.in-Ok.scan
      (went_so _ _ c.put.result 1 (0 ∷ []) (omega arith) c.put.ensures.bytes) refl refl c.in-Ok.ensures.begins;
}

pub returns-in-Ok-None-clause-repaired : goal.returns-in-Ok-None-clause-repaired
returns-in-Ok-None-clause-repaired g c =
    let before = c.loop-stretch.invariant in
    let found = found_told g.T.Readable.form c.args.limit _ _ c.loop-stretch.scan c.next.new.self _ _ before.held c.in-Ok-None.field-0-is c.in-Ok-None.ensures.found in
    elim c.match-sync.branch [
      | in-Ok-sync w ↦ rw w.result-is (repair_ends g.T.Readable.form g.met.T.Exact.writes_back c.args.limit _ _ before.so_far c.next.new.self _ found c.sync.ensures.held c.sync.ensures.more)
      | in-Err-sync w ↦ rw w.result-is tt
    ]

pub returns-in-Ok-None-clause-partly : goal.returns-in-Ok-None-clause-partly
returns-in-Ok-None-clause-partly g c = on_any c.match-sync.result _ (repair_stops g.T.Readable.form g.met.T.Exact.writes_back c.args.limit _ _ c.loop-stretch.invariant.so_far _ c.sync.ensures.held c.sync.ensures.more)

pub returns-in-Ok-None-clause-unsynced : goal.returns-in-Ok-None-clause-unsynced
returns-in-Ok-None-clause-unsynced g c =
    let before = c.loop-stretch.invariant in
    let found = found_told g.T.Readable.form c.args.limit _ _ c.loop-stretch.scan c.next.new.self _ _ before.held c.in-Ok-None.field-0-is c.in-Ok-None.ensures.found in
    elim c.match-sync.branch [
      | in-Ok-sync w ↦ rw w.result-is tt
      | in-Err-sync w ↦ rw w.result-is (c.loop-stretch.repaired, repair_ends g.T.Readable.form g.met.T.Exact.writes_back c.args.limit _ _ before.so_far c.next.new.self _ found c.sync.ensures.held c.sync.ensures.more)
    ]

pub returns-in-Err-next-clause-partly : goal.returns-in-Err-next-clause-partly
returns-in-Err-next-clause-partly g c = repair_stops g.T.Readable.form g.met.T.Exact.writes_back c.args.limit _ _ c.loop-stretch.invariant.so_far _ refl (omega arith)

pub returns-in-Err-append_answer-clause-partly : goal.returns-in-Err-append_answer-clause-partly
returns-in-Err-append_answer-clause-partly g c =
    let before = c.loop-stretch.invariant in
    let found = found_told g.T.Readable.form c.args.limit _ _ c.loop-stretch.scan c.next.new.self _ _ before.held c.in-Ok-Some.field-0-is c.in-Ok-Some.ensures.found in
    repair_breaks g.T.Readable.form g.met.T.Exact.writes_back c.args.limit _ _ before.so_far c.next.new.self c.in-Ok-Some.stretch found _ _ c.in-Err-append_answer.e c.in-Err-append_answer.ensures.stops

pub returns-in-Err-append_answer-clause-fits : goal.returns-in-Err-append_answer-clause-fits
returns-in-Err-append_answer-clause-fits g c =
    let before = c.loop-stretch.invariant in
    let found = found_told g.T.Readable.form c.args.limit _ _ c.loop-stretch.scan c.next.new.self _ _ before.held c.in-Ok-Some.field-0-is c.in-Ok-Some.ensures.found in
    repair_fits g.T.Readable.form g.met.T.Exact.writes_back c.args.limit _ _ before.so_far c.next.new.self c.in-Ok-Some.stretch found _ _ c.in-Err-append_answer.e (omega (arith, c.deref_mut.ensures.len, before.room)) c.in-Err-append_answer.ensures.stops

pub returns-in-Err-append_answer-clause-unsynced : goal.returns-in-Err-append_answer-clause-unsynced
returns-in-Err-append_answer-clause-unsynced g c = if_stopped g.T.Readable.form.writes _ c.in-Ok-Some.stretch.answer _ _ c.in-Err-append_answer.e _ c.in-Err-append_answer.ensures.stops

pub loop-stretch-preserved : goal.loop-stretch-preserved
loop-stretch-preserved g c =
    let before = c.loop-stretch.invariant in
    let found = found_told g.T.Readable.form c.args.limit _ _ c.loop-stretch.scan c.next.new.self _ _ before.held c.in-Ok-Some.field-0-is c.in-Ok-Some.ensures.found in
    record {
      held = c.in-Ok-Some.ensures.held ∙ before.held;
      settled = c.in-Ok-Some.ensures.settled ∙ before.settled;
      read_quiet = c.in-Ok-Some.ensures.quiet ∙ before.read_quiet;
      room = before.room;
      safe = c.in-Ok-append_answer.ensures.settled ∙ before.safe;
      quiet = c.in-Ok-append_answer.ensures.quiet ∙ before.quiet;
      so_far = repair_goes g.T.Readable.form g.met.T.Exact.writes_back c.args.limit _ _ before.so_far c.next.new.self c.in-Ok-Some.stretch found _ c.in-Ok-append_answer.later c.in-Ok-append_answer.ensures.goes;
    }

pub loop-stretch-preserved-in-Ok-append_answer : goal.loop-stretch-preserved-in-Ok-append_answer
loop-stretch-preserved-in-Ok-append_answer g c =
    let before = c.loop-stretch.invariant in
    let found = found_told g.T.Readable.form c.args.limit _ _ c.loop-stretch.scan c.next.new.self _ _ before.held c.in-Ok-Some.field-0-is c.in-Ok-Some.ensures.found in
    record {
      held = c.in-Ok-Some.ensures.held ∙ before.held;
      settled = c.in-Ok-Some.ensures.settled ∙ before.settled;
      read_quiet = c.in-Ok-Some.ensures.quiet ∙ before.read_quiet;
      room = before.room;
      safe = c.in-Ok-append_answer.ensures.settled ∙ before.safe;
      quiet = c.in-Ok-append_answer.ensures.quiet ∙ before.quiet;
      so_far = repair_goes g.T.Readable.form g.met.T.Exact.writes_back c.args.limit _ _ before.so_far c.next.new.self c.in-Ok-Some.stretch found _ c.in-Ok-append_answer.later c.in-Ok-append_answer.ensures.goes;
    }

pub returns-in_err-buffer-clause-whole : goal.returns-in_err-buffer-clause-whole
returns-in_err-buffer-clause-whole g c = unread_none c.from_residual.result g.T.Readable.form c.args.limit (told_with_zero (g.S.Store.line c.args.from.now).told) (g.D.Store.line c.args.to.now) (search rules)

pub returns-in-Err-clause-whole : goal.returns-in-Err-clause-whole
returns-in-Err-clause-whole g c =
    subst (λ e. StopsWhole g.T.Readable.form c.args.limit (told_with_zero (g.S.Store.line c.args.from.now).told) (g.D.Store.line c.args.to.now) (g.D.Store.line c.args.to.now) (Read e)) (sym c.in-Err.ensures.memory)
    (inl (Wrote-none (g.D.Store.line c.args.to.now)))

pub returns-in-Err-next-clause-whole : goal.returns-in-Err-next-clause-whole
returns-in-Err-next-clause-whole g c =
    let before = c.loop-stretch.invariant in
    repair_unread g.T.Readable.form g.met.T.Exact.writes_back c.args.limit _ _ before.so_far c.next.new.self c.in-Err-next.e
    (λ m. c.next.ensures.memory (c.in-Err-next.is ∙ ap (λ x. Err x) m)) (λ m bytes x k. c.next.ensures.lost (c.in-Err-next.is ∙ ap (λ x. Err x) m) c.args.limit bytes (before.held ∙ x) k)

pub returns-in-Err-append_answer-clause-whole : goal.returns-in-Err-append_answer-clause-whole
returns-in-Err-append_answer-clause-whole g c =
    repair_whole g.T.Readable.form g.met.T.Exact.writes_back c.args.limit _ _ c.loop-stretch.invariant.so_far _ _ c.in-Ok-Some.stretch.answer c.in-Err-append_answer.e c.in-Err-append_answer.ensures.stops

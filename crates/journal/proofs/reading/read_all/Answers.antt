use Rattle.std.proofs.Common.{◌≡◌, ℕ, ◌+◌, ◌-◌, ◌*◌, ◌<◌, ◌≤◌, zero, suc, Option, None, Some, List, [], ◌++◌, length, take, refl, sym, ap, subst, ◌∙◌, arith, rules}
use Rattle.std.specs.Prelude.{IfSome}
use Rattle.std.proofs.lemmas.List.{length-take}
use Rattle.line_io.specs.Calls.{Failed-later, read_quiet, read_failed}
use Rattle.journal.specs.Reading.{HearsMore, IsHanded, ReadByCalls, log_reading, numbering_of, visited}
use Rattle.journal.proofs.HearingLemmas.{read_whole, reads_on, reads_all, reads_none, heard_first, then_more, handed_to, calls_failed, calls_partly, few_calls, cause_on, if_passed, so_far_read}
use Rattle.journal.proofs.reading.read_all.Goals as goal

-- a call that was answered is one fewer
fewer : (before after n : ℕ) (answer : Option ℕ) → after ≡ before - 1 → (before ≡ 0 → answer ≡ None) → answer ≡ Some n → after < before
fewer zero after n answer down spent some = let never = sym (spent refl) ∙ some in cc
fewer (suc before) after n answer down spent some = omega (arith, down)

-- one call more gave at most 1024 bytes more
more_calls : (before mid after at n heard : ℕ) → mid ≤ before → at ≤ 1024 * (before - mid) → after ≡ mid - 1 → after < mid → n ≤ 1024 → heard ≡ at + n → heard ≤ 1024 * (before - after)
more_calls before mid after at n heard down most one some fits on = omega (arith, down, most, one, some, fits, on)

pub loop-n-init : goal.loop-n-init
loop-n-init g c = record {
  held = refl;
  settled = refl;
  calls = omega arith;
  few = omega arith;
  most = omega arith;
  so_far = ([], g.met.V.Visitor.laws.nothing _);
  quiet = refl;
  heard = reads_none (g.S.Store.line c.args.store.now).told
      (λ stream. HearsMore (log_reading (g.M.MessageReader.judging c.args.messages.now) g.row.N c.args.first) (visited g.V.Visitor.took g.V.Visitor.halts c.args.visitor.now c.args.visitor.now) c.new-receiver.result [] (record { next = c.args.first; through = 0; heard = 0 }) stream)
      (heard_first g.V.Visitor.halts g.met.V.Visitor.laws (log_reading (g.M.MessageReader.judging c.args.messages.now) g.row.N c.args.first) c.args.visitor.now c.new-receiver.result c.new-receiver.ensures.after);
}

pub loop-n-preserved : goal.loop-n-preserved
loop-n-preserved g c = record {
  held = c.read_at.ensures.held ∙ c.loop-n.invariant.held;
  settled = c.read_at.ensures.settled ∙ c.loop-n.invariant.settled;
  calls = omega (arith, c.read_at.ensures.calls, c.loop-n.invariant.calls);
  few = search rules;
  most =
      let before = g.S.Store.line c.args.store.now in
      let mid = g.S.Store.line c.loop-n.store in
      let after = g.S.Store.line c.read_at.new.self in
      let n = c.in-Some.n in
      let room = c.read_at.new.room in
      let size : length room ≡ 1024 = search rules in
      let part : length (take n room) ≡ n = length-take n room ∙ omega (arith, c.in-Some.ensures.bound) in
      more_calls before.calls_left mid.calls_left after.calls_left c.loop-n.count.heard n c.in_ok-count-in-Some.count.heard c.loop-n.invariant.calls c.loop-n.invariant.most c.read_at.ensures.calls (fewer _ _ _ _ c.read_at.ensures.calls c.read_at.ensures.spent c.in-Some.is)
      (omega (arith, size, c.in-Some.ensures.bound)) (c.in_ok-count-in-Some.ensures.on ∙ ap (λ x. c.loop-n.count.heard + x) part);
  so_far =
      let before = c.loop-n.invariant.so_far in
      let more = c.in_ok-count-in-Some.ensures.handed in
      (before.0 ++ more.0, g.met.V.Visitor.laws.more _ _ _ _ _ before.1 more.1);
  quiet = read_quiet _ _ _ _ _ c.in-Some.ensures.faults c.loop-n.invariant.quiet;
  heard =
      let P : List ℕ → Type 0 = λ stream. HearsMore (log_reading (g.M.MessageReader.judging c.args.messages.now) g.row.N c.args.first) (visited g.V.Visitor.took g.V.Visitor.halts c.args.visitor.now c.loop-n.visitor) c.loop-n.receiver [] c.loop-n.count stream in
      let Q : List ℕ → Type 0 = λ stream. HearsMore (log_reading (g.M.MessageReader.judging c.args.messages.now) g.row.N c.args.first) (visited g.V.Visitor.took g.V.Visitor.halts c.args.visitor.now c.hear.new.visitor) c.hear.new.receiver [] c.in_ok-count-in-Some.count stream in
      let at = c.loop-n.count.heard in
      let n = c.in-Some.n in
      let room = c.read_at.new.room in
      let part : length (take n room) ≡ n = length-take n room ∙ omega (arith, c.in-Some.ensures.bound) in
      let on : c.in_ok-count-in-Some.count.heard ≡ at + n = c.in_ok-count-in-Some.ensures.on ∙ ap (λ x. at + x) part in
      subst (λ m. IfSome (g.S.Store.line c.args.store.now).told (λ bytes. Q (take m bytes))) (sym on)
      (reads_on (g.S.Store.line c.args.store.now).told c.read_at.new.room c.loop-n.count.heard c.in-Some.n P Q (c.in-Some.ensures.bound) (rw c.loop-n.invariant.held at c.in-Some.ensures.bytes) c.loop-n.invariant.heard
      (λ stream h. then_more g.V.Visitor.halts g.met.V.Visitor.laws (log_reading (g.M.MessageReader.judging c.args.messages.now) g.row.N c.args.first) _ _ _ _ [] h.more _ (stream ++ take c.in-Some.n c.read_at.new.room) h.handed (c.in_ok-count-in-Some.ensures.heard c.args.first stream h.more h.hears)));
}

pub returns-in-None-clause-cause : goal.returns-in-None-clause-cause
returns-in-None-clause-cause g c = Failed-later (g.S.Store.line c.args.store.now) (g.S.Store.line c.loop-n.store) (g.S.Store.line c.read_at.new.self) c.loop-n.invariant.quiet (read_failed (g.S.Store.line c.loop-n.store) (g.S.Store.line c.read_at.new.self) c.in-None.ensures.faults c.in-None.ensures.calls)

pub returns-in-Some-eq0-clause-read : goal.returns-in-Some-eq0-clause-read
returns-in-Some-eq0-clause-read g c =
    let P : List ℕ → Type 0 = λ stream. HearsMore (log_reading (g.M.MessageReader.judging c.args.messages.now) g.row.N c.args.first) (visited g.V.Visitor.took g.V.Visitor.halts c.args.visitor.now c.loop-n.visitor) c.loop-n.receiver [] c.loop-n.count stream in
    let Q : List ℕ → Type 0 = λ bytes. IsHanded (log_reading (g.M.MessageReader.judging c.args.messages.now) g.row.N c.args.first) (visited g.V.Visitor.took g.V.Visitor.halts c.args.visitor.now c.loop-n.visitor) c.loop-n.count.next bytes in
    let room : 0 < length c.read_at.new.room = search rules in
    let nothing : Some c.in-Some-eq0.field-0 ≡ Some 0 = cc in
    reads_all (g.S.Store.line c.args.store.now).told c.loop-n.count.heard P Q (rw c.loop-n.invariant.held at (c.in-Some-eq0.ensures.end nothing room)) c.loop-n.invariant.heard
    (λ stream h. record { answers = h.more; handed = h.handed; read = read_whole (log_reading (g.M.MessageReader.judging c.args.messages.now) g.row.N c.args.first) h.more (numbering_of c.loop-n.count) stream h.hears.read })

pub loop-n-smaller : goal.loop-n-smaller
loop-n-smaller g c = fewer _ _ _ _ c.read_at.ensures.calls c.read_at.ensures.spent c.in-Some.is

pub returns-in-None-clause-so_far : goal.returns-in-None-clause-so_far
returns-in-None-clause-so_far g c =
    let before = g.S.Store.line c.args.store.now in
    let mid = g.S.Store.line c.loop-n.store in
    let after = g.S.Store.line c.read_at.new.self in
    handed_to (log_reading (g.M.MessageReader.judging c.args.messages.now) g.row.N c.args.first) (visited g.V.Visitor.took g.V.Visitor.halts c.args.visitor.now c.loop-n.visitor) c.loop-n.receiver c.loop-n.count (ReadByCalls before after 1) _
    (calls_failed before mid after c.loop-n.count.heard c.loop-n.invariant.few c.loop-n.invariant.calls c.loop-n.invariant.most c.in-None.ensures.calls) c.loop-n.invariant.heard

pub returns-in-None-clause-few : goal.returns-in-None-clause-few
returns-in-None-clause-few g c =
    few_calls (log_reading (g.M.MessageReader.judging c.args.messages.now) g.row.N c.args.first) (visited g.V.Visitor.took g.V.Visitor.halts c.args.visitor.now c.loop-n.visitor) c.loop-n.receiver c.loop-n.count _ _ _ c.loop-n.invariant.heard
    (omega (arith, c.loop-n.invariant.few, c.in-None.ensures.calls))

pub returns-in-Some-eq0-clause-few : goal.returns-in-Some-eq0-clause-few
returns-in-Some-eq0-clause-few g c =
    few_calls (log_reading (g.M.MessageReader.judging c.args.messages.now) g.row.N c.args.first) (visited g.V.Visitor.took g.V.Visitor.halts c.args.visitor.now c.loop-n.visitor) c.loop-n.receiver c.loop-n.count _ _ _ c.loop-n.invariant.heard
    (omega (arith, c.loop-n.invariant.few, c.in-Some-eq0.ensures.calls))

pub returns-in_err-count-in-Some-clause-cause : goal.returns-in_err-count-in-Some-clause-cause
returns-in_err-count-in-Some-clause-cause g c =
    let before = c.loop-n.invariant.so_far in
    if_passed c.from_residual.result c.in_err-count-in-Some.field-0.0 _ c.from_residual.ensures.1
    (cause_on c.in_err-count-in-Some.field-0.0 _ _ _ _ (λ h. (before.0 ++ h.0, h.1, g.met.V.Visitor.laws.more _ _ _ _ _ before.1 h.2, h.3)) c.in_err-count-in-Some.ensures.cause)

pub returns-in_err-count-in-Some-clause-so_far : goal.returns-in_err-count-in-Some-clause-so_far
returns-in_err-count-in-Some-clause-so_far g c =
    let before = g.S.Store.line c.args.store.now in
    let mid = g.S.Store.line c.loop-n.store in
    let after = g.S.Store.line c.read_at.new.self in
    let size : length c.read_at.new.room ≡ 1024 = search rules in
    if_passed c.from_residual.result c.in_err-count-in-Some.field-0.0 _ c.from_residual.ensures.1
    (so_far_read g.met.V.Visitor.laws g.V.Visitor.halts (log_reading (g.M.MessageReader.judging c.args.messages.now) g.row.N c.args.first) c.args.visitor.now c.loop-n.visitor _ c.in_err-count-in-Some.field-0.0 (ReadByCalls before after 1) c.loop-n.receiver c.loop-n.count _ c.read_at.new.room c.in-Some.n
    (rw c.loop-n.invariant.held at c.in-Some.ensures.bytes) c.loop-n.invariant.heard
    (calls_partly before mid after c.loop-n.count.heard c.in-Some.n c.loop-n.invariant.few c.loop-n.invariant.calls c.loop-n.invariant.most c.read_at.ensures.calls (fewer _ _ _ _ c.read_at.ensures.calls c.read_at.ensures.spent c.in-Some.is) (omega (arith, size, c.in-Some.ensures.bound)))
    (c.in_err-count-in-Some.ensures.so_far c.args.first))

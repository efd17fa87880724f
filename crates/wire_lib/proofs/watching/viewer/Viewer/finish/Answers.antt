use Rattle.std.proofs.Common.{◌≡◌, ◌∙◌, ◌<◌, ◌++◌, ◌&&◌, ◌==◌, false, ap, refl, sym, subst, arith}
use Rattle.link.specs.Stream.{begun}
use Rattle.link.specs.Pushes.{begun_length, finished}
use Rattle.link.specs.declared.receiver.Answer.TheVariants as answer
use Rattle.wire_lib.specs.Received.{are_all_values, as_list}
use Rattle.wire_lib.specs.Seen.{CountsThese}
use Rattle.wire_lib.proofs.SeenLemmas.{good_counted, damage_counts, adds_cut, adds_none, counted_plain, cut_is_bad}
use Rattle.wire_lib.proofs.DamageLemmas.{begun_is, end_cut, end_plain}
use Rattle.wire_lib.proofs.WatchedLemmas.{counts_none, sees_cut, sees_plain}
use Rattle.wire_lib.proofs.watching.viewer.Viewer.finish.Goals as goal

pub returns-then-begun-eq0-clause-good : goal.returns-then-begun-eq0-clause-good
returns-then-begun-eq0-clause-good c stream answers h =
    let v = c.args.self.now in
    let b = begun 65536 v.reading.sentinel stream in
    let none : begun_length b ≡ 0 = omega (arith, c.begun_bytes-begun.ensures 65536 v.reading.sentinel stream h.watched.stands.after, c.if-begun-eq0.true) in
    ap (λ w. w && (v.table.damaged == 0)) h.whole ∙ good_counted v.table _ (counted_plain v.table answers b none h.taken.counted)

pub returns-clause-good : goal.returns-clause-good
returns-clause-good c stream answers h =
    let s = c.args.self.now.reading.sentinel in
    let some : 0 < begun_length (begun 65536 s stream) = omega (arith, c.begun_bytes-begun.ensures 65536 s stream h.watched.stands.after, c.if-begun-eq0.false) in
    subst (λ x. false ≡ are_all_values (answers ++ x)) (sym (adds_cut (begun 65536 s stream) some)) (cut_is_bad answers)

pub returns-then-begun-eq0-clause-counted : goal.returns-then-begun-eq0-clause-counted
returns-then-begun-eq0-clause-counted c stream h =
    let v = c.args.self.now in
    let b = begun 65536 v.reading.sentinel stream in
    let none : begun_length b ≡ 0 = omega (arith, c.begun_bytes-begun.ensures 65536 v.reading.sentinel stream h.after, c.if-begun-eq0.true) in
    subst (λ x. CountsThese x v.table v.table) (sym (adds_none b none)) (counts_none v.table)

pub returns-clause-counted : goal.returns-clause-counted
returns-clause-counted c stream h =
    let v = c.args.self.now in
    let new = c.hear_damage.new.self.table in
    let b = begun 65536 v.reading.sentinel stream in
    let some : 0 < begun_length b = omega (arith, c.begun_bytes-begun.ensures 65536 v.reading.sentinel stream h.after, c.if-begun-eq0.false) in
    subst (λ x. CountsThese x v.table new) (sym (adds_cut b some))
    (damage_counts v.table new answer.Cut refl (λ k. refl) c.in_ok-hear_damage.ensures.damaged c.hear_damage.ensures.rows)

pub returns-then-begun-eq0-clause-kept : goal.returns-then-begun-eq0-clause-kept
returns-then-begun-eq0-clause-kept c stream h =
    let v = c.args.self.now in
    let s = v.reading.sentinel in
    let b = begun 65536 s stream in
    let none : begun_length b ≡ 0 = omega (arith, c.begun_bytes-begun.ensures 65536 s stream h.after, c.if-begun-eq0.true) in
    end_plain s stream (as_list (finished b)) v.table h.few (adds_none b none)

pub returns-clause-kept : goal.returns-clause-kept
returns-clause-kept c stream h =
    let v = c.args.self.now in
    let s = v.reading.sentinel in
    let b = begun 65536 s stream in
    let n = c.begun_bytes-begun.result in
    let is : n ≡ begun_length b = c.begun_bytes-begun.ensures 65536 s stream h.after in
    let some : 0 < begun_length b = omega (arith, is, c.if-begun-eq0.false) in
    end_cut s v.at c.saturating_add-self.result n v.front.items v.table c.hear_damage.new.self.table stream (as_list (finished b)) (adds_cut b some)
    h.came h.behind c.saturating_add-self.ensures (begun_is s n stream is (omega (arith, is, some))) (c.in_ok-hear_damage.ensures.kept h.few)

pub returns-then-begun-eq0-clause-line : goal.returns-then-begun-eq0-clause-line
returns-then-begun-eq0-clause-line c stream h =
    let s = c.args.self.now.reading.sentinel in
    let b = begun 65536 s stream in
    let none : begun_length b ≡ 0 = omega (arith, c.begun_bytes-begun.ensures 65536 s stream h.after, c.if-begun-eq0.true) in
    sees_plain s stream (as_list (finished b)) c.args.lines.now.items (adds_none b none)

pub returns-clause-line : goal.returns-clause-line
returns-clause-line c stream h =
    let v = c.args.self.now in
    let s = v.reading.sentinel in
    let b = begun 65536 s stream in
    let n = c.begun_bytes-begun.result in
    let is : n ≡ begun_length b = c.begun_bytes-begun.ensures 65536 s stream h.after in
    let some : 0 < begun_length b = omega (arith, is, c.if-begun-eq0.false) in
    sees_cut s v.at c.saturating_add-self.result n v.front.items stream (as_list (finished b))
    c.args.lines.now.items c.hear_damage.new.lines.items (adds_cut b some) h.came h.behind c.saturating_add-self.ensures
    (begun_is s n stream is (omega (arith, is, some))) c.in_ok-hear_damage.ensures.line

use Rattle.std.proofs.Common.{length, drop, ◌-◌, ◌∙◌, ap, sym, inl, inr, arith, subst, ◌≡◌, take}
use Rattle.std.proofs.lemmas.List.{length-drop, length-take}
use Rattle.line_io.specs.Device.{Wrote}
use Rattle.line_io.specs.Calls.{Wrote-then}
use Rattle.journal.proofs.MovingLemmas.{moved_bound, moved_more, quiet_write, taken_whole}
use Rattle.journal.proofs.stores.putting.put.Goals as goal

pub loop-at-preserved : goal.loop-at-preserved
loop-at-preserved g c =
    let bytes = c.args.bytes.now in
    let at = c.loop-at.at in
    let n = c.unwrap_or-taken.result in
    record {
      within = omega (arith, moved_bound c.append.result _ n c.unwrap_or-taken.ensures c.append.ensures.bound, length-take (length bytes - at) (drop at bytes), length-drop at bytes);
      calls = omega (arith, c.append.ensures.calls, c.loop-at.invariant.calls);
      settled = c.append.ensures.settled ∙ c.loop-at.invariant.settled;
      quiet = quiet_write _ _ _ _ _ _ n c.unwrap_or-taken.ensures c.append.ensures.faults c.loop-at.invariant.quiet c.if-taken-eq0.false;
      written = subst (λ b. Wrote (g.S.Store.line c.args.store.now) (g.S.Store.line c.append.new.self) b)
          (moved_more bytes at n c.append.result c.unwrap_or-taken.ensures) (Wrote-then _ _ _ _ _ c.loop-at.invariant.written c.append.ensures.bytes);
      few = omega (arith, c.append.ensures.calls, c.loop-at.invariant.few, c.if-taken-eq0.false);
      once = inr (λ w. elim c.loop-at.invariant.once [
        | inl h ↦ (
            let all : n ≡ length (take (length bytes - at) (drop at bytes)) = taken_whole c.append.result _ n c.unwrap_or-taken.ensures c.if-taken-eq0.false (c.append.ensures.whole (subst g.S.Store.whole (sym h.1) w)) in
            let same = ap (λ x. (g.S.Store.line x).calls_left) h.1 in (
              omega (arith, h.0, all, length-take (length bytes - at) (drop at bytes), length-drop at bytes),
              omega (arith, c.append.ensures.calls, same),
            ))
        | inr f ↦ absurd (omega (arith, (f w).0, c.loop-at-test.true))
      ]);
    }

pub returns-then-taken-eq0-clause-once : goal.returns-then-taken-eq0-clause-once
returns-then-taken-eq0-clause-once g c w l = elim c.loop-at.invariant.once [
  | inl h ↦ (let same = ap (λ x. (g.S.Store.line x).calls_left) h.1 in omega (arith, c.append.ensures.calls, same))
  | inr f ↦ absurd (omega (arith, (f w).0, c.loop-at-test.true))
]

pub returns-clause-once : goal.returns-clause-once
returns-clause-once g c w l = elim c.loop-at.invariant.once [
  | inl h ↦ absurd (omega (arith, h.0, l, c.loop-at-test.false))
  | inr f ↦ (f w).1
]

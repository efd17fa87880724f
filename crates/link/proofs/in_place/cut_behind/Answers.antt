use Rattle.std.proofs.Common.{refl, arith, inl, inr}
use Rattle.link.proofs.ReadingLemmas.{line_blank, line_unfinished, line_cut}
use Rattle.link.proofs.in_place.cut_behind.Goals as goal

pub returns-then-end-eq0 : goal.returns-then-end-eq0
returns-then-end-eq0 c = (refl, record { parts = λ s is. inl (omega (arith, c.if-end-eq0.true), line_blank s c.args.bytes.now c.args.end is (omega (arith, c.if-end-eq0.true))); lent = tt })

pub returns-then-bytes-end : goal.returns-then-bytes-end
returns-then-bytes-end c = (refl, record { parts = λ s is. inr (omega (arith, c.if-end-eq0.false), line_unfinished s c.args.bytes.now c.args.end is (λ z. absurd (omega (arith, z, c.if-end-eq0.false))) c.if-bytes-end.true); lent = tt })

pub returns : goal.returns
returns c =
    let cut = c.split_at_mut.ensures in
    (((refl, refl), λ x y. refl), record { parts = λ s is. line_cut s c.args.bytes.now c.args.end is _ _ (λ z. absurd (omega (arith, z, c.if-end-eq0.false))) (omega (arith, c.if-bytes-end.false)) cut.front cut.back; lent = tt })

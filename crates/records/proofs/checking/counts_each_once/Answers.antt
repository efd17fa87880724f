use Rattle.std.proofs.Common.{sym, ◌∙◌}
use Rattle.std.proofs.lemmas.Bool.{eqb-true, eq-eqb}
use Rattle.records.proofs.checking.counts_each_once.Goals as goal

pub returns-then-misses_none : goal.returns-then-misses_none
returns-then-misses_none c numbers t =
    let counted = c.counted.ensures numbers t in
    let next = c.next.ensures numbers t in (
      λ h. record { none_missing = (c.misses_none.ensures numbers t).0 c.if-misses_none.true; as_many = sym counted ∙ eqb-true _ _ h ∙ next },
      λ e. eq-eqb _ _ (counted ∙ e.as_many ∙ sym next),
    )

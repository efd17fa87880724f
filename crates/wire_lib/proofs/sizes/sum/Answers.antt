use Rattle.std.proofs.Common.{◌≡◌, ◌∙◌, ◌+◌, sym, subst, Some, arith}
use Rattle.std.proofs.lemmas.List.{take_all}
use Rattle.wire_lib.specs.Sizes.{sum_size}
use Rattle.wire_lib.proofs.SizesLemmas.{sum_on, sum_within, some_same, none_within, past_is}
use Rattle.wire_lib.proofs.sizes.sum.Goals as goal

pub loop-field-preserved : goal.loop-field-preserved
loop-field-preserved c =
    sum_on c.args.sizes.now c.args.fields.now c.loop-field.field-index c.loop-field.total c.in_ok-size_at.field-0 c.in_ok-total.total
    c.loop-field-test.true c.loop-field.invariant (sym c.size_at.ensures ∙ c.in_ok-size_at.was) (omega (arith, c.in_ok-total.ensures))

pub returns-clause-some : goal.returns-clause-some
returns-clause-some c =
    subst (λ xs. sum_size c.args.sizes.now xs ≡ Some c.loop-field.total)
    (take_all c.loop-field.field-index c.args.fields.now c.loop-field-test.false) c.loop-field.invariant

pub returns-in_err-size_at-clause-none : goal.returns-in_err-size_at-clause-none
returns-in_err-size_at-clause-none c h m e =
    let w = sum_within c.args.sizes.now c.args.fields.now c.loop-field.field-index c.loop-field.total m e c.loop-field-test.true c.loop-field.invariant in
    none_within _ (sym c.size_at.ensures ∙ c.in_err-size_at.was) w.0 w.1

pub returns-in_err-total-clause-none : goal.returns-in_err-total-clause-none
returns-in_err-total-clause-none c h m e =
    let x = c.in_ok-size_at.field-0 in
    let w = sum_within c.args.sizes.now c.args.fields.now c.loop-field.field-index c.loop-field.total m e c.loop-field-test.true c.loop-field.invariant in
    let same = some_same w.0 x _ w.1 (sym c.size_at.ensures ∙ c.in_ok-size_at.was) in
    omega (arith, past_is (c.loop-field.total + x) c.in_err-total.ensures, same, w.2)

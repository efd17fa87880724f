use Rattle.std.proofs.Common.{◌≡◌, ◌∙◌, ◌+◌, sym, subst, Some, arith}
use Rattle.std.proofs.lemmas.List.{take_all}
use Rattle.wire_lib.specs.Sizes.{variant_size}
use Rattle.wire_lib.proofs.SizesLemmas.{variant_on, variant_within, some_same, none_within, past_is}
use Rattle.wire_lib.proofs.sizes.greatest.Goals as goal

pub loop-index-preserved : goal.loop-index-preserved
loop-index-preserved c =
    variant_on c.args.sizes.now c.args.payloads.now c.loop-index.index c.loop-index.most c.in_ok-size_at.field-0 c.max-most.result
    c.loop-index-test.true c.loop-index.invariant (sym c.size_at.ensures ∙ c.in_ok-size_at.was)
    (omega (arith, c.in_ok-size.ensures, c.varint_size.ensures, c.max-most.ensures))

pub returns-clause-some : goal.returns-clause-some
returns-clause-some c =
    subst (λ xs. variant_size c.args.sizes.now 0 xs ≡ Some c.loop-index.most)
    (take_all c.loop-index.index c.args.payloads.now c.loop-index-test.false) c.loop-index.invariant

pub returns-in_err-size_at-clause-none : goal.returns-in_err-size_at-clause-none
returns-in_err-size_at-clause-none c h m e =
    let w = variant_within c.args.sizes.now c.args.payloads.now c.loop-index.index m e c.loop-index-test.true in
    none_within _ (sym c.size_at.ensures ∙ c.in_err-size_at.was) w.0 w.1

pub returns-in_err-size-clause-none : goal.returns-in_err-size-clause-none
returns-in_err-size-clause-none c h m e =
    let x = c.in_ok-size_at.field-0 in
    let w = variant_within c.args.sizes.now c.args.payloads.now c.loop-index.index m e c.loop-index-test.true in
    let same = some_same w.0 x _ w.1 (sym c.size_at.ensures ∙ c.in_ok-size_at.was) in
    omega (arith, past_is (c.varint_size.result + x) c.in_err-size.ensures, c.varint_size.ensures, same, w.2)

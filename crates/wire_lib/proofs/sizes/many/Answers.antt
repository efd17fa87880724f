use Rattle.std.proofs.Common.{◌≡◌, ◌*◌, Some, refl, sym, subst, arith}
use Rattle.wire_lib.specs.Sizes.{so_many}
use Rattle.wire_lib.proofs.SizesLemmas.{many_is, many_within, some_same, none_within, past_64}
use Rattle.wire_lib.proofs.sizes.many.Goals as goal

pub returns-then-count-eq0-clause-some : goal.returns-then-count-eq0-clause-some
returns-then-count-eq0-clause-some c = subst (λ z. so_many z c.args.inner ≡ Some 0) (sym c.if-count-eq0.true) refl

pub returns-clause-some : goal.returns-clause-some
returns-clause-some c =
    many_is c.args.count c.in_ok-size.size c.args.inner c.checked_mul.result (omega (arith, c.if-count-eq0.false)) c.in_ok-size.was c.checked_mul.ensures

pub returns-in_err-size-clause-none : goal.returns-in_err-size-clause-none
returns-in_err-size-clause-none c h m e =
    let w = many_within c.args.count c.args.inner m (omega (arith, c.if-count-eq0.false)) e in
    none_within _ c.in_err-size.was w.0 w.1

pub returns-clause-none : goal.returns-clause-none
returns-clause-none c h m e =
    let a = c.in_ok-size.size in
    let w = many_within c.args.count c.args.inner m (omega (arith, c.if-count-eq0.false)) e in
    let all = subst (λ z. z * c.args.count ≡ m) (some_same w.0 a c.args.inner w.1 c.in_ok-size.was) w.2 in
    omega (arith, past_64 c.checked_mul.result (a * c.args.count) c.checked_mul.ensures h, all)

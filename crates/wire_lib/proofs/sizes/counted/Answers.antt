use Rattle.std.proofs.Common.{◌≡◌, ◌+◌, ◌*◌, ◌<◌, ℕ, length, Option, Some, refl, sym, subst, arith}
use Rattle.postcard_tree.specs.Spelling.{varint}
use Rattle.wire_lib.specs.Sizes.{counted_size, so_many}
use Rattle.wire_lib.proofs.SizesLemmas.{both_is, varint_of_none, counted_within, some_same, none_within, past_is, past_64}
use Rattle.wire_lib.proofs.sizes.counted.Goals as goal

none_counted : (most : ℕ) (element : Option ℕ) → most ≡ 0 → counted_size most element ≡ Some 1
none_counted most element e =
    subst (λ n. counted_size n element ≡ Some 1) (sym e)
    (both_is (so_many 0 element) (Some (length (varint 0))) 0 (length (varint 0)) 1 refl refl (omega (arith, varint_of_none)))

-- its size, by that of an element
by_element : (most m a : ℕ) (element : Option ℕ) → 0 < most → counted_size most element ≡ Some m → element ≡ Some a
    → a * most + length (varint most) ≡ m
by_element most m a element l e was =
    let w = counted_within most element m l e in
    subst (λ z. z * most + length (varint most) ≡ m) (some_same w.0 a element w.1 was) w.2

pub returns-then-most-eq0-clause-some : goal.returns-then-most-eq0-clause-some
returns-then-most-eq0-clause-some c = none_counted c.args.most c.args.element c.if-most-eq0.true

pub returns-in_err-size-clause-none : goal.returns-in_err-size-clause-none
returns-in_err-size-clause-none c h m e =
    let w = counted_within c.args.most c.args.element m (omega (arith, c.if-most-eq0.false)) e in
    none_within _ c.in_err-size.was w.0 w.1

pub returns-in_err-all-clause-none : goal.returns-in_err-all-clause-none
returns-in_err-all-clause-none c h m e =
    let a = c.in_ok-size.size in
    let w = by_element c.args.most m a c.args.element (omega (arith, c.if-most-eq0.false)) e c.in_ok-size.was in
    omega (arith, past_is (a * c.args.most) c.in_err-all.ensures, w)

pub returns-clause-none : goal.returns-clause-none
returns-clause-none c h m e =
    let a = c.in_ok-size.size in
    let w = by_element c.args.most m a c.args.element (omega (arith, c.if-most-eq0.false)) e c.in_ok-size.was in
    omega (arith, past_64 c.checked_add.result (c.in_ok-all.all + c.varint_size.result) c.checked_add.ensures h, c.in_ok-all.ensures, c.varint_size.ensures, w)

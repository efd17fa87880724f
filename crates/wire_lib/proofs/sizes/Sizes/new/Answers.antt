use Rattle.std.proofs.Common.{◌≡◌, ◌∷◌, [], ℕ, length, List, Option, None, refl, sym, ap, subst, ◌∙◌, arith, length-append}
use Rattle.wire_lib.specs.Sizes.{known_size}
use Rattle.wire_lib.proofs.SizesLemmas.{none_then}
use Rattle.wire_lib.proofs.sizes.Sizes.new.Goals as goal

none_in : (sizes : List (Option ℕ)) → sizes ≡ [] → (place : ℕ) → known_size sizes place ≡ None
none_in sizes e place = subst (λ s. known_size s place ≡ None) (sym e) refl

pub loop-init : goal.loop-init
loop-init c = record {
  many = ap length c.new-known.ensures.items;
  none = none_in c.new-known.result.items c.new-known.ensures.items;
}

pub loop-preserved : goal.loop-preserved
loop-preserved c =
    let old = c.loop.known.items in
    let e = c.in_ok-push.ensures.items in
    record {
      many = ap length e ∙ omega (arith, length-append old (None ∷ []), c.loop.invariant.many);
      none = λ place. subst (λ s. known_size s place ≡ None) (sym e) (none_then old c.loop.invariant.none place);
    }

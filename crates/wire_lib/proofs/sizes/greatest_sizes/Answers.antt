use Rattle.std.proofs.Common.{◌∙◌}
use Rattle.wire_lib.specs.Sizes.{known_size}
use Rattle.wire_lib.proofs.SizesLemmas.{none_within, parts_right}
use Rattle.wire_lib.proofs.sizes.greatest_sizes.Goals as goal

pub returns-clause-bounds : goal.returns-clause-bounds
returns-clause-bounds c = parts_right _ _ (c.find_one.ensures.right c.loop-2.invariant.right)

pub loop-place-init : goal.loop-place-init
loop-place-init c =
    let sizes = c.in_ok-sizes.sizes.known.items in record {
      each = c.in_ok-sizes.ensures.many;
      right = record { each = λ place m n e k. none_within (known_size sizes place) (c.in_ok-sizes.ensures.none place) m k };
    }

pub loop-preserved : goal.loop-preserved
loop-preserved c = record {
  each = c.in_ok-step.ensures.many ∙ c.loop.invariant.each;
  right = c.in_ok-step.ensures.right c.loop.invariant.right;
}

pub loop-2-init : goal.loop-2-init
loop-2-init c = c.loop-place.invariant

pub returns-clause-found : goal.returns-clause-found
returns-clause-found c = c.find_one.ensures.none c.loop-2-test.false c.loop-2.invariant.each

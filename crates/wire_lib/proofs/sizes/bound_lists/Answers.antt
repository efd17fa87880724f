use Rattle.std.proofs.Common.{◌≡◌, ◌∙◌, ℕ, ◌<◌, length, get_or, Some, sym, ap, subst, arith}
use Rattle.std.specs.Prelude.{slice_set}
use Rattle.std.proofs.lemmas.List.Edits.{map_over_more}
use Rattle.schema_table.specs.declared.node.Node.TheVariants as node
use Rattle.wire_lib.specs.Sizes.{node_bounded, AreSizesOf, HaveSizes}
use Rattle.wire_lib.proofs.SizesLemmas.{bounded_is, at_this, at_none, all_mapped}
use Rattle.wire_lib.proofs.sizes.bound_lists.Goals.{in-Some+in-Struct-1, in-Some+in-Enum-1, in-Some+in-Bool-1, in_default}
use Rattle.wire_lib.proofs.sizes.bound_lists.Goals as goal

pub loop-node-preserved : goal.loop-node-preserved
loop-node-preserved c =
    let f = node_bounded c.in_ok-sizes.sizes.items c.args.most in
    let xs = c.args.nodes.now.items in
    let ys = c.loop-node.node-items in
    let i = c.loop-node.node-index in
    let x = get_or ys i c.node-item.result in
    let read : x ≡ get_or ys i x = ap (λ d. get_or ys i d) c.node-item.is in
    let r = c.empty_elements.result in
    let within : i < length xs = omega (arith, ap length c.deref_mut-node-items.ensures.value, c.loop-node-test.true) in
    let more = map_over_more f xs ys i x within c.loop-node.invariant read in
    let told = bounded_is c.deref-in-loop-node.result.now c.in_ok-sizes.sizes.items c.args.most r x c.deref-in-loop-node.ensures.value c.empty_elements.ensures in
    let some = λ (j : ℕ) (e : r ≡ Some j). ap (λ v. slice_set ys i v) (sym (at_this r (f x ≡ x) (λ k. f x ≡ node.ListUpTo c.args.most k) j told e)) ∙ more in
    elim c.match-empty_elements.branch [
      | in-Some+in-Struct-1 w ↦ w.node-items-is ∙ some w.in-Some.inner w.in-Some.is
      | in-Some+in-Enum-1 w ↦ w.node-items-is ∙ some w.in-Some.inner w.in-Some.is
      | in-Some+in-Bool-1 w ↦ w.node-items-is ∙ some w.in-Some.inner w.in-Some.is
      | in_default w ↦
          let none = at_none r (f x ≡ x) (λ k. f x ≡ node.ListUpTo c.args.most k) told w.in_default.is in
          w.node-items-is ∙ ap (λ v. slice_set ys i v) (sym none) ∙ more
    ]

pub returns-clause-bounded : goal.returns-clause-bounded
returns-clause-bounded c =
    let items = c.args.nodes.now.items in
    let same : length c.deref_mut-node-items.result.now ≡ length items = ap length c.deref_mut-node-items.ensures.value in
    record {
      sizes = c.in_ok-sizes.sizes.items;
      right = subst (λ ns. AreSizesOf ns c.in_ok-sizes.sizes.items) c.deref.ensures.value c.in_ok-sizes.ensures.bounds;
      found = subst (λ ns. HaveSizes ns c.in_ok-sizes.sizes.items) c.deref.ensures.value c.in_ok-sizes.ensures.found;
      changed = all_mapped (node_bounded c.in_ok-sizes.sizes.items c.args.most) c.args.nodes.now.len c.loop-node.node-items items c.loop-node.node-index
          (c.loop-node.auto.node-items ∙ same) (sym c.deref_mut-node-items.ensures.len ∙ same) (omega (arith, same, c.loop-node-test.false)) c.loop-node.invariant;
    }

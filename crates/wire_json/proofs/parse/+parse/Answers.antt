use Rattle.std.proofs.Common.{◌≡◌, ◌≢◌, ◌&&◌, true, false, ◌+◌, ◌-◌, ◌++◌, ◌∷◌, [], Some, None, ap, refl, sym, ◌∙◌, subst, arith, rules, drop, get_or, length}
use Rattle.std.specs.List.{slice_get}
use Rattle.std.proofs.Math.ListN.{drop_of_length-le}
use Rattle.std.proofs.lemmas.Grind.{common_steps}
use Rattle.std.proofs.lemmas.List.{drop_more}
use Rattle.json.specs.Json.{array, no_items, no_members, null, object}
use Rattle.json.specs.declared.value.Value.{the_lemmas}
use Rattle.json.specs.Value.{items_view, members_view, value_view}
use Rattle.schema_table.specs.declared.node.Node.TheVariants as node
use Rattle.schema_table.specs.Telling.{names_at, node_at}
use Rattle.schema_table.specs.Schemas.{EachHas, FieldsHave}
use Rattle.schema_table.specs.Looks.{first_is_key, is_float_named, is_map_named, pair_node}
use Rattle.wire_json.specs.Meant.{HasOnlyFields, HasShape, IsPresent, KeyMeans, Means, MeansElements, MeansField, MeansFields, MeansItems, MeansList, MeansMember, MeansMembers, MeansStruct, MeansValue, held_json}
use Rattle.wire_json.specs.Parsed.{IsOfNode, IsOfType}
use Rattle.wire_json.specs.InRange.{Fits}
use Rattle.wire_json.specs.Refused.{IfWrong, IsNumberNode, NoneOf}
use Rattle.wire_json.proofs.NumberRefusals.{number_node, wrong_as}
use Rattle.wire_json.proofs.LeafRefusals.{and_true}
use Rattle.wire_json.proofs.RefusedLemmas.{array_none, field_none, item_none, list_none, list_up_to_none, long_none, map_means, map_none, member_none, no_held, no_key, no_float, no_pair, none_at, none_deep, none_named, none_place, number_node_none, option_none, other_length_none, payload_none, struct_none}
use Rattle.wire_json.proofs.ParsedLemmas.{at_place, ok_as, leaf_ok, so_more, so_all, of_struct, of_list, of_list_up_to, of_array, of_variant, of_pair, FieldsFrom, struct_means, member_means, list_means, means_at, variant_means}
use Rattle.wire_json.proofs.parse.+parse.Goals.{of_node-in_default-via-in-LE+else-matches, of_node-in-Float, of_node-in_default-matches, of_node-in_default-via-in_default}
use Rattle.wire_json.proofs.parse.+parse.Goals as goal

pub group-returns-clause-of_type : goal.group-returns-clause-of_type
group-returns-clause-of_type t c =
    of_struct c.args.depth c.args.schema.now.nodes.items c.args.fields.now c.loop-place.items
    (so_all (FieldsHave (IsOfType c.args.depth c.args.schema.now.nodes.items)) c.args.fields.now (drop c.loop-place.place-index c.args.fields.now) [] c.loop-place.items.items
    (drop_of_length-le c.args.fields.now c.loop-place-test.false) tt c.loop-place.invariant.1)

pub member-returns-clause-of_type : goal.member-returns-clause-of_type
member-returns-clause-of_type t c =
    let e : pair_node (node_at c.args.schema.now c.args.place) ≡ Some (c.in-Some.first, c.in-Some.second) = search rules in
    ok_as c.two_parts.result (λ v h. of_pair c.args.schema.now c.args.depth c.args.place (c.in-Some.first, c.in-Some.second) _ _ v (omega (arith, c.if-depth-eq0.false)) e c.in_ok-key.ensures.of_type c.in_ok-held.ensures.of_type h) c.two_parts.ensures.group

pub of_node-returns-in-Bool-clause-of_type : goal.of_node-returns-in-Bool-clause-of_type
of_node-returns-in-Bool-clause-of_type t c = rw c.in-Bool.is (leaf_ok c.args.depth c.args.schema.now.nodes.items node.Bool c.boolean.result c.boolean.ensures.of_type)

pub of_node-returns-in-Char-clause-of_type : goal.of_node-returns-in-Char-clause-of_type
of_node-returns-in-Char-clause-of_type t c = rw c.in-Char.is (leaf_ok c.args.depth c.args.schema.now.nodes.items node.Char c.character.result c.character.ensures.of_type)

pub of_node-returns-in-Text-clause-of_type : goal.of_node-returns-in-Text-clause-of_type
of_node-returns-in-Text-clause-of_type t c = rw c.in-Text.is (leaf_ok c.args.depth c.args.schema.now.nodes.items node.Text c.text.result c.text.ensures.of_type)

pub of_node-returns-in-TextUpTo-clause-of_type : goal.of_node-returns-in-TextUpTo-clause-of_type
of_node-returns-in-TextUpTo-clause-of_type t c = rw c.in-TextUpTo.is (leaf_ok c.args.depth c.args.schema.now.nodes.items (node.TextUpTo c.in-TextUpTo.most) c.short_text.result c.short_text.ensures.of_type)

pub of_node-returns-in-Bytes-clause-of_type : goal.of_node-returns-in-Bytes-clause-of_type
of_node-returns-in-Bytes-clause-of_type t c = rw c.in-Bytes.is (leaf_ok c.args.depth c.args.schema.now.nodes.items node.Bytes c.bytes.result c.bytes.ensures.of_type)

pub of_node-returns-in-LE-clause-of_type : goal.of_node-returns-in-LE-clause-of_type
of_node-returns-in-LE-clause-of_type t c = rw c.in-LE.is (leaf_ok c.args.depth c.args.schema.now.nodes.items (node.LE c.in-LE.of) c.float.result c.float.ensures.of_type)

pub of_node-returns-in_ok-list-in-List-clause-of_type : goal.of_node-returns-in_ok-list-in-List-clause-of_type
of_node-returns-in_ok-list-in-List-clause-of_type t c = rw c.in-List.is (of_list c.args.depth c.args.schema.now.nodes.items c.in-List.inner c.in_ok-list-in-List.field-0 c.in_ok-list-in-List.ensures.of_type)

pub of_node-returns-in_ok-list-in-ListUpTo-clause-of_type : goal.of_node-returns-in_ok-list-in-ListUpTo-clause-of_type
of_node-returns-in_ok-list-in-ListUpTo-clause-of_type t c =
    let n = node.ListUpTo c.in-ListUpTo.most c.in-ListUpTo.inner in
    rw c.in-ListUpTo.is
    (ok_as c.list_up_to.result (λ v h. subst (IsOfNode c.args.depth c.args.schema.now.nodes.items n) (sym h.0)
    (of_list_up_to c.args.depth c.args.schema.now.nodes.items c.in-ListUpTo.most c.in-ListUpTo.inner c.in_ok-list-in-ListUpTo.field-0 h.1 c.in_ok-list-in-ListUpTo.ensures.of_type)) c.list_up_to.ensures.short)

pub of_node-returns-in_ok-elements-in-Array-clause-of_type : goal.of_node-returns-in_ok-elements-in-Array-clause-of_type
of_node-returns-in_ok-elements-in-Array-clause-of_type t c =
    let n = node.Array c.in-Array.count c.in-Array.inner in
    rw c.in-Array.is
    (ok_as c.array.result (λ v h. subst (IsOfNode c.args.depth c.args.schema.now.nodes.items n) (sym h.0)
    (of_array c.args.depth c.args.schema.now.nodes.items c.in-Array.count c.in-Array.inner c.in_ok-elements-in-Array.field-0 h.1 c.in_ok-elements-in-Array.ensures.of_type)) c.array.ensures.counted)

pub variant-returns-in_ok-new-in-Ok-clause-of_type : goal.variant-returns-in_ok-new-in-Ok-clause-of_type
variant-returns-in_ok-new-in-Ok-clause-of_type t c =
    of_variant c.args.depth c.args.schema.now.nodes.items c.args.payloads.now c.in-Some-index_of.index c.in_ok-new-in-Ok.field-0 (omega (arith, c.if-index-payloads.false)) (omega arith)
    (rw c.in_ok-new-in-Ok.ensures.ok c.in-Ok.ensures.of_type)

pub value-returns-clause-of_type : goal.value-returns-clause-of_type
value-returns-clause-of_type t c =
    let e : slice_get c.args.schema.now.nodes.items c.args.place ≡ Some c.in-Some.node.now = search rules in
    ok_as c.of_node.result (λ v h. at_place c.args.depth c.args.schema.now.nodes.items c.args.place c.in-Some.node.now v (omega (arith, c.if-depth-eq0.false)) e h) c.of_node.ensures.of_type

pub group-loop-place-preserved : goal.group-loop-place-preserved
group-loop-place-preserved t c =
    let all = c.args.fields.now in
    let n = c.loop-place.place-index in
    let left : drop n all ≡ get_or all n 0 ∷ drop (n + 1) all = drop_more all n 0 c.loop-place-test.true in
    let pushed : c.push.new.self.items ≡ c.loop-place.items.items ++ c.in-Ok.item ∷ [] = grind (arith, common_steps) in
    let here : c.len.result ≡ n = omega (arith, c.loop-place.invariant.0) in (
      grind (arith, common_steps),
      rw pushed (so_more (FieldsHave (IsOfType c.args.depth c.args.schema.now.nodes.items)) all (drop n all) (drop (n + 1) all) c.loop-place.items.items c.in-Ok.item (λ more k. subst (λ z. FieldsHave (IsOfType c.args.depth c.args.schema.now.nodes.items) z (c.in-Ok.item ∷ more)) (sym left) (c.in-Ok.ensures.of_type, k)) c.loop-place.invariant.1),
      rw pushed (so_more (FieldsFrom c.args.names.now (value_view c.args.json.now) (λ i. Means c.args.schema.now c.args.depth i None)) (0, all) (n, drop n all) (n + 1, drop (n + 1) all) c.loop-place.items.items c.in-Ok.item (λ more k. subst (λ z. MeansFields c.args.names.now (value_view c.args.json.now) (λ i. Means c.args.schema.now c.args.depth i None) n z (c.in-Ok.item ∷ more)) (sym left) (rw here at c.in-Ok.ensures.means, k)) c.loop-place.invariant.2),
    )

pub group-returns-clause-means : goal.group-returns-clause-means
group-returns-clause-means t c =
    let all = c.args.fields.now in
    let left = drop c.loop-place.place-index all in
    let shape : HasShape c.args.names.now (length all) (value_view c.args.json.now) = search rules in
    let only : HasOnlyFields c.args.names.now (value_view c.args.json.now) = search rules in
    struct_means c.args.names.now all (λ i. Means c.args.schema.now c.args.depth i None) (value_view c.args.json.now) c.loop-place.items shape only
    (so_all (FieldsFrom c.args.names.now (value_view c.args.json.now) (λ i. Means c.args.schema.now c.args.depth i None)) (0, all) (c.loop-place.place-index, left) (c.loop-place.place-index, []) c.loop-place.items.items (ap (λ z. (c.loop-place.place-index, z)) (drop_of_length-le all c.loop-place-test.false)) tt c.loop-place.invariant.2)

pub items-returns-clause-means : goal.items-returns-clause-means
items-returns-clause-means t c =
    let all = c.args.elements.now in
    so_all (MeansItems (Means c.args.schema.now c.args.depth c.args.place None)) (items_view all) (items_view (drop c.loop-element.element-index all)) no_items c.loop-element.items.items
    (ap items_view (drop_of_length-le all c.loop-element-test.false)) tt c.loop-element.invariant.1

pub pairs-returns-clause-means : goal.pairs-returns-clause-means
pairs-returns-clause-means t c =
    let all = c.args.members.now in
    so_all (MeansMembers (λ s. Means c.args.schema.now c.args.depth c.args.place (Some s))) (members_view all) (members_view (drop c.loop-key.key-index all)) no_members c.loop-key.items.items
    (ap members_view (drop_of_length-le all c.loop-key-test.false)) tt c.loop-key.invariant.1

pub member-returns-clause-means : goal.member-returns-clause-means
member-returns-clause-means t c =
    let e : pair_node (node_at c.args.schema.now c.args.place) ≡ Some (c.in-Some.first, c.in-Some.second) = search rules in
    ok_as c.two_parts.result (λ v h. member_means c.args.schema.now c.args.depth c.args.place (c.in-Some.first, c.in-Some.second) c.args.key.now (value_view c.args.json.now) c.in_ok-key.key c.in_ok-held.held v
    (omega (arith, c.if-depth-eq0.false)) e c.in_ok-key.ensures.means c.in_ok-held.ensures.means h) c.two_parts.ensures.group

pub of_node-returns-in_ok-list-in-ListUpTo-clause-means : goal.of_node-returns-in_ok-list-in-ListUpTo-clause-means
of_node-returns-in_ok-list-in-ListUpTo-clause-means t c =
    rw c.in-ListUpTo.is
    (ok_as c.list_up_to.result (λ v h. list_means _ c.in_ok-list-in-ListUpTo.field-0 v h.0 c.in_ok-list-in-ListUpTo.ensures.means) c.list_up_to.ensures.short)

pub value-returns-clause-means : goal.value-returns-clause-means
value-returns-clause-means t c =
    let e : node_at c.args.schema.now c.args.place ≡ Some c.in-Some.node.now = search rules in
    let m : names_at c.args.schema.now c.args.place ≡ Some c.in-Some-names_of.names.now = search rules in
    ok_as c.of_node.result (λ v h. means_at c.args.schema.now c.args.depth c.args.place c.in-Some.node.now c.in-Some-names_of.names.now (value_view c.args.json.now) v (omega (arith, c.if-depth-eq0.false)) e m h) c.of_node.ensures.means

pub variant-returns-in_ok-new-in-Ok-clause-means : goal.variant-returns-in_ok-new-in-Ok-clause-means
variant-returns-in_ok-new-in-Ok-clause-means t c =
    variant_means c.args.schema.now (Some c.args.names.now) c.args.payloads.now (λ i. Means c.args.schema.now c.args.depth i None) (value_view c.args.json.now) c.in-Some-index_of.index c.in_ok-new-in-Ok.field-0 c.in-Some.name.now (held_json c.in-Some.held)
    (search rules) (search rules) (omega (arith, c.if-index-payloads.false)) (rw c.in_ok-new-in-Ok.ensures.ok c.in-Ok.ensures.means)

pub elements-returns-in-Array-clause-means : goal.elements-returns-in-Array-clause-means
elements-returns-in-Array-clause-means t c =
    let e : value_view c.args.json.now ≡ array (items_view c.in-Array.elements.items) = search (rules, the_lemmas) in
    rw e (rw c.deref.ensures.value at c.items.ensures.means)

pub elements-returns-in-Array-clause-refused : goal.elements-returns-in-Array-clause-refused
elements-returns-in-Array-clause-refused t c =
    let e : value_view c.args.json.now ≡ array (items_view c.in-Array.elements.items) = search (rules, the_lemmas) in
    rw e (rw c.deref.ensures.value at c.items.ensures.refused)

pub group-returns-in_err-push-in-Ok-clause-refused : goal.group-returns-in_err-push-in-Ok-clause-refused
group-returns-in_err-push-in-Ok-clause-refused t c = let f : IfWrong c.from_residual.result ⊥ = search rules in wrong_as c.from_residual.result (λ x. absurd x) f

pub group-returns-in-Err-clause-refused : goal.group-returns-in-Err-clause-refused
group-returns-in-Err-clause-refused t c wrong =
    let all = c.args.fields.now in
    let n = c.loop-place.place-index in
    let means = MeansValue c.args.schema.now c.args.depth in
    let here : c.len.result ≡ 0 + n = omega (arith, c.loop-place.invariant.0) in
    let none : NoneOf (Fits c.args.schema.now c.args.depth (get_or all n 0)) (MeansField c.args.names.now (value_view c.args.json.now) (means (get_or all n 0)) c.len.result) = c.in-Err.ensures.refused (c.inside_field.ensures wrong) in
    struct_none c.args.depth c.args.schema.now.nodes.items all (MeansStruct (Some c.args.names.now) all means (value_view c.args.json.now)) (λ vs h m. field_none (Fits c.args.schema.now c.args.depth) c.args.names.now (value_view c.args.json.now) means 0 n all (drop (n + 1) all) (get_or all n 0)
    (drop_more all n 0 c.loop-place-test.true) (subst (λ z. NoneOf (Fits c.args.schema.now c.args.depth (get_or all n 0)) (MeansField c.args.names.now (value_view c.args.json.now) (means (get_or all n 0)) z)) here none) vs h m.2)

pub items-returns-in_err-push-in-Ok-clause-refused : goal.items-returns-in_err-push-in-Ok-clause-refused
items-returns-in_err-push-in-Ok-clause-refused t c = let f : IfWrong c.from_residual.result ⊥ = search rules in wrong_as c.from_residual.result (λ x. absurd x) f

pub items-returns-in-Err-clause-refused : goal.items-returns-in-Err-clause-refused
items-returns-in-Err-clause-refused t c wrong =
    item_none (Fits c.args.schema.now c.args.depth c.args.place) (MeansValue c.args.schema.now c.args.depth c.args.place) c.args.elements.now c.loop-element.element-index c.element-item.result c.loop-element-test.true c.element-item.is (c.in-Err.ensures.refused (c.inside_element.ensures wrong))

pub list-returns-in-Map-Object-clause-means : goal.list-returns-in-Map-Object-clause-means
list-returns-in-Map-Object-clause-means t c =
    let keys = first_is_key c.args.schema.now (pair_node (node_at c.args.schema.now c.args.place)) in
    let map : is_map_named (Some c.args.names.now) ≡ true = rw c.in-Map-Object.is-0 refl in
    let text : keys ≡ true = sym c.has_text_keys.ensures ∙ c.if-has_text_keys.true in
    let e : value_view c.args.json.now ≡ object (members_view c.in-Map-Object.members.items) = search (rules, the_lemmas) in
    map_means (is_map_named (Some c.args.names.now) && keys) (node_at c.args.schema.now c.args.place) (MeansValue c.args.schema.now c.args.depth c.args.place) (MeansMember c.args.schema.now c.args.depth c.args.place) (value_view c.args.json.now) (members_view c.in-Map-Object.members.items) c.pairs.result e
    (and_true (is_map_named (Some c.args.names.now)) keys map text) (rw c.deref.ensures.value at c.pairs.ensures.means)

pub list-returns-in-Map-Object-clause-refused : goal.list-returns-in-Map-Object-clause-refused
list-returns-in-Map-Object-clause-refused t c =
    let keys = first_is_key c.args.schema.now (pair_node (node_at c.args.schema.now c.args.place)) in
    let e : value_view c.args.json.now ≡ object (members_view c.in-Map-Object.members.items) = search (rules, the_lemmas) in
    wrong_as c.pairs.result (map_none (is_map_named (Some c.args.names.now) && keys) (node_at c.args.schema.now c.args.place) (MeansValue c.args.schema.now c.args.depth c.args.place) (MeansMember c.args.schema.now c.args.depth c.args.place) (value_view c.args.json.now) (members_view c.in-Map-Object.members.items)
    (EachHas (Fits c.args.schema.now c.args.depth c.args.place)) e) (rw c.deref.ensures.value at c.pairs.ensures.refused)

pub member-returns-then-depth-eq0-clause-refused : goal.member-returns-then-depth-eq0-clause-refused
member-returns-then-depth-eq0-clause-refused t c wrong = none_deep c.args.schema.now c.args.depth c.args.place (MeansMember c.args.schema.now c.args.depth c.args.place c.args.key.now (value_view c.args.json.now)) c.if-depth-eq0.true

pub member-returns-in_default-clause-refused : goal.member-returns-in_default-clause-refused
member-returns-in_default-clause-refused t c wrong = no_pair c.args.schema.now c.args.depth c.args.place c.args.key.now (value_view c.args.json.now) (search rules)

pub member-returns-in_err-key-clause-refused : goal.member-returns-in_err-key-clause-refused
member-returns-in_err-key-clause-refused t c =
    let e : pair_node (node_at c.args.schema.now c.args.place) ≡ Some (c.in-Some.first, c.in-Some.second) = search rules in
    let f : IfWrong c.from_residual.result (NoneOf (Fits c.args.schema.now (c.args.depth - 1) c.in-Some.first) (KeyMeans c.args.schema.now (c.args.depth - 1) c.in-Some.first c.args.key.now)) = search rules in
    wrong_as c.from_residual.result (no_key c.args.schema.now c.args.depth c.args.place c.args.key.now (value_view c.args.json.now) (c.in-Some.first, c.in-Some.second) (omega (arith, c.if-depth-eq0.false)) e) f

pub member-returns-in_err-held-clause-refused : goal.member-returns-in_err-held-clause-refused
member-returns-in_err-held-clause-refused t c =
    let e : pair_node (node_at c.args.schema.now c.args.place) ≡ Some (c.in-Some.first, c.in-Some.second) = search rules in
    let f : IfWrong c.from_residual-in_err-held.result (NoneOf (Fits c.args.schema.now (c.args.depth - 1) c.in-Some.second) (MeansValue c.args.schema.now (c.args.depth - 1) c.in-Some.second (value_view c.args.json.now))) = search rules in
    wrong_as c.from_residual-in_err-held.result (no_held c.args.schema.now c.args.depth c.args.place c.args.key.now (value_view c.args.json.now) (c.in-Some.first, c.in-Some.second) (omega (arith, c.if-depth-eq0.false)) e) f

pub value-returns-then-depth-eq0-clause-refused : goal.value-returns-then-depth-eq0-clause-refused
value-returns-then-depth-eq0-clause-refused t c wrong = none_deep c.args.schema.now c.args.depth c.args.place (MeansValue c.args.schema.now c.args.depth c.args.place (value_view c.args.json.now)) c.if-depth-eq0.true

pub value-returns-in_default-clause-refused : goal.value-returns-in_default-clause-refused
value-returns-in_default-clause-refused t c wrong = none_place c.args.schema.now c.args.depth c.args.place (MeansValue c.args.schema.now c.args.depth c.args.place (value_view c.args.json.now)) (search rules)

pub value-returns-in_default-names_of-clause-refused : goal.value-returns-in_default-names_of-clause-refused
value-returns-in_default-names_of-clause-refused t c wrong = none_named c.args.schema.now c.args.depth c.args.place (value_view c.args.json.now) (Fits c.args.schema.now c.args.depth c.args.place) (search rules)

pub value-returns-clause-refused : goal.value-returns-clause-refused
value-returns-clause-refused t c =
    let e : node_at c.args.schema.now c.args.place ≡ Some c.in-Some.node.now = search rules in
    let m : names_at c.args.schema.now c.args.place ≡ Some c.in-Some-names_of.names.now = search rules in
    wrong_as c.of_node.result (none_at c.args.schema.now c.args.depth c.args.place c.in-Some.node.now c.in-Some-names_of.names.now (value_view c.args.json.now) (omega (arith, c.if-depth-eq0.false)) e m) c.of_node.ensures.refused

pub variant-returns-in_err-new-in-Ok-clause-refused : goal.variant-returns-in_err-new-in-Ok-clause-refused
variant-returns-in_err-new-in-Ok-clause-refused t c = let f : IfWrong c.from_residual.result ⊥ = search rules in wrong_as c.from_residual.result (λ x. absurd x) f

pub variant-returns-in-Err-clause-refused : goal.variant-returns-in-Err-clause-refused
variant-returns-in-Err-clause-refused t c wrong =
    payload_none c.args.schema.now c.args.depth (Some c.args.names.now) c.args.payloads.now c.in-Some.name.now c.in-Some-index_of.index (value_view c.args.json.now) (held_json c.in-Some.held) (search rules) (search rules) (omega (arith, c.if-index-payloads.false))
    (c.in-Err.ensures.refused (c.inside-in-Err.ensures wrong))

pub pairs-returns-in_err-push-in-Ok-clause-refused : goal.pairs-returns-in_err-push-in-Ok-clause-refused
pairs-returns-in_err-push-in-Ok-clause-refused t c = let f : IfWrong c.from_residual.result ⊥ = search rules in wrong_as c.from_residual.result (λ x. absurd x) f

pub pairs-returns-in-Err-clause-refused : goal.pairs-returns-in-Err-clause-refused
pairs-returns-in-Err-clause-refused t c wrong =
    member_none (Fits c.args.schema.now c.args.depth c.args.place) (MeansMember c.args.schema.now c.args.depth c.args.place) c.args.members.now c.loop-key.key-index c.loop-key-item.result c.loop-key-test.true c.loop-key-item.is (c.in-Err.ensures.refused (c.inside.ensures wrong))

pub option-returns-in_err-new-clause-refused : goal.option-returns-in_err-new-clause-refused
option-returns-in_err-new-clause-refused t c = let f : IfWrong c.from_residual-in_err-new.result ⊥ = search rules in wrong_as c.from_residual-in_err-new.result (λ x. absurd x) f

pub option-returns-in_err-held-clause-refused : goal.option-returns-in_err-held-clause-refused
option-returns-in_err-held-clause-refused t c =
    let n : value_view c.args.json.now ≢ null = search rules in
    let f : IfWrong c.from_residual.result ((j : _) → IsPresent c.args.schema.now c.args.place j (value_view c.args.json.now) → ⊥) = search rules in
    wrong_as c.from_residual.result (λ g. option_none c.args.schema.now c.args.depth c.args.place (value_view c.args.json.now) (MeansValue c.args.schema.now c.args.depth c.args.place) n (λ k p. absurd (g k p))) f

pub of_node-returns-in_err-list-in-List-clause-refused : goal.of_node-returns-in_err-list-in-List-clause-refused
of_node-returns-in_err-list-in-List-clause-refused t c =
    let k = c.in-List.inner in
    let means = MeansList (is_map_named (Some c.args.names.now) && first_is_key c.args.schema.now (pair_node (node_at c.args.schema.now k))) (node_at c.args.schema.now k) (MeansValue c.args.schema.now c.args.depth k) (MeansMember c.args.schema.now c.args.depth k) (value_view c.args.json.now) in
    let f : IfWrong c.from_residual.result (NoneOf (EachHas (Fits c.args.schema.now c.args.depth k)) means) = search rules in
    rw c.in-List.is (wrong_as c.from_residual.result (list_none c.args.depth c.args.schema.now.nodes.items k means) f)

pub of_node-returns-in_err-list-in-ListUpTo-clause-refused : goal.of_node-returns-in_err-list-in-ListUpTo-clause-refused
of_node-returns-in_err-list-in-ListUpTo-clause-refused t c =
    let k = c.in-ListUpTo.inner in
    let means = MeansList (is_map_named (Some c.args.names.now) && first_is_key c.args.schema.now (pair_node (node_at c.args.schema.now k))) (node_at c.args.schema.now k) (MeansValue c.args.schema.now c.args.depth k) (MeansMember c.args.schema.now c.args.depth k) (value_view c.args.json.now) in
    let f : IfWrong c.from_residual-in_err-list-in-ListUpTo.result (NoneOf (EachHas (Fits c.args.schema.now c.args.depth k)) means) = search rules in
    rw c.in-ListUpTo.is (wrong_as c.from_residual-in_err-list-in-ListUpTo.result (list_up_to_none c.args.depth c.args.schema.now.nodes.items c.in-ListUpTo.most k means) f)

pub of_node-returns-in_err-elements-in-Array-clause-refused : goal.of_node-returns-in_err-elements-in-Array-clause-refused
of_node-returns-in_err-elements-in-Array-clause-refused t c =
    let k = c.in-Array.inner in
    let means = MeansElements (node_at c.args.schema.now k) (MeansValue c.args.schema.now c.args.depth k) (value_view c.args.json.now) in
    let f : IfWrong c.from_residual-in_err-elements-in-Array.result (NoneOf (EachHas (Fits c.args.schema.now c.args.depth k)) means) = search rules in
    rw c.in-Array.is (wrong_as c.from_residual-in_err-elements-in-Array.result (array_none c.args.depth c.args.schema.now.nodes.items c.in-Array.count k means) f)

pub of_node-returns-in_ok-list-in-ListUpTo-clause-refused : goal.of_node-returns-in_ok-list-in-ListUpTo-clause-refused
of_node-returns-in_ok-list-in-ListUpTo-clause-refused t c =
    let k = c.in-ListUpTo.inner in
    rw c.in-ListUpTo.is
    (wrong_as c.list_up_to.result (long_none (is_map_named (Some c.args.names.now) && first_is_key c.args.schema.now (pair_node (node_at c.args.schema.now k))) (node_at c.args.schema.now k) (MeansValue c.args.schema.now c.args.depth k) (MeansMember c.args.schema.now c.args.depth k) (value_view c.args.json.now) c.args.depth c.args.schema.now.nodes.items c.in-ListUpTo.most k
    c.in_ok-list-in-ListUpTo.field-0.items c.in_ok-list-in-ListUpTo.ensures.means) c.list_up_to.ensures.refused)

pub of_node-returns-in_ok-elements-in-Array-clause-refused : goal.of_node-returns-in_ok-elements-in-Array-clause-refused
of_node-returns-in_ok-elements-in-Array-clause-refused t c =
    let k = c.in-Array.inner in
    rw c.in-Array.is
    (wrong_as c.array.result (other_length_none (node_at c.args.schema.now k) (MeansValue c.args.schema.now c.args.depth k) (value_view c.args.json.now) c.args.depth c.args.schema.now.nodes.items c.in-Array.count k c.in_ok-elements-in-Array.field-0.items c.in_ok-elements-in-Array.ensures.means) c.array.ensures.refused)

pub of_node-returns-in_default-clause-refused : goal.of_node-returns-in_default-clause-refused
of_node-returns-in_default-clause-refused t c =
    let n = c.args.node.now in
    let number : IsNumberNode n = elim c.in_default.branch [
      | of_node-in_default-via-in-LE+else-matches w ↦ rw w.in-LE.is tt
      | of_node-in_default-via-in_default w ↦ number_node n w.in_default.not-Bool w.in_default.not-Char w.in_default.not-Text w.in_default.not-TextUpTo w.in_default.not-Bytes w.in_default.not-Option w.in_default.not-List w.in_default.not-ListUpTo w.in_default.not-Array w.in_default.not-Struct w.in_default.not-Enum
    ] in
    let plain : (k : _) → n ≡ node.LE k → is_float_named (Some c.args.names.now) ≡ false = elim c.in_default.branch [
      | of_node-in_default-via-in-LE+else-matches w ↦ λ k e. elim w.match-matches.branch [
        | of_node-in-Float w' ↦ absurd (search rules)
        | of_node-in_default-matches w' ↦ no_float c.args.names.now w'.in_default-matches.not-Float
      ]
      | of_node-in_default-via-in_default w ↦ λ k e. absurd (w.in_default.not-LE k e)
    ] in
    wrong_as c.number.result (λ none. number_node_none c.args.schema.now c.args.depth c.args.names.now n (value_view c.args.json.now) number plain (none number)) c.number.ensures.refused

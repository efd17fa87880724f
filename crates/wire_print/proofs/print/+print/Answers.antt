use Rattle.std.proofs.Common.{rules, arith, refl, ap, [], ◌∷◌, zip, Some, None, ◌∙◌, ◌≡◌, ◌-◌, decimal}
use Rattle.std.proofs.Math.ListN.{drop_of_length-le}
use Rattle.std.specs.List.{slice_get}
use Rattle.hex.specs.Hex.{encode_lower}
use Rattle.json.specs.Json.{null, number, string}
use Rattle.json.specs.Tree.{json_tokens}
use Rattle.schema_table.specs.declared.node.Node.TheVariants as node
use Rattle.schema_table.specs.declared.schema.Names.TheVariants as names
use Rattle.schema_table.specs.Telling.{names_at, node_at}
use Rattle.schema_table.specs.declared.value.Value.{out-Value, the_lemmas}
use Rattle.schema_table.specs.declared.value.Value.TheOpen.{Value-F}
use Rattle.schema_table.specs.Looks.{key_text, pair_node, variant_named}
use Rattle.schema_table.specs.Printed.{Shows, ShowsFirst, ShowsNamed, ShowsPart, ShowsVariant, called, first_name, plain_json, two_values}
use Rattle.wire_print.specs.Appended.{member_tokens}
use Rattle.wire_print.proofs.PrintedLemmas.{shown_more, left_at, array_done, object_done, under_done, member_of, member_done, one_value, other_kind, called_first, called_none, held_shown, variant_shown, shows_node, shows_deepest, plain_node, parts_named, object_list, digits_shown, chosen_under, chosen_alone}
use Rattle.wire_print.proofs.print.+print.Goals as goal

pub put-returns-then-style-eq0-clause-json : goal.put-returns-then-style-eq0-clause-json
put-returns-then-style-eq0-clause-json t c =
    one_value c.put_null.result _ _ _ null (shows_deepest _ _ _ _ _ _ c.if-style-eq0.true refl) c.put_null.ensures.json

pub put-returns-in_default-clause-json : goal.put-returns-in_default-clause-json
put-returns-in_default-clause-json t c =
    let f : node_at c.args.style.now.schema.now c.args.place ≡ None = search rules in
    one_value c.put_plain.result _ _ _ (plain_json c.args.style.now.hex (out-Value c.args.value.now)) (shows_node _ _ c.args.style.now.depth (c.args.style.now.depth - 1) _ _ _ None (omega (arith, c.if-style-eq0.false)) f refl) c.put_plain.ensures.json

pub put-returns-in-Option-clause-json : goal.put-returns-in-Option-clause-json
put-returns-in-Option-clause-json t c =
    let f : node_at c.args.style.now.schema.now c.args.place ≡ Some (node.Option c.in-Option.inner) = search rules in
    other_kind c.put_option.result _ _ _ _ c.put_option.ensures.json (λ j k. shows_node _ _ c.args.style.now.depth (c.args.style.now.depth - 1) _ _ j _ (omega (arith, c.if-style-eq0.false)) f k)

pub put-returns-in-Array-clause-json : goal.put-returns-in-Array-clause-json
put-returns-in-Array-clause-json t c =
    let f : node_at c.args.style.now.schema.now c.args.place ≡ Some (node.Array c.in-Array.field-0 c.in-Array.inner) = search rules in
    other_kind c.put_array.result _ _ _ _ c.put_array.ensures.json (λ j k. shows_node _ _ c.args.style.now.depth (c.args.style.now.depth - 1) _ _ j _ (omega (arith, c.if-style-eq0.false)) f k)

pub put-returns-in-Struct-clause-json : goal.put-returns-in-Struct-clause-json
put-returns-in-Struct-clause-json t c =
    let f : node_at c.args.style.now.schema.now c.args.place ≡ Some (node.Struct c.in-Struct.fields) = search rules in
    other_kind c.put_struct.result _ _ _ _ c.put_struct.ensures.json (λ j k. shows_node _ _ c.args.style.now.depth (c.args.style.now.depth - 1) _ _ j _ (omega (arith, c.if-style-eq0.false)) f (rw c.deref.ensures.value at k))

pub put-returns-in-Enum-clause-json : goal.put-returns-in-Enum-clause-json
put-returns-in-Enum-clause-json t c =
    let f : node_at c.args.style.now.schema.now c.args.place ≡ Some (node.Enum c.in-Enum.payloads) = search rules in
    other_kind c.put_enum.result _ _ _ _ c.put_enum.ensures.json (λ j k. shows_node _ _ c.args.style.now.depth (c.args.style.now.depth - 1) _ _ j _ (omega (arith, c.if-style-eq0.false)) f (rw c.deref-in-Enum.ensures.value at k))

pub put-returns-in-LE-clause-json : goal.put-returns-in-LE-clause-json
put-returns-in-LE-clause-json t c =
    let f : node_at c.args.style.now.schema.now c.args.place ≡ Some (node.LE c.in-LE.field-0) = search rules in
    other_kind c.put_fixed.result _ _ _ _ c.put_fixed.ensures.json (λ j k. shows_node _ _ c.args.style.now.depth (c.args.style.now.depth - 1) _ _ j _ (omega (arith, c.if-style-eq0.false)) f k)

pub put-returns-in-List-clause-json : goal.put-returns-in-List-clause-json
put-returns-in-List-clause-json t c =
    let f : node_at c.args.style.now.schema.now c.args.place ≡ Some (node.List c.in-List.inner) = search rules in
    other_kind c.put_list.result _ _ _ _ c.put_list.ensures.json (λ j k. shows_node _ _ c.args.style.now.depth (c.args.style.now.depth - 1) _ _ j _ (omega (arith, c.if-style-eq0.false)) f k)

pub put-returns-in-ListUpTo-clause-json : goal.put-returns-in-ListUpTo-clause-json
put-returns-in-ListUpTo-clause-json t c =
    let f : node_at c.args.style.now.schema.now c.args.place ≡ Some (node.ListUpTo c.in-ListUpTo.field-0 c.in-ListUpTo.inner) = search rules in
    other_kind c.put_list-in-ListUpTo.result _ _ _ _ c.put_list-in-ListUpTo.ensures.json (λ j k. shows_node _ _ c.args.style.now.depth (c.args.style.now.depth - 1) _ _ j _ (omega (arith, c.if-style-eq0.false)) f k)

pub put-returns-in_default-node-clause-json : goal.put-returns-in_default-node-clause-json
put-returns-in_default-node-clause-json t c =
    let f : node_at c.args.style.now.schema.now c.args.place ≡ Some c.in-Some.node.now = search rules in
    let d = c.in_default-node in
    one_value c.put_plain-in_default-node.result _ _ _ (plain_json c.args.style.now.hex (out-Value c.args.value.now)) (shows_node _ _ c.args.style.now.depth (c.args.style.now.depth - 1) _ _ _ _ (omega (arith, c.if-style-eq0.false)) f (plain_node c.args.style.now.hex c.args.style.now.schema.now c.args.place (Shows c.args.style.now.hex c.args.style.now.schema.now (c.args.style.now.depth - 1)) c.in-Some.node.now (out-Value c.args.value.now) d.not-LE d.not-Option d.not-List d.not-ListUpTo d.not-Array d.not-Struct d.not-Enum)) c.put_plain-in_default-node.ensures.json

pub put_items-loop-item-preserved : goal.put_items-loop-item-preserved
put_items-loop-item-preserved t c =
    (shown_more json_tokens _ _ _ _ c.args.items.now _ _ c.item-item.result (left_at c.args.items.now c.loop-item.item-index c.item-item.result c.loop-item-test.true c.item-item.is) c.loop-item.invariant.0 c.in_ok-put.ensures.json, c.in_ok-put.ensures.before ∙ c.loop-item.invariant.1)

pub put_items-returns-clause-json : goal.put_items-returns-clause-json
put_items-returns-clause-json t c =
    array_done c.end_array.result _ _ _ _ _ c.args.items.now _ c.in_ok-begin_array.ensures.ok c.loop-item.invariant.0 (drop_of_length-le c.args.items.now c.loop-item-test.false) c.end_array.ensures.ok

pub put_pairs-loop-item-preserved : goal.put_pairs-loop-item-preserved
put_pairs-loop-item-preserved t c =
    (shown_more member_tokens _ _ _ _ c.args.items.now _ _ c.item-item.result (left_at c.args.items.now c.loop-item.item-index c.item-item.result c.loop-item-test.true c.item-item.is) c.loop-item.invariant.0 c.in_ok-put_pair.ensures.member, c.in_ok-put_pair.ensures.before ∙ c.loop-item.invariant.1)

pub put_pairs-returns-clause-json : goal.put_pairs-returns-clause-json
put_pairs-returns-clause-json t c =
    object_done c.end_object.result _ _ _ _ _ c.args.items.now _ c.in_ok-begin_object.ensures.ok c.loop-item.invariant.0 (drop_of_length-le c.args.items.now c.loop-item-test.false) c.end_object.ensures.ok

pub put_under-returns-clause-json : goal.put_under-returns-clause-json
put_under-returns-clause-json t c =
    under_done c.end_object.result _ _ _ _ _ _ c.args.name.now c.in_ok-begin_object.ensures.ok c.in_ok-key.ensures.ok c.in_ok-put.ensures.json c.end_object.ensures.ok

pub put_tuple-loop-field-preserved : goal.put_tuple-loop-field-preserved
put_tuple-loop-field-preserved t c =
    let first : zip c.loop-field.types.now c.loop-field.parts.now ≡ (c.in-Some.field, c.in-Some.item.now) ∷ zip c.in-Some.types_left.now c.in-Some.parts_left.now = search rules in
    (shown_more json_tokens _ _ _ _ _ _ _ (c.in-Some.field, c.in-Some.item.now) first c.loop-field.invariant.0 c.in_ok-put.ensures.json, c.in_ok-put.ensures.before ∙ c.loop-field.invariant.1)

pub put_tuple-returns-clause-json : goal.put_tuple-returns-clause-json
put_tuple-returns-clause-json t c =
    let none : zip c.loop-field.types.now c.loop-field.parts.now ≡ [] = search rules in
    array_done c.end_array.result _ _ _ _ _ (zip c.args.fields.now c.args.items.now) _ c.in_ok-begin_array.ensures.ok c.loop-field.invariant.0 none c.end_array.ensures.ok

pub put_members-loop-field-preserved : goal.put_members-loop-field-preserved
put_members-loop-field-preserved t c =
    let first : zip c.loop-field.types.now c.loop-field.parts.now ≡ (c.in-Some.field, c.in-Some.item.now) ∷ zip c.in-Some.types_left.now c.in-Some.parts_left.now = search rules in
    let json = c.in_ok-put.ensures.json in
    (shown_more member_tokens _ _ _ _ _ _ _ (first_name c.loop-field.called.now, (c.in-Some.field, c.in-Some.item.now)) (called_first c.loop-field.called.now c.next_name.result.1.now _ _ _ first c.next_name.ensures.others) c.loop-field.invariant.0 (member_of _ _ _ _ c.next_name.result.0.now c.in_ok-key.ensures.ok (json.0, json.1, (c.next_name.ensures.name, json.2))), c.in_ok-put.ensures.before ∙ c.in_ok-key.ensures.room.0 ∙ c.loop-field.invariant.1)

pub put_members-returns-clause-json : goal.put_members-returns-clause-json
put_members-returns-clause-json t c =
    let none : zip c.loop-field.types.now c.loop-field.parts.now ≡ [] = search rules in
    object_done c.end_object.result _ _ _ _ _ (called c.args.names.now (zip c.args.fields.now c.args.items.now)) _ c.in_ok-begin_object.ensures.ok c.loop-field.invariant.0 (called_none c.loop-field.called.now _ none) c.end_object.ensures.ok

pub put_newtype-returns-in-None-clause-json : goal.put_newtype-returns-in-None-clause-json
put_newtype-returns-in-None-clause-json t c =
    let none : zip c.args.fields.now c.args.items.now ≡ [] = search rules in
    let h : ShowsFirst (ShowsPart (Shows c.args.style.now.hex c.args.style.now.schema.now c.args.style.now.depth)) (zip c.args.fields.now c.args.items.now) null = rw none refl in
    one_value c.null.result _ _ _ null h c.null.ensures.ok

pub put_list-returns-then-is_object-clause-json : goal.put_list-returns-then-is_object-clause-json
put_list-returns-then-is_object-clause-json t c =
    let top : out-Value c.args.value.now ≡ Value-F.List c.in-List.items = search (rules, the_lemmas) in
    other_kind c.put_pairs.result _ _ _ _ c.put_pairs.ensures.json (λ j k. object_list c.args.style.now.hex c.args.style.now.schema.now c.args.place c.args.inner (Shows c.args.style.now.hex c.args.style.now.schema.now c.args.style.now.depth) (out-Value c.args.value.now) c.in-List.items c.deref.result.now j top c.deref.ensures.value c.if-is_object.ensures k)

pub put_elements-returns-then-are_digits-clause-json : goal.put_elements-returns-then-are_digits-clause-json
put_elements-returns-then-are_digits-clause-json t c =
    one_value c.put_hex.result _ _ _ (string (encode_lower c.deref.result.now)) (digits_shown _ _ c.args.items.now c.deref.result.now c.if-are_digits.ensures (c.deref.ensures.value ∙ c.in_ok-bytes.ensures)) c.put_hex.ensures.json

pub put_pair-returns-clause-member : goal.put_pair-returns-clause-member
put_pair-returns-clause-member t c =
    let types : pair_node (node_at c.args.style.now.schema.now c.args.pair) ≡ Some (c.in-Some.key, c.in-Some.inner) = search rules in
    let values : two_values (out-Value c.args.item.now) ≡ Some (c.in-Some-two_of.name.now, c.in-Some-two_of.held.now) = search rules in
    member_done c.put.result _ _ _ _ _ (key_text c.args.style.now.schema.now c.in-Some.key c.in-Some-two_of.name.now) c.in_ok-put_key.ensures.key c.put.ensures.json
    (λ j k. held_shown c.args.style.now.schema.now _ _ _ (c.in-Some.key, c.in-Some.inner) (c.in-Some-two_of.name.now, c.in-Some-two_of.held.now) j types values k)

pub put_named-returns-in-Fields-clause-json : goal.put_named-returns-in-Fields-clause-json
put_named-returns-in-Fields-clause-json t c =
    let n : names_at c.args.style.now.schema.now c.args.place ≡ Some (names.Fields c.in-Fields.names) = search rules in
    other_kind c.put_members.result _ _ _ _ c.put_members.ensures.json (λ j k. rw n (rw c.deref.ensures.value at k))

pub put_named-returns-in-Newtype-clause-json : goal.put_named-returns-in-Newtype-clause-json
put_named-returns-in-Newtype-clause-json t c =
    let n : names_at c.args.style.now.schema.now c.args.place ≡ Some (names.Newtype) = search rules in
    other_kind c.put_newtype.result _ _ _ _ c.put_newtype.ensures.json (λ j k. rw n k)

pub put_named-returns-in-Unit-clause-json : goal.put_named-returns-in-Unit-clause-json
put_named-returns-in-Unit-clause-json t c =
    let n : names_at c.args.style.now.schema.now c.args.place ≡ Some names.Unit = search rules in
    let h : ShowsNamed (names_at c.args.style.now.schema.now c.args.place) c.args.fields.now (Shows c.args.style.now.hex c.args.style.now.schema.now c.args.style.now.depth) c.args.items.now null = rw n refl in
    one_value c.null.result _ _ _ null h c.null.ensures.ok

pub put_named-returns-in-Empty-clause-json : goal.put_named-returns-in-Empty-clause-json
put_named-returns-in-Empty-clause-json t c =
    let n : names_at c.args.style.now.schema.now c.args.place ≡ Some names.Empty = search rules in
    let h : ShowsNamed (names_at c.args.style.now.schema.now c.args.place) c.args.fields.now (Shows c.args.style.now.hex c.args.style.now.schema.now c.args.style.now.depth) c.args.items.now null = rw n refl in
    one_value c.null-in-Empty.result _ _ _ null h c.null-in-Empty.ensures.ok

pub put_named-returns-in_default-names-clause-json : goal.put_named-returns-in_default-names-clause-json
put_named-returns-in_default-names-clause-json t c =
    let n : names_at c.args.style.now.schema.now c.args.place ≡ Some c.in-Some.names.now = search rules in
    let d = c.in_default-names in
    other_kind c.put_tuple-in_default-names.result _ _ _ _ c.put_tuple-in_default-names.ensures.json (λ j k. rw n (parts_named c.in-Some.names.now _ _ _ j d.not-Empty d.not-Unit d.not-Newtype d.not-Fields k))

pub put_named-returns-in_default-clause-json : goal.put_named-returns-in_default-clause-json
put_named-returns-in_default-clause-json t c =
    let n : names_at c.args.style.now.schema.now c.args.place ≡ None = search rules in
    other_kind c.put_tuple.result _ _ _ _ c.put_tuple.ensures.json (λ j k. rw n k)

pub put_variant-returns-clause-json : goal.put_variant-returns-clause-json
put_variant-returns-clause-json t c =
    let named : variant_named (names_at c.args.style.now.schema.now c.args.place) c.args.index ≡ Some c.in-Some.name.now = search rules in
    let payload : slice_get c.args.payloads.now c.args.index ≡ Some c.in-Some-payload_of.payload = search rules in
    other_kind c.put_under.result _ _ _ _ c.put_under.ensures.json (λ j k. variant_shown c.args.style.now.schema.now _ _ _ _ c.args.index (Shows c.args.style.now.hex c.args.style.now.schema.now c.args.style.now.depth) c.args.held.now j named payload (chosen_under _ _ _ j c.if-is_empty.ensures k))

pub put_variant-returns-then-is_empty-clause-json : goal.put_variant-returns-then-is_empty-clause-json
put_variant-returns-then-is_empty-clause-json t c =
    let named : variant_named (names_at c.args.style.now.schema.now c.args.place) c.args.index ≡ Some c.in-Some.name.now = search rules in
    let payload : slice_get c.args.payloads.now c.args.index ≡ Some c.in-Some-payload_of.payload = search rules in
    one_value c.put_text.result _ _ _ (string c.in-Some.name.now) (variant_shown c.args.style.now.schema.now _ _ _ _ c.args.index (Shows c.args.style.now.hex c.args.style.now.schema.now c.args.style.now.depth) c.args.held.now _ named payload (chosen_alone _ _ _ c.if-is_empty.ensures)) c.put_text.ensures.json

pub put_variant-returns-in_default-clause-json : goal.put_variant-returns-in_default-clause-json
put_variant-returns-in_default-clause-json t c =
    let named : variant_named (names_at c.args.style.now.schema.now c.args.place) c.args.index ≡ None = search rules in
    let same : c.from.result ≡ c.args.index = search rules in
    let h : ShowsVariant c.args.style.now.schema.now (variant_named (names_at c.args.style.now.schema.now c.args.place) c.args.index) (slice_get c.args.payloads.now c.args.index) c.args.index (Shows c.args.style.now.hex c.args.style.now.schema.now c.args.style.now.depth) c.args.held.now (number (decimal c.from.result)) = rw named (ap (λ x. number (decimal x)) same) in
    one_value c.put_u64.result _ _ _ (number (decimal c.from.result)) h c.put_u64.ensures.json

pub put_variant-returns-in_default-payload_of-clause-json : goal.put_variant-returns-in_default-payload_of-clause-json
put_variant-returns-in_default-payload_of-clause-json t c =
    let named : variant_named (names_at c.args.style.now.schema.now c.args.place) c.args.index ≡ Some c.in-Some.name.now = search rules in
    let payload : slice_get c.args.payloads.now c.args.index ≡ None = search rules in
    let same : c.from-in_default-payload_of.result ≡ c.args.index = search rules in
    let h : ShowsVariant c.args.style.now.schema.now (variant_named (names_at c.args.style.now.schema.now c.args.place) c.args.index) (slice_get c.args.payloads.now c.args.index) c.args.index (Shows c.args.style.now.hex c.args.style.now.schema.now c.args.style.now.depth) c.args.held.now (number (decimal c.from-in_default-payload_of.result)) = rw (named, payload) (ap (λ x. number (decimal x)) same) in
    one_value c.put_u64-in_default-payload_of.result _ _ _ (number (decimal c.from-in_default-payload_of.result)) h c.put_u64-in_default-payload_of.ensures.json

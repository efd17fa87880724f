use Rattle.std.proofs.Common.{◌≡◌, ◌<◌, ◌≤◌, ◌+◌, ◌++◌, ◌∷◌, [], length, min, suc, arith, refl}
use Rattle.std.proofs.lemmas.Result.{err_from_is_err_and}
use Rattle.std.proofs.lemmas.Grind.{common_steps}
use Rattle.postcard_de.specs.Values.{none_read, some_read, some_fails}
use Rattle.postcard_de.specs.Steps.{gave_more, no_memory}
use Rattle.postcard_de.specs.Parts.{parts_more, parts_at, parts_last, sequence_read, sequence_fails, sequence_no_memory, parts_as, most_parts, upto_read, upto_fails, upto_past, array_read, array_fails}
use Rattle.std.proofs.lemmas.Option.{slice_get_past, slice_get_read}
use Rattle.schema_table.specs.Schemas.{SchemaTakes, SchemaHas, SchemaRefuses}
use Rattle.schemas.proofs.TakingLemmas.{list_by, list_up_to_by, array_by, none_by, parts_none_yet, fields_none_yet, fields_more, field_refused, fields_by, fields_no_memory, fields_at, fields_last, some_by, variant_by, payload_fails, no_payload, no_memory_behind, too_deep, no_place, enum_at, at_place}
use Rattle.schemas.proofs.read.+read.Goals as goal

pub read_list-loop-init : goal.read_list-loop-init
read_list-loop-init g t c = parts_none_yet c.new-items.ensures.items

pub read_list-returns-in_err-item : goal.read_list-returns-in_err-item
read_list-returns-in_err-item g t c =
    let p = err_from_is_err_and c.from_residual-in_err-item.result c.from_residual-in_err-item.ensures.1 in
    rw (p.1, p.2) (sequence_fails c.in_ok-count.ensures (parts_at _ _ c.loop-test.true c.loop.invariant) c.in_err-item.ensures)

pub read_list-returns-then-is_err : goal.read_list-returns-then-is_err
read_list-returns-then-is_err g t c = let m = parts_more (λ u v j. j.0) (parts_at _ _ c.loop-test.true c.loop.invariant) c.in_ok-item.ensures in sequence_no_memory c.in_ok-count.ensures m

pub read_list-loop-preserved : goal.read_list-loop-preserved
read_list-loop-preserved g t c =
    let m = parts_more (λ u v j. j.0) (parts_at _ _ c.loop-test.true c.loop.invariant) c.in_ok-item.ensures in
    let e : c.append.new.items.items ≡ c.loop.items.items ++ c.in_ok-item.item ∷ [] = grind (arith, common_steps) in
    rw e m

pub read_list-returns : goal.read_list-returns
read_list-returns g t c = list_by _ (sequence_read c.in_ok-count.ensures (parts_last _ _ c.loop-test.false c.loop.invariant))

pub read_list_up_to-loop-i-init : goal.read_list_up_to-loop-i-init
read_list_up_to-loop-i-init g t c = record { parts = parts_none_yet c.new-items.ensures.items; within = omega arith }

pub read_list_up_to-returns-in_err-item : goal.read_list_up_to-returns-in_err-item
read_list_up_to-returns-in_err-item g t c =
    let p = err_from_is_err_and c.from_residual-in_err-item.result c.from_residual-in_err-item.ensures.1 in
    let i = c.loop-i.invariant in
    let below : c.loop-i.i < min c.in_ok-count.count (c.args.most + 1) = omega (arith, i.within) in
    rw (p.1, p.2) (upto_fails c.args.most (most_parts c.in_ok-count.count c.args.most) c.in_ok-count.ensures (parts_at _ _ below i.parts) c.in_err-item.ensures)

pub read_list_up_to-returns-then-i-most : goal.read_list_up_to-returns-then-i-most
read_list_up_to-returns-then-i-most g t c =
    let i = c.loop-i.invariant in
    let below : c.loop-i.i < min c.in_ok-count.count (c.args.most + 1) = omega (arith, i.within) in
    let m = parts_more (λ u v j. j.0) (parts_at _ _ below i.parts) c.in_ok-item.ensures in
    let full : c.args.most < c.in_ok-count.count = omega (arith, i.within) in
    upto_past c.args.most full (λ u v j. j.0) c.in_ok-count.ensures (parts_as (suc c.args.most) 0 (omega (arith, full)) (omega (arith, full)) m)

pub read_list_up_to-returns-then-is_err : goal.read_list_up_to-returns-then-is_err
read_list_up_to-returns-then-is_err g t c =
    let i = c.loop-i.invariant in
    let below : c.loop-i.i < min c.in_ok-count.count (c.args.most + 1) = omega (arith, i.within) in
    let m = parts_more (λ u v j. j.0) (parts_at _ _ below i.parts) c.in_ok-item.ensures in
    no_memory _ (gave_more c.in_ok-count.ensures.gave m.gave)

pub read_list_up_to-loop-i-preserved : goal.read_list_up_to-loop-i-preserved
read_list_up_to-loop-i-preserved g t c =
    let i = c.loop-i.invariant in
    let below : c.loop-i.i < min c.in_ok-count.count (c.args.most + 1) = omega (arith, i.within) in
    let m = parts_more (λ u v j. j.0) (parts_at _ _ below i.parts) c.in_ok-item.ensures in
    let e : c.append.new.items.items ≡ c.loop-i.items.items ++ c.in_ok-item.item ∷ [] = grind (arith, common_steps) in
    record { parts = rw e m; within = omega (arith, i.within) }

pub read_list_up_to-returns : goal.read_list_up_to-returns
read_list_up_to-returns g t c =
    let i = c.loop-i.invariant in
    let few : c.in_ok-count.count ≤ c.args.most = omega (arith, i.within) in
    list_up_to_by c.args.most _ (upto_read _ few c.in_ok-count.ensures (parts_as c.in_ok-count.count 0 (omega (arith, few)) (omega (arith, few)) i.parts))

pub read_array-loop-init : goal.read_array-loop-init
read_array-loop-init g t c = parts_none_yet c.new-items.ensures.items

pub read_array-returns-in_err-item : goal.read_array-returns-in_err-item
read_array-returns-in_err-item g t c =
    let p = err_from_is_err_and c.from_residual.result c.from_residual.ensures.1 in
    rw (p.1, p.2) (array_fails (parts_at _ _ c.loop-test.true c.loop.invariant) c.in_err-item.ensures)

pub read_array-returns-then-is_err : goal.read_array-returns-then-is_err
read_array-returns-then-is_err g t c = let m = parts_more (λ u v j. j.0) (parts_at _ _ c.loop-test.true c.loop.invariant) c.in_ok-item.ensures in no_memory _ m.gave

pub read_array-loop-preserved : goal.read_array-loop-preserved
read_array-loop-preserved g t c =
    let m = parts_more (λ u v j. j.0) (parts_at _ _ c.loop-test.true c.loop.invariant) c.in_ok-item.ensures in
    let e : c.append.new.items.items ≡ c.loop.items.items ++ c.in_ok-item.item ∷ [] = grind (arith, common_steps) in
    rw e m

pub read_array-returns : goal.read_array-returns
read_array-returns g t c = array_by _ _ (array_read (parts_last _ _ c.loop-test.false c.loop.invariant))

pub read_fields-loop-i-init : goal.read_fields-loop-i-init
read_fields-loop-i-init g t c = fields_none_yet c.new-items.ensures.items

pub read_fields-returns-in_err-item : goal.read_fields-returns-in_err-item
read_fields-returns-in_err-item g t c =
    let p = err_from_is_err_and c.from_residual.result c.from_residual.ensures.1 in
    rw (p.1, p.2) (field_refused (fields_at c.loop-i.i (omega arith) c.loop-i.invariant) c.in_err-item.ensures)

pub read_fields-returns-then-is_err : goal.read_fields-returns-then-is_err
read_fields-returns-then-is_err g t c = fields_no_memory (fields_more (fields_at c.loop-i.i (omega arith) c.loop-i.invariant) c.in_ok-item.ensures)

pub read_fields-loop-i-preserved : goal.read_fields-loop-i-preserved
read_fields-loop-i-preserved g t c =
    let m = fields_more (fields_at c.loop-i.i (omega arith) c.loop-i.invariant) c.in_ok-item.ensures in
    let e : c.append.new.items.items ≡ c.loop-i.items.items ++ c.in_ok-item.item ∷ [] = grind (arith, common_steps) in
    rw e m

pub read_fields-returns : goal.read_fields-returns
read_fields-returns g t c = fields_by _ (fields_last c.loop-i.i (omega arith) c.loop-i.invariant)

pub read_option-returns-then-not-branch : goal.read_option-returns-then-not-branch
read_option-returns-then-not-branch g t c = none_by (none_read (rw c.if-not-branch.true at c.in_ok-deserialize_option.ensures))

pub read_option-returns-in_err-value : goal.read_option-returns-in_err-value
read_option-returns-in_err-value g t c =
    let p = err_from_is_err_and c.from_residual-in_err-value.result c.from_residual-in_err-value.ensures.1 in
    rw (p.1, p.2) (some_fails _ (rw c.if-not-branch.false at c.in_ok-deserialize_option.ensures) c.in_err-value.ensures)

pub read_value-returns-then-depth-eq0 : goal.read_value-returns-then-depth-eq0
read_value-returns-then-depth-eq0 g t c = too_deep c.args.depth _ _ _ (omega arith)

pub read_value-returns-in-None : goal.read_value-returns-in-None
read_value-returns-in-None g t c = no_place _ _ _ _ (slice_get_past _ _ c.in-None.ensures.lookup.3)

pub read_value-returns-in-Some : goal.read_value-returns-in-Some
read_value-returns-in-Some g t c =
    at_place _ _ _ c.in-Some.node.now _ _ _ (omega arith)
    (slice_get_read c.args.nodes.now (length c.args.nodes.now) c.args.place c.in-Some.node.now refl c.in-Some.ensures.lookup.3.0 c.in-Some.ensures.lookup.1) c.read_node.ensures

pub read_option-returns-in-Ok : goal.read_option-returns-in-Ok
read_option-returns-in-Ok g t c = some_by c.in-Ok.v c.in-Ok.ensures.ok (some_read (rw c.if-not-branch.false at c.in_ok-deserialize_option.ensures) c.in_ok-value.ensures)

pub read_option-returns : goal.read_option-returns
read_option-returns g t c = no_memory_behind _ c.in_ok-deserialize_option.ensures c.in_ok-value.ensures

pub read_variant-returns-then-index-payloads : goal.read_variant-returns-then-index-payloads
read_variant-returns-then-index-payloads g t c = no_payload (SchemaRefuses c.args.depth c.args.nodes.now) c.args.payloads.now c.in_ok-index.index (omega arith) c.in_ok-index.ensures

pub read_variant-returns-in_err-value : goal.read_variant-returns-in_err-value
read_variant-returns-in_err-value g t c =
    let p = err_from_is_err_and c.from_residual-in_err-value.result c.from_residual-in_err-value.ensures.1 in
    rw (p.1, p.2) (payload_fails (SchemaRefuses c.args.depth c.args.nodes.now) c.args.payloads.now c.in_ok-index.index (omega arith) c.in_ok-index.ensures c.in_err-value.ensures)

pub read_variant-returns-in-Ok : goal.read_variant-returns-in-Ok
read_variant-returns-in-Ok g t c =
    variant_by (SchemaTakes c.args.depth c.args.nodes.now) (SchemaHas c.args.depth c.args.nodes.now) c.args.payloads.now c.in_ok-index.index _ c.in-Ok.v (grind arith) c.in-Ok.ensures.ok (omega arith) c.in_ok-index.ensures c.in_ok-value.ensures

pub read_variant-returns : goal.read_variant-returns
read_variant-returns g t c = no_memory_behind _ c.in_ok-index.ensures c.in_ok-value.ensures

pub read_node-returns-in-Enum : goal.read_node-returns-in-Enum
read_node-returns-in-Enum g t c = enum_at _ _ _ c.in-Enum.payloads _ _ _ _ c.in-Enum.is c.deref-in-Enum.ensures.value c.read_variant.ensures

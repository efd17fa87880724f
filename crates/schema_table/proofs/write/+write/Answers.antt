use Rattle.std.proofs.Common.{length, arith}
use Rattle.std.proofs.lemmas.Result.{err_from_is_err_and}
use Rattle.schema_table.specs.Values.{tree_of, trees_in}
use Rattle.postcard_tree.specs.Tree.{byte, number}
use Rattle.schema_table.proofs.PushedLemmas.{variant_tree, pair_then, pair_stops, group_as, count_in, sequence_then, sequence_stops, values_more, values_stop}
use Rattle.schema_table.specs.ValueLaws.{tree-Truth, tree-U8, tree-U16, tree-U32, tree-U64, tree-U128, tree-Char, tree-LE, tree-BE}
use Rattle.schema_table.proofs.write.+write.Goals as goal

pub write_list-returns-in_err-serialize_seq-clause-writes : goal.write_list-returns-in_err-serialize_seq-clause-writes
write_list-returns-in_err-serialize_seq-clause-writes g t c =
    let p = err_from_is_err_and c.from_residual.result c.from_residual.ensures.1 in
    rw (p.1, p.2) (sequence_stops g.met.F.Flavor.laws _ _ (length c.args.items.now) (trees_in c.args.items.now) _ (count_in c.args.items.now) c.in_err-serialize_seq.ensures.writes)

pub write_list-returns-clause-writes : goal.write_list-returns-clause-writes
write_list-returns-clause-writes g t c =
    sequence_then g.met.F.Flavor.laws _ _ _ (length c.args.items.now) (trees_in c.args.items.now) _ (count_in c.args.items.now) (omega arith) c.in_ok-serialize_seq.ensures.writes c.write_values.ensures.writes

pub write_values-returns-in_err-write_value-clause-writes : goal.write_values-returns-in_err-write_value-clause-writes
write_values-returns-in_err-write_value-clause-writes g t c =
    let p = err_from_is_err_and c.from_residual.result c.from_residual.ensures.1 in
    rw (p.1, p.2)
    (values_stop g.met.F.Flavor.laws _ _ _ c.args.items.now c.loop-item.item-index c.item-item.result _ c.loop-item-test.true c.item-item.is c.loop-item.invariant.wrote c.in_err-write_value.ensures.writes)

pub write_values-loop-item-preserved : goal.write_values-loop-item-preserved
write_values-loop-item-preserved g t c = record {
  wrote = values_more g.met.F.Flavor.laws _ _ _ c.args.items.now c.loop-item.item-index c.item-item.result c.loop-item-test.true c.item-item.is c.loop-item.invariant.wrote c.in_ok-write_value.ensures.writes;
  same = g.met.F.Flavor.laws.same_after _ _ _ c.loop-item.invariant.same c.in_ok-write_value.ensures.same;
}

pub write_value-returns-in-Variant-clause-writes : goal.write_value-returns-in-Variant-clause-writes
write_value-returns-in-Variant-clause-writes g t c =
    rw (variant_tree c.args.v.now c.deref-in-Variant.result.now c.in-Variant.index c.in-Variant.inner c.in-Variant.is c.deref-in-Variant.ensures) c.write_variant.ensures.writes

pub write_group-returns-clause-writes : goal.write_group-returns-clause-writes
write_group-returns-clause-writes g t c = group_as g.met.F.Flavor.laws _ _ (trees_in c.args.items.now) c.write_values.result c.write_values.ensures.writes

pub write_present-returns-in_err-serialize_u8-clause-writes : goal.write_present-returns-in_err-serialize_u8-clause-writes
write_present-returns-in_err-serialize_u8-clause-writes g t c =
    let p = err_from_is_err_and c.from_residual.result c.from_residual.ensures.1 in
    rw (p.1, p.2) (pair_stops g.met.F.Flavor.laws _ _ (byte 1) (tree_of c.args.inner.now) _ c.in_err-serialize_u8.ensures.writes)

pub write_present-returns-clause-writes : goal.write_present-returns-clause-writes
write_present-returns-clause-writes g t c = pair_then g.met.F.Flavor.laws _ _ _ (byte 1) (tree_of c.args.inner.now) c.write_value.result c.in_ok-serialize_u8.ensures.writes c.write_value.ensures.writes

pub write_present-returns-clause-same : goal.write_present-returns-clause-same
write_present-returns-clause-same g t c = g.met.F.Flavor.laws.same_after _ _ _ c.in_ok-serialize_u8.ensures.same c.write_value.ensures.same

pub write_variant-returns-in_err-serialize_u32-clause-writes : goal.write_variant-returns-in_err-serialize_u32-clause-writes
write_variant-returns-in_err-serialize_u32-clause-writes g t c =
    let p = err_from_is_err_and c.from_residual.result c.from_residual.ensures.1 in
    rw (p.1, p.2) (pair_stops g.met.F.Flavor.laws _ _ (number 32 c.args.index) (tree_of c.args.inner.now) _ c.in_err-serialize_u32.ensures.writes)

pub write_variant-returns-clause-writes : goal.write_variant-returns-clause-writes
write_variant-returns-clause-writes g t c = pair_then g.met.F.Flavor.laws _ _ _ (number 32 c.args.index) (tree_of c.args.inner.now) c.write_value.result c.in_ok-serialize_u32.ensures.writes c.write_value.ensures.writes

pub write_variant-returns-clause-same : goal.write_variant-returns-clause-same
write_variant-returns-clause-same g t c = g.met.F.Flavor.laws.same_after _ _ _ c.in_ok-serialize_u32.ensures.same c.write_value.ensures.same

pub write_list-returns-clause-same : goal.write_list-returns-clause-same
write_list-returns-clause-same g t c = g.met.F.Flavor.laws.same_after _ _ _ c.in_ok-serialize_seq.ensures.same c.write_values.ensures.same

pub write_value-returns-in-Bool-clause-writes : goal.write_value-returns-in-Bool-clause-writes
write_value-returns-in-Bool-clause-writes g t c = rw (c.in-Bool.is, tree-Truth) c.serialize_bool.ensures.writes

pub write_value-returns-in-U8-clause-writes : goal.write_value-returns-in-U8-clause-writes
write_value-returns-in-U8-clause-writes g t c = rw (c.in-U8.is, tree-U8) c.serialize_u8.ensures.writes

pub write_value-returns-in-U16-clause-writes : goal.write_value-returns-in-U16-clause-writes
write_value-returns-in-U16-clause-writes g t c = rw (c.in-U16.is, tree-U16) c.serialize_u16.ensures.writes

pub write_value-returns-in-U32-clause-writes : goal.write_value-returns-in-U32-clause-writes
write_value-returns-in-U32-clause-writes g t c = rw (c.in-U32.is, tree-U32) c.serialize_u32.ensures.writes

pub write_value-returns-in-U64-clause-writes : goal.write_value-returns-in-U64-clause-writes
write_value-returns-in-U64-clause-writes g t c = rw (c.in-U64.is, tree-U64) c.serialize_u64.ensures.writes

pub write_value-returns-in-U128-clause-writes : goal.write_value-returns-in-U128-clause-writes
write_value-returns-in-U128-clause-writes g t c = rw (c.in-U128.is, tree-U128) c.serialize_u128.ensures.writes

pub write_value-returns-in-Char-clause-writes : goal.write_value-returns-in-Char-clause-writes
write_value-returns-in-Char-clause-writes g t c = rw (c.in-Char.is, tree-Char) c.serialize_char.ensures.writes

pub write_value-returns-in-LE-clause-writes : goal.write_value-returns-in-LE-clause-writes
write_value-returns-in-LE-clause-writes g t c = rw (c.in-LE.is, tree-LE) c.write_little.ensures.writes

pub write_value-returns-in-BE-clause-writes : goal.write_value-returns-in-BE-clause-writes
write_value-returns-in-BE-clause-writes g t c = rw (c.in-BE.is, tree-BE) c.write_big.ensures.writes

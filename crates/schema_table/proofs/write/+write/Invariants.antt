use Rattle.std.proofs.Common.{take}
use Rattle.postcard_tree.specs.Tree.{AreTrees}
use Rattle.postcard_tree.specs.Spelling.{short_all}
use Rattle.schema_table.specs.Values.{trees_in}
use Rattle.schema_table.proofs.write.+write.Given as goal

abbrev pub invariant-write_values-loop-item : goal.invariant-write_values-loop-item
invariant-write_values-loop-item g l = record {
  wrote : AreTrees (trees_in (take l.item-index l.items)) × g.F.Flavor.took l.initial.serializer.output (short_all (trees_in (take l.item-index l.items))) l.serializer.output;
  same : g.F.Flavor.same l.initial.serializer.output l.serializer.output;
}

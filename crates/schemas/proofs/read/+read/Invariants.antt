use Rattle.std.proofs.Common.{◌+◌, ◌-◌, ◌*◌, ◌≤◌, min, drop}
use Rattle.postcard_de.specs.Parts.{PartsRead}
use Rattle.postcard_de.specs.Deserializer.{flavor_of}
use Rattle.schema_table.specs.Schemas.{SchemaTakes, SchemaHas, SchemaReads, SchemaRefuses}
use Rattle.schemas.proofs.TakingLemmas.{FieldsRead}
use Rattle.schemas.proofs.read.+read.Given as goal

abbrev pub decreases-read_array : goal.decreases-read_array
decreases-read_array g l = 3 * l.depth + 1

abbrev pub decreases-read_fields : goal.decreases-read_fields
decreases-read_fields g l = 3 * l.depth + 1

abbrev pub decreases-read_node : goal.decreases-read_node
decreases-read_node g l = 3 * l.depth + 2

abbrev pub decreases-read_list : goal.decreases-read_list
decreases-read_list g l = 3 * l.depth + 1

abbrev pub decreases-read_list_up_to : goal.decreases-read_list_up_to
decreases-read_list_up_to g l = 3 * l.depth + 1

abbrev pub decreases-read_value : goal.decreases-read_value
decreases-read_value g l = 3 * l.depth

abbrev pub decreases-read_option : goal.decreases-read_option
decreases-read_option g l = 3 * l.depth + 1

abbrev pub decreases-read_variant : goal.decreases-read_variant
decreases-read_variant g l = 3 * l.depth + 1

abbrev pub invariant-read_array-loop : goal.invariant-read_array-loop
invariant-read_array-loop g l =
    PartsRead (SchemaTakes l.depth l.nodes l.place) (SchemaReads l.depth l.nodes l.place) (SchemaRefuses l.depth l.nodes l.place) (g.F.Flavor.source (flavor_of l.initial.d)) (g.F.Flavor.source (flavor_of l.d)) l.count (l.count - l.counter) l.items.items

abbrev pub invariant-read_list-loop : goal.invariant-read_list-loop
invariant-read_list-loop g l =
    PartsRead (SchemaTakes l.depth l.nodes l.place) (SchemaReads l.depth l.nodes l.place) (SchemaRefuses l.depth l.nodes l.place) (g.F.Flavor.source (flavor_of l.initial.d)) (g.F.Flavor.source (flavor_of l.d)) l.count (l.count - l.counter) l.items.items

-- at most one element more than may be is read
abbrev pub invariant-read_list_up_to-loop-i : goal.invariant-read_list_up_to-loop-i
invariant-read_list_up_to-loop-i g l = record {
  parts : PartsRead (SchemaTakes l.depth l.nodes l.place) (SchemaReads l.depth l.nodes l.place) (SchemaRefuses l.depth l.nodes l.place) (g.F.Flavor.source (flavor_of l.initial.d)) (g.F.Flavor.source (flavor_of l.d)) (min l.count (l.most + 1)) (min l.count (l.most + 1) - l.i) l.items.items;
  within : l.i ≤ l.most;
}

abbrev pub invariant-read_fields-loop-i : goal.invariant-read_fields-loop-i
invariant-read_fields-loop-i g l =
    FieldsRead (SchemaTakes l.depth l.nodes) (SchemaHas l.depth l.nodes) (SchemaRefuses l.depth l.nodes) (g.F.Flavor.source (flavor_of l.initial.d)) (g.F.Flavor.source (flavor_of l.d)) l.fields (drop l.i l.fields) l.items.items

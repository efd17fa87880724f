use Rattle.std.proofs.Common.{◌≡◌, ◌+◌, ◌*◌, Some, None, drop, length}
use Rattle.json.specs.Value.{items_view, members_view, value_view}
use Rattle.schema_table.specs.Schemas.{EachHas, FieldsHave}
use Rattle.wire_json.specs.Meant.{Means, MeansItems, MeansMembers}
use Rattle.wire_json.specs.Parsed.{IsOfType}
use Rattle.wire_json.proofs.ParsedLemmas.{FieldsFrom, So}
use Rattle.wire_json.proofs.parse.+parse.Given as goal

abbrev pub decreases-value : goal.decreases-value
decreases-value l = 6 * l.depth

abbrev pub decreases-of_node : goal.decreases-of_node
decreases-of_node l = 6 * l.depth + 5

abbrev pub decreases-option : goal.decreases-option
decreases-option l = 6 * l.depth + 1

abbrev pub decreases-items : goal.decreases-items
decreases-items l = 6 * l.depth + 1

abbrev pub decreases-elements : goal.decreases-elements
decreases-elements l = 6 * l.depth + 2

abbrev pub decreases-list : goal.decreases-list
decreases-list l = 6 * l.depth + 3

abbrev pub decreases-member : goal.decreases-member
decreases-member l = 6 * l.depth

abbrev pub decreases-pairs : goal.decreases-pairs
decreases-pairs l = 6 * l.depth + 1

abbrev pub decreases-field : goal.decreases-field
decreases-field l = 6 * l.depth + 1

abbrev pub decreases-group : goal.decreases-group
decreases-group l = 6 * l.depth + 2

abbrev pub decreases-payload : goal.decreases-payload
decreases-payload l = 6 * l.depth + 1

abbrev pub decreases-variant : goal.decreases-variant
decreases-variant l = 6 * l.depth + 2

abbrev pub invariant-items-loop-element : goal.invariant-items-loop-element
invariant-items-loop-element l =
    EachHas (IsOfType l.depth l.schema.nodes.items l.place) l.items.items
    × So (MeansItems (Means l.schema l.depth l.place None)) (items_view l.elements) (items_view (drop l.element-index l.elements)) l.items.items

abbrev pub invariant-pairs-loop-key : goal.invariant-pairs-loop-key
invariant-pairs-loop-key l =
    EachHas (IsOfType l.depth l.schema.nodes.items l.place) l.items.items
    × So (MeansMembers (λ s. Means l.schema l.depth l.place (Some s))) (members_view l.members) (members_view (drop l.key-index l.members)) l.items.items

abbrev pub invariant-group-loop-place : goal.invariant-group-loop-place
invariant-group-loop-place l =
    (length l.items.items ≡ l.place-index)
    × So (FieldsHave (IsOfType l.depth l.schema.nodes.items)) l.fields (drop l.place-index l.fields) l.items.items
    × So (FieldsFrom l.names (value_view l.json) (λ i. Means l.schema l.depth i None)) (0, l.fields) (l.place-index, drop l.place-index l.fields) l.items.items

use Rattle.std.proofs.Common.{◌≡◌, ◌+◌, ◌*◌, drop, length, zip}
use Rattle.json.specs.Tree.{json_tokens}
use Rattle.schema_table.specs.Printed.{Shows, ShowsField, ShowsPair, ShowsPart, called}
use Rattle.wire_print.specs.Appended.{member_tokens}
use Rattle.wire_print.proofs.PrintedLemmas.{Shown}
use Rattle.wire_print.proofs.print.+print.Given as goal

abbrev pub decreases-put : goal.decreases-put
decreases-put l = 4 * l.style.now.depth

abbrev pub decreases-put_option : goal.decreases-put_option
decreases-put_option l = 4 * l.style.now.depth + 2

abbrev pub decreases-put_under : goal.decreases-put_under
decreases-put_under l = 4 * l.style.now.depth + 1

abbrev pub decreases-put_list : goal.decreases-put_list
decreases-put_list l = 4 * l.style.now.depth + 3

abbrev pub decreases-put_items : goal.decreases-put_items
decreases-put_items l = 4 * l.style.now.depth + 1

abbrev pub decreases-put_elements : goal.decreases-put_elements
decreases-put_elements l = 4 * l.style.now.depth + 2

abbrev pub decreases-put_pairs : goal.decreases-put_pairs
decreases-put_pairs l = 4 * l.style.now.depth + 2

abbrev pub decreases-put_pair : goal.decreases-put_pair
decreases-put_pair l = 4 * l.style.now.depth + 1

abbrev pub decreases-put_struct : goal.decreases-put_struct
decreases-put_struct l = 4 * l.style.now.depth + 3

abbrev pub decreases-put_tuple : goal.decreases-put_tuple
decreases-put_tuple l = 4 * l.style.now.depth + 1

abbrev pub decreases-put_members : goal.decreases-put_members
decreases-put_members l = 4 * l.style.now.depth + 1

abbrev pub decreases-put_variant : goal.decreases-put_variant
decreases-put_variant l = 4 * l.style.now.depth + 2

abbrev pub decreases-put_newtype : goal.decreases-put_newtype
decreases-put_newtype l = 4 * l.style.now.depth + 1

abbrev pub decreases-put_array : goal.decreases-put_array
decreases-put_array l = 4 * l.style.now.depth + 3

abbrev pub decreases-put_enum : goal.decreases-put_enum
decreases-put_enum l = 4 * l.style.now.depth + 3

abbrev pub invariant-put_items-loop-item : goal.invariant-put_items-loop-item
invariant-put_items-loop-item l =
    Shown json_tokens (Shows l.style.hex l.style.schema.now l.style.depth l.inner) l.initial.out.tokens l.out.tokens l.items (drop l.item-index l.items)
    × (l.out.before ≡ l.initial.out.before)

abbrev pub invariant-put_pairs-loop-item : goal.invariant-put_pairs-loop-item
invariant-put_pairs-loop-item l =
    Shown member_tokens (ShowsPair l.style.schema.now l.pair (Shows l.style.hex l.style.schema.now l.style.depth)) l.initial.out.tokens l.out.tokens l.items (drop l.item-index l.items)
    × (l.out.before ≡ l.initial.out.before)

abbrev pub invariant-put_tuple-loop-field : goal.invariant-put_tuple-loop-field
invariant-put_tuple-loop-field l =
    Shown json_tokens (ShowsPart (Shows l.style.hex l.style.schema.now l.style.depth)) l.initial.out.tokens l.out.tokens (zip l.fields l.items) (zip l.types l.parts)
    × (l.out.before ≡ l.initial.out.before)

abbrev pub decreases-put_tuple-loop-field : goal.decreases-put_tuple-loop-field
decreases-put_tuple-loop-field l = length l.types

abbrev pub invariant-put_members-loop-field : goal.invariant-put_members-loop-field
invariant-put_members-loop-field l =
    Shown member_tokens (ShowsField (Shows l.style.hex l.style.schema.now l.style.depth)) l.initial.out.tokens l.out.tokens (called l.names (zip l.fields l.items))
    (called l.called (zip l.types l.parts))
    × (l.out.before ≡ l.initial.out.before)

abbrev pub decreases-put_members-loop-field : goal.decreases-put_members-loop-field
decreases-put_members-loop-field l = length l.types

abbrev pub decreases-put_named : goal.decreases-put_named
decreases-put_named l = 4 * l.style.now.depth + 2

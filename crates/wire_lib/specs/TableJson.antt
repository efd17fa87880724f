-- The JSON of a table of types, with the maximum sizes of its types.
use Rattle.std.specs.Prelude.{◌≡◌, ℕ, List, Option}
use Rattle.schema_table.specs.declared.schema.Schema.{Schema}
use Rattle.wire_print.specs.TableJson.{table_text}
use Rattle.wire_lib.specs.Sizes.{AreMaximumSizes}

-- the text of a table, with the maximum sizes of its nodes
abbrev pub IsTableText : Schema → List ℕ → Type 0
IsTableText schema text = (sizes : List (Option ℕ)) × AreMaximumSizes schema.nodes.items sizes × (text ≡ table_text schema sizes)

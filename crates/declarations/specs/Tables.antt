-- What holds of each table that is made of declarations.
use Rattle.std.specs.Prelude.{◌≡◌, ◌≤◌, length}
use Rattle.schema_table.specs.declared.schema.Schema.{Schema}

-- each node has names
abbrev pub NamesItsNodes : Schema → Type 0
NamesItsNodes table = length table.names.items ≡ length table.nodes.items

-- each type that it begins with has a node
abbrev pub HasItsTypes : Schema → Type 0
HasItsTypes table = length table.types.items ≤ length table.nodes.items

-- Which types of a schema have a name.
use Rattle.std.specs.Prelude.{◌≡◌, ◌≢◌, ◌<◌, ℕ, List, Some, string_bytes}
use Rattle.std.specs.List.{slice_get}
use Rattle.schema_table.specs.declared.schema.Named.{Named}

-- the type at this place has this name
abbrev pub HasTypeName : List Named → ℕ → List ℕ → Type 0
HasTypeName types place name = (t : Named) → slice_get types place ≡ Some t → string_bytes t.name ≡ name

-- none of the first so many types has this name
abbrev pub NoTypeName : List Named → ℕ → List ℕ → Type 0
NoTypeName types most name = (place : ℕ) (t : Named) → place < most
    → slice_get types place ≡ Some t → string_bytes t.name ≢ name

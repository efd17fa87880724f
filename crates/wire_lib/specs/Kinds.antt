-- The kinds of messages of a type, and the one that a value belongs to.
use Rattle.std.specs.Prelude.{◌≡◌, ◌==◌, ℕ, ◌-◌, Bool, true, false, List, [], ◌∷◌, ◌++◌, length, map, Option, Some, None, codes, encode_utf8, string_bytes, if◌then◌else◌}
use Rattle.std.specs.List.{slice_get}
use Rattle.std.specs.Str.{chars}
use Rattle.schema_table.specs.declared.node.Node.{Node}
use Rattle.schema_table.specs.declared.node.Node.TheVariants as node
use Rattle.schema_table.specs.Looks.{is_empty_named}
use Rattle.schema_table.specs.Printed.{Prints}
use Rattle.schema_table.specs.declared.schema.Named.{Named}
use Rattle.schema_table.specs.declared.schema.Names.{Names}
use Rattle.schema_table.specs.declared.schema.Names.TheVariants as names
use Rattle.schema_table.specs.declared.schema.Schema.{Schema}
use Rattle.schema_table.specs.Telling.{names_at, node_at}
use Rattle.schema_table.specs.declared.value.Value.{Value, out-Value}
use Rattle.schema_table.specs.declared.value.Value.TheOpen.{Value-F}
use Rattle.wire_json.specs.Meant.{IsOneOf}
use Rattle.wire_lib.specs.declared.receive.Reading.{Reading}

-- the index of a variant; else 0, the only kind
abbrev pub kind_of_level : Value-F Value → ℕ
kind_of_level (Value-F.Variant index held) = index
kind_of_level _ = 0

-- the kind of a value: its variant, or the only one
abbrev pub kind_in : Value → ℕ
kind_in v = kind_of_level (out-Value v)

-- the name of a declared type, or `message`
abbrev pub type_name : Option Named → List ℕ
type_name None = codes "message"
type_name (Some t) = string_bytes t.name

-- the names of the kinds: those of the variants, or the only one
abbrev pub kind_names : Option Names → List ℕ → List (List ℕ)
kind_names (Some (names.Variants ns)) own = map string_bytes ns.items
kind_names _ own = own ∷ []

-- the names of the kinds of messages of the type at a place
abbrev pub kinds_of : Schema → ℕ → List (List ℕ)
kinds_of schema i = kind_names (names_at schema i) (type_name (slice_get schema.types.items i))

-- names are those of an enum with a variant of this name
abbrev pub HasVariantNamed : Option Names → List ℕ → Type 0
HasVariantNamed (Some (names.Variants ns)) name = IsOneOf name ns.items
HasVariantNamed _ name = ⊥

-- the type of a variant's payload, if the node is an enum that has the variant
abbrev pub payload_in : Option Node → ℕ → Option ℕ
payload_in (Some (node.Enum is)) index = slice_get is.items index
payload_in _ index = None

-- a variant's payload by its type; without one the whole value by its own
abbrev pub payload_or : Option ℕ → ℕ × Value → Value → ℕ × Value
payload_or None whole held = whole
payload_or (Some i) whole held = (i, held)

-- the part of a value that stands beside its kind: a variant's payload, else the whole value
abbrev pub part_of_level : Schema → ℕ × Value → Value-F Value → ℕ × Value
part_of_level schema whole (Value-F.Variant index held) = payload_or (payload_in (node_at schema whole.0) index) whole held.value
part_of_level schema whole _ = whole

-- the same of a value, with the index of its type
abbrev pub part_beside : Schema → ℕ → Value → ℕ × Value
part_beside schema i v = part_of_level schema (i, v) (out-Value v)

-- characters, and two dots in place of those that begin after so many bytes
abbrev pub shortened_to : ℕ → List ℕ → List ℕ
shortened_to left [] = []
shortened_to left (c ∷ cs) = if left == 0 then codes ".." else encode_utf8 c ++ shortened_to (left - length (encode_utf8 c)) cs

-- a text up to the character that ends after its first 1023 bytes, and two dots if there are more
abbrev pub shortened : List ℕ → List ℕ
shortened text = shortened_to 1024 (chars text)

-- the text of a part: none if its type has no fields, else its JSON, shortened
abbrev pub IsTextOfPart : Bool → Reading → ℕ × Value → List ℕ → Type 0
IsTextOfPart true r part text = text ≡ []
IsTextOfPart false r part text =
    (json : List ℕ) × Prints r.hex r.schema.now r.depth part.0 part.1 json × (text ≡ shortened json)

-- the text that stands beside the kind of a value
abbrev pub IsTextBeside : Reading → Value → List ℕ → Type 0
IsTextBeside r v text =
    let part = part_beside r.schema.now r.place v in
    IsTextOfPart (is_empty_named (names_at r.schema.now part.0)) r part text

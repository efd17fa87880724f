-- What printing and parsing have to agree on about the JSON of a type.
use Rattle.std.specs.Prelude.{◌≡◌, ℕ, zero, suc, List, [], ◌∷◌, length, Bool, true, false, ◌&&◌, ◌||◌, Option, Some, None, option_map, string_bytes, codes, decimal, encode_utf8, if◌then◌else◌}
use Rattle.std.specs.Fmt.{signed_decimal}
use Rattle.std.specs.List.{slice_get}
use Rattle.json.specs.Json.{Json, object, no_members, member}
use Rattle.schema_table.specs.declared.node.Node.{Node}
use Rattle.schema_table.specs.declared.node.Node.TheVariants as node
use Rattle.schema_table.specs.declared.schema.Names.{Names}
use Rattle.schema_table.specs.declared.schema.Names.TheVariants as names
use Rattle.schema_table.specs.declared.schema.Schema.{Schema}
use Rattle.schema_table.specs.Telling.{names_at, node_at}
use Rattle.schema_table.specs.declared.integer.Integer.{Integer}
use Rattle.schema_table.specs.declared.integer.Integer.TheVariants as integers
use Rattle.schema_table.specs.declared.value.Value.{Value, out-Value}
use Rattle.schema_table.specs.declared.value.Value.TheOpen.{Value-F}

-- whether a type is `u8`
abbrev pub is_byte_node : Option Node → Bool
is_byte_node (Some node.U8) = true
is_byte_node _ = false

-- whether an integer holds the bits of a float
abbrev pub is_float_named : Option Names → Bool
is_float_named (Some names.Float) = true
is_float_named _ = false

-- whether a variant has no fields, by what it holds
abbrev pub is_empty_named : Option Names → Bool
is_empty_named (Some names.Empty) = true
is_empty_named _ = false

-- whether a list is a map
abbrev pub is_map_named : Option Names → Bool
is_map_named (Some names.Map) = true
is_map_named _ = false

-- whether a type is a newtype
abbrev pub is_newtype_named : Option Names → Bool
is_newtype_named (Some names.Newtype) = true
is_newtype_named _ = false

-- whether a type has no fields
abbrev pub is_unit_named : Option Names → Bool
is_unit_named (Some names.Unit) = true
is_unit_named (Some names.Empty) = true
is_unit_named _ = false

-- a type is a struct without fields
abbrev pub HasNoFields : Option Node → Type 0
HasNoFields (Some (node.Struct is)) = is.items ≡ []
HasNoFields _ = ⊥

-- the only one of some types
abbrev pub only_type : List ℕ → Option ℕ
only_type [] = None
only_type (i ∷ []) = Some i
only_type (i ∷ k ∷ is) = None

-- the only field of a struct
abbrev pub only_field : Option Node → Option ℕ
only_field (Some (node.Struct is)) = only_type is.items
only_field _ = None

-- the type inside the newtype at a place
abbrev pub inside_of : Schema → ℕ → Option ℕ
inside_of schema i = if is_newtype_named (names_at schema i) then only_field (node_at schema i) else None

-- whether a type is an option, or none
abbrev pub null_node : Option Node → Bool
null_node None = true
null_node (Some (node.Option i)) = true
null_node _ = false

-- whether a value of the type at a place can have the JSON `null`, newtypes apart
abbrev pub null_type : Schema → ℕ → Bool
null_type schema i = is_unit_named (names_at schema i) || is_newtype_named (names_at schema i) || null_node (node_at schema i)

-- asked of a type, or of the one inside a newtype
abbrev pub asked_by : (ℕ → Bool) → Bool → Option ℕ → Bool
asked_by of own None = own
asked_by of own (Some i) = of i

-- whether a value of the type at a place can have the JSON `null`, through so many newtypes
unfoldable pub null_within : ℕ → Schema → ℕ → Bool
null_within zero schema i = true
null_within (suc n) schema i = asked_by (null_within n schema) (null_type schema i) (inside_of schema i)

-- whether no variant has fields
abbrev pub are_empty_named : Schema → List ℕ → Bool
are_empty_named schema [] = true
are_empty_named schema (i ∷ is) = is_empty_named (names_at schema i) && are_empty_named schema is

-- whether the values of a node can be keys of an object, enums apart
abbrev pub plain_key_node : Node → Bool
plain_key_node node.Bytes = false
plain_key_node (node.Option i) = false
plain_key_node (node.List i) = false
plain_key_node (node.ListUpTo n i) = false
plain_key_node (node.Array n i) = false
plain_key_node (node.Struct is) = false
plain_key_node (node.Enum is) = false
plain_key_node _ = true

-- the same with enums
abbrev pub key_node : Schema → Option Node → Bool
key_node schema None = false
key_node schema (Some (node.Enum is)) = are_empty_named schema is.items
key_node schema (Some n) = plain_key_node n

-- whether the values of the type at a place can be keys of an object, newtypes apart
abbrev pub key_type : Schema → ℕ → Bool
key_type schema i = if is_float_named (names_at schema i) then false else key_node schema (node_at schema i)

-- the same through so many newtypes
unfoldable pub key_within : ℕ → Schema → ℕ → Bool
key_within zero schema i = false
key_within (suc n) schema i = asked_by (key_within n schema) (key_type schema i) (inside_of schema i)

-- two types
abbrev pub two_types : List ℕ → Option (ℕ × ℕ)
two_types (i ∷ k ∷ []) = Some (i, k)
two_types _ = None

-- the types of a pair
abbrev pub pair_node : Option Node → Option (ℕ × ℕ)
pair_node (Some (node.Struct is)) = two_types is.items
pair_node _ = None

-- whether the first of a pair can be a key of an object
abbrev pub first_is_key : Schema → Option (ℕ × ℕ) → Bool
first_is_key schema None = false
first_is_key schema (Some p) = key_within (length schema.nodes.items) schema p.0

-- the name of a variant
abbrev pub variant_named : Option Names → ℕ → Option (List ℕ)
variant_named (Some (names.Variants v)) n = option_map string_bytes (slice_get v.items n)
variant_named _ n = None

-- the only one of some values
abbrev pub only_value : List Value → Option Value
only_value [] = None
only_value (v ∷ []) = Some v
only_value (v ∷ w ∷ vs) = None

-- the only part of a value
abbrev pub only_part : Value-F Value → Option Value
only_part (Value-F.Group v) = only_value v.items
only_part _ = None

-- a value, with its type before it
abbrev pub typed_part : Option ℕ → Option Value → Option (ℕ × Value)
typed_part None v = None
typed_part (Some i) None = None
typed_part (Some i) (Some v) = Some (i, v)

-- the only part of a value, with its type
abbrev pub part_of : Schema → ℕ → Value → Option (ℕ × Value)
part_of schema i v = typed_part (only_field (node_at schema i)) (only_part (out-Value v))

-- what is inside a part, or this if there is none
abbrev pub inside_part : (ℕ → Value → ℕ × Value) → ℕ × Value → Option (ℕ × Value) → ℕ × Value
inside_part of here None = here
inside_part of here (Some p) = of p.0 p.1

-- the value inside the newtypes round a key, with its type, through so many
unfoldable pub inside_within : ℕ → Schema → ℕ → Value → ℕ × Value
inside_within zero schema i v = (i, v)
inside_within (suc n) schema i v = inside_part (inside_within n schema) (i, v) (part_of schema i v)

-- an integer that is sent as its bytes, as a key
abbrev pub integer_key : Integer → List ℕ
integer_key (integers.U16 n) = decimal n
integer_key (integers.U32 n) = decimal n
integer_key (integers.U64 n) = decimal n
integer_key (integers.U128 n) = decimal n
integer_key (integers.I16 z) = signed_decimal z
integer_key (integers.I32 z) = signed_decimal z
integer_key (integers.I64 z) = signed_decimal z
integer_key (integers.I128 z) = signed_decimal z

-- a truth value as a key
abbrev pub truth_key : Bool → List ℕ
truth_key true = codes "true"
truth_key false = codes "false"

-- a value without parts as a key
abbrev pub plain_key : Value-F Value → List ℕ
plain_key (Value-F.Bool b) = truth_key b
plain_key (Value-F.U8 n) = decimal n
plain_key (Value-F.U16 n) = decimal n
plain_key (Value-F.U32 n) = decimal n
plain_key (Value-F.U64 n) = decimal n
plain_key (Value-F.U128 n) = decimal n
plain_key (Value-F.I8 z) = signed_decimal z
plain_key (Value-F.I16 z) = signed_decimal z
plain_key (Value-F.I32 z) = signed_decimal z
plain_key (Value-F.I64 z) = signed_decimal z
plain_key (Value-F.I128 z) = signed_decimal z
plain_key (Value-F.LE i) = integer_key i
plain_key (Value-F.BE i) = integer_key i
plain_key (Value-F.Char c) = encode_utf8 c
plain_key (Value-F.Text s) = string_bytes s
plain_key _ = []

-- a variant as a key: its name, or its index if it has none
abbrev pub variant_key : Option (List ℕ) → ℕ → List ℕ
variant_key (Some s) n = s
variant_key None n = decimal n

-- a value as a key, newtypes apart
abbrev pub key_named : Option Names → Value-F Value → List ℕ
key_named m (Value-F.Variant n v) = variant_key (variant_named m n) n
key_named m v = plain_key v

-- the same with its type before it
abbrev pub key_at : Schema → ℕ × Value → List ℕ
key_at schema p = key_named (names_at schema p.0) (out-Value p.1)

-- the key of a value of the type at a place
abbrev pub key_text : Schema → ℕ → Value → List ℕ
key_text schema i v = key_at schema (inside_within (length schema.nodes.items) schema i v)

-- an object with one member of this name
abbrev pub IsUnder : List ℕ → (Json → Type 0) → Json → Type 0
IsUnder s kind j = (k : Json) × (j ≡ object (member s k no_members)) × kind k

-- a present value: under a name if its own JSON could be `null`
abbrev pub IsPresentBy : Bool → (Json → Type 0) → Json → Type 0
IsPresentBy true kind = IsUnder (codes "Some") kind
IsPresentBy false kind = kind

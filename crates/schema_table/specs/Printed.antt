-- The JSON of values by their types; first that of values without parts.
use Rattle.std.specs.Prelude.{◌≡◌, ℕ, zero, suc, List, [], ◌∷◌, length, zip, Bool, true, false, ◌&&◌, Option, Some, None, String, string_bytes, decimal, encode_utf8}
use Rattle.std.specs.Fmt.{signed_decimal}
use Rattle.std.specs.List.{AllZip, slice_get}
use Rattle.std.specs.Str.{IsUtf8}
use Rattle.hex.specs.Hex.{encode_lower}
use Rattle.json.specs.Json.{Json, null, boolean, number, string, array, object, Items, no_items, item, Members, no_members, member}
use Rattle.json.specs.Lex.{tokens}
use Rattle.json.specs.Print.{print}
use Rattle.json.specs.Tree.{json_tokens}
use Rattle.json.specs.Value.{items_of}
use Rattle.json.specs.Word.{after_number}
use Rattle.schema_table.specs.declared.node.Node.{Node}
use Rattle.schema_table.specs.declared.node.Node.TheVariants as node
use Rattle.schema_table.specs.declared.schema.Names.{Names}
use Rattle.schema_table.specs.declared.schema.Names.TheVariants as names
use Rattle.schema_table.specs.declared.schema.Schema.{Schema}
use Rattle.schema_table.specs.Telling.{names_at, node_at}
use Rattle.schema_table.specs.declared.integer.Integer.{Integer}
use Rattle.schema_table.specs.declared.integer.Integer.TheVariants as integers
use Rattle.schema_table.specs.declared.value.Value.{Value, out-Value}
use Rattle.schema_table.specs.declared.value.Value.TheOpen.{Value-F}
use Rattle.schema_table.specs.Floats.{ShowsSingle, ShowsDouble}
use Rattle.schema_table.specs.Looks.{IsPresentBy, IsUnder, is_byte_node, is_float_named, is_empty_named, is_map_named, null_within, pair_node, first_is_key, variant_named, key_text}

-- digits, by what follows the number at their start: a text if they are no number
abbrev pub digits_by : Option (List ℕ) → List ℕ → Json
digits_by None s = string s
digits_by (Some []) s = number s
digits_by (Some (c ∷ cs)) s = string s

-- digits
abbrev pub digits_json : List ℕ → Json
digits_json s = digits_by (after_number s) s

-- an integer that is sent as its bytes
abbrev pub integer_json : Integer → Json
integer_json (integers.U16 n) = number (decimal n)
integer_json (integers.U32 n) = number (decimal n)
integer_json (integers.U64 n) = number (decimal n)
integer_json (integers.U128 n) = digits_json (decimal n)
integer_json (integers.I16 z) = number (signed_decimal z)
integer_json (integers.I32 z) = number (signed_decimal z)
integer_json (integers.I64 z) = number (signed_decimal z)
integer_json (integers.I128 z) = digits_json (signed_decimal z)

-- bytes as numbers
abbrev pub byte_items : List ℕ → Items
byte_items [] = no_items
byte_items (b ∷ bs) = item (number (decimal b)) (byte_items bs)

-- bytes: two hexadecimal digits each, or a number each
abbrev pub bytes_json : Bool → List ℕ → Json
bytes_json true bs = string (encode_lower bs)
bytes_json false bs = array (byte_items bs)

-- a value without parts, but for floats; `null` for one with parts
abbrev pub plain_json : Bool → Value-F Value → Json
plain_json hex (Value-F.Bool b) = boolean b
plain_json hex (Value-F.U8 n) = number (decimal n)
plain_json hex (Value-F.U16 n) = number (decimal n)
plain_json hex (Value-F.U32 n) = number (decimal n)
plain_json hex (Value-F.U64 n) = number (decimal n)
plain_json hex (Value-F.U128 n) = digits_json (decimal n)
plain_json hex (Value-F.I8 z) = number (signed_decimal z)
plain_json hex (Value-F.I16 z) = number (signed_decimal z)
plain_json hex (Value-F.I32 z) = number (signed_decimal z)
plain_json hex (Value-F.I64 z) = number (signed_decimal z)
plain_json hex (Value-F.I128 z) = digits_json (signed_decimal z)
plain_json hex (Value-F.LE i) = integer_json i
plain_json hex (Value-F.BE i) = integer_json i
plain_json hex (Value-F.Char c) = string (encode_utf8 c)
plain_json hex (Value-F.Text s) = string (string_bytes s)
plain_json hex (Value-F.Bytes v) = bytes_json hex v.items
plain_json hex Value-F.Absent = null
plain_json hex (Value-F.Present v) = null
plain_json hex (Value-F.List v) = null
plain_json hex (Value-F.Group v) = null
plain_json hex (Value-F.Variant n v) = null

-- The JSON of values with parts: `shows` says it of the values inside, by the places of their types. What isn't of its type is printed as a
-- value without parts.

-- members, as the grammar has them
abbrev pub members_by : List (List ℕ × Json) → Members
members_by [] = no_members
members_by (m ∷ ms) = member m.0 m.1 (members_by ms)

-- an array, with an element for each of these
abbrev pub ShowsArray : {A : Type 0} → (A → Json → Type 0) → List A → Json → Type 0
ShowsArray shows vs j = (js : List Json) × (j ≡ array (items_of js)) × AllZip shows vs js

-- an object, with a member for each of these
abbrev pub ShowsObject : {A : Type 0} → (A → List ℕ × Json → Type 0) → List A → Json → Type 0
ShowsObject shows vs j = (ms : List (List ℕ × Json)) × (j ≡ object (members_by ms)) × AllZip shows vs ms

-- an option of this type
abbrev pub ShowsOption : Bool → Schema → ℕ → (Value → Json → Type 0) → Value-F Value → Json → Type 0
ShowsOption hex schema i shows (Value-F.Present w) j = IsPresentBy (null_within (length schema.nodes.items) schema i) (shows w.value) j
ShowsOption hex schema i shows v j = j ≡ plain_json hex v

-- a byte before others, if the value is one
abbrev pub byte_before : Value-F Value → List ℕ → List ℕ
byte_before (Value-F.U8 n) bs = n ∷ bs
byte_before _ bs = bs

-- the bytes among values
abbrev pub bytes_in : List Value → List ℕ
bytes_in [] = []
bytes_in (v ∷ vs) = byte_before (out-Value v) (bytes_in vs)

-- values of one type: bytes as hexadecimal digits, if that is asked for
abbrev pub ShowsAll : Bool → (Value → Json → Type 0) → List Value → Json → Type 0
ShowsAll true shows vs j = j ≡ string (encode_lower (bytes_in vs))
ShowsAll false shows vs j = ShowsArray shows vs j

-- the same by the node of the type
abbrev pub ShowsElements : Bool → Option Node → (Value → Json → Type 0) → List Value → Json → Type 0
ShowsElements hex n = ShowsAll (hex && is_byte_node n)

-- two values
abbrev pub two_in : List Value → Option (Value × Value)
two_in [] = None
two_in (v ∷ []) = None
two_in (v ∷ w ∷ []) = Some (v, w)
two_in (v ∷ w ∷ x ∷ vs) = None

-- the two values of a pair
abbrev pub two_values : Value-F Value → Option (Value × Value)
two_values (Value-F.Group v) = two_in v.items
two_values _ = None

-- two values by their types, the first as the name of the second
abbrev pub ShowsHeld : Schema → (ℕ → Value → Json → Type 0) → Option (ℕ × ℕ) → Option (Value × Value) → List ℕ × Json → Type 0
ShowsHeld schema shows None two m = m.1 ≡ null
ShowsHeld schema shows (Some p) None m = m.1 ≡ null
ShowsHeld schema shows (Some p) (Some two) m = (m.0 ≡ key_text schema p.0 two.0) × shows p.1 two.1 m.1

-- a pair, as a member
abbrev pub ShowsPair : Schema → ℕ → (ℕ → Value → Json → Type 0) → Value → List ℕ × Json → Type 0
ShowsPair schema pair shows v m = ShowsHeld schema shows (pair_node (node_at schema pair)) (two_values (out-Value v)) m

-- a map as an object, if its keys can be texts
abbrev pub ShowsMap : Bool → Bool → Schema → ℕ → (ℕ → Value → Json → Type 0) → List Value → Json → Type 0
ShowsMap true hex schema inner shows vs j = ShowsObject (ShowsPair schema inner shows) vs j
ShowsMap false hex schema inner shows vs j = ShowsElements hex (node_at schema inner) (shows inner) vs j

-- a list
abbrev pub ShowsList : Bool → Schema → ℕ → ℕ → (ℕ → Value → Json → Type 0) → Value-F Value → Json → Type 0
ShowsList hex schema i inner shows (Value-F.List v) j =
    ShowsMap (is_map_named (names_at schema i) && first_is_key schema (pair_node (node_at schema inner))) hex schema inner shows v.items j
ShowsList hex schema i inner shows v j = j ≡ plain_json hex v

-- an array of a fixed length
abbrev pub ShowsFixed : Bool → Schema → ℕ → (Value → Json → Type 0) → Value-F Value → Json → Type 0
ShowsFixed hex schema inner shows (Value-F.Group v) j = ShowsElements hex (node_at schema inner) shows v.items j
ShowsFixed hex schema inner shows v j = j ≡ plain_json hex v

-- the first of some names, or an empty one
abbrev pub first_name : {A : Type 0} → List (String A) → List ℕ
first_name [] = []
first_name (n ∷ ns) = string_bytes n

-- the names after it
abbrev pub other_names : {A : Type 0} → List (String A) → List (String A)
other_names [] = []
other_names (n ∷ ns) = ns

-- each with its name
abbrev pub called : {A B : Type 0} → List (String A) → List B → List (List ℕ × B)
called ns [] = []
called ns (x ∷ xs) = (first_name ns, x) ∷ called (other_names ns) xs

-- a value by its type
abbrev pub ShowsPart : (ℕ → Value → Json → Type 0) → ℕ × Value → Json → Type 0
ShowsPart shows p j = shows p.0 p.1 j

-- the first of some values, if there is one
abbrev pub ShowsFirst : {A : Type 0} → (A → Json → Type 0) → List A → Json → Type 0
ShowsFirst shows [] j = j ≡ null
ShowsFirst shows (v ∷ vs) j = shows v j

-- values of these types, in their order
abbrev pub ShowsParts : (ℕ → Value → Json → Type 0) → List ℕ → List Value → Json → Type 0
ShowsParts shows is vs j = ShowsArray (ShowsPart shows) (zip is vs) j

-- a value by its type, under its name
abbrev pub ShowsField : (ℕ → Value → Json → Type 0) → List ℕ × (ℕ × Value) → List ℕ × Json → Type 0
ShowsField shows p m = (m.0 ≡ p.0) × shows p.1.0 p.1.1 m.1

-- values of these types under these names, in their order
abbrev pub ShowsFields : {A : Type 0} → (ℕ → Value → Json → Type 0) → List (String A) → List ℕ → List Value → Json → Type 0
ShowsFields shows ns is vs j = ShowsObject (ShowsField shows) (called ns (zip is vs)) j

-- the values of a struct, by what they are called
abbrev pub ShowsNamed : Option Names → List ℕ → (ℕ → Value → Json → Type 0) → List Value → Json → Type 0
ShowsNamed (Some names.Unit) is shows vs j = j ≡ null
ShowsNamed (Some names.Empty) is shows vs j = j ≡ null
ShowsNamed (Some names.Newtype) is shows vs j = ShowsFirst (ShowsPart shows) (zip is vs) j
ShowsNamed (Some (names.Fields ns)) is shows vs j = ShowsFields shows ns.items is vs j
ShowsNamed _ is shows vs j = ShowsParts shows is vs j

-- a struct or a tuple
abbrev pub ShowsStruct : Bool → Option Names → List ℕ → (ℕ → Value → Json → Type 0) → Value-F Value → Json → Type 0
ShowsStruct hex named is shows (Value-F.Group v) j = ShowsNamed named is shows v.items j
ShowsStruct hex named is shows v j = j ≡ plain_json hex v

-- a variant of this name: alone if it has no fields
abbrev pub ShowsChosen : Bool → List ℕ → (Json → Type 0) → Json → Type 0
ShowsChosen true s kind j = j ≡ string s
ShowsChosen false s kind j = IsUnder s kind j

-- a variant, by its name and the type that it holds; by its index if it has none
abbrev pub ShowsVariant : Schema → Option (List ℕ) → Option ℕ → ℕ → (ℕ → Value → Json → Type 0) → Value → Json → Type 0
ShowsVariant schema None k n shows v j = j ≡ number (decimal n)
ShowsVariant schema (Some s) None n shows v j = j ≡ number (decimal n)
ShowsVariant schema (Some s) (Some k) n shows v j = ShowsChosen (is_empty_named (names_at schema k)) s (shows k v) j

-- an enum
abbrev pub ShowsEnum : Bool → Schema → ℕ → List ℕ → (ℕ → Value → Json → Type 0) → Value-F Value → Json → Type 0
ShowsEnum hex schema i is shows (Value-F.Variant n w) j = ShowsVariant schema (variant_named (names_at schema i) n) (slice_get is n) n shows w.value j
ShowsEnum hex schema i is shows v j = j ≡ plain_json hex v

-- a float by its bits
abbrev pub ShowsFloat : Integer → Json → Type 0
ShowsFloat (integers.U32 n) j = ShowsSingle n j
ShowsFloat (integers.U64 n) j = ShowsDouble n j
ShowsFloat i j = j ≡ integer_json i

-- an integer that is sent as its bytes, or a float
abbrev pub ShowsInteger : Bool → Bool → Value-F Value → Json → Type 0
ShowsInteger true hex (Value-F.LE i) j = ShowsFloat i j
ShowsInteger true hex v j = j ≡ plain_json hex v
ShowsInteger false hex v j = j ≡ plain_json hex v

-- a value of a node
abbrev pub ShowsNode : Bool → Schema → ℕ → (ℕ → Value → Json → Type 0) → Option Node → Value-F Value → Json → Type 0
ShowsNode hex schema i shows (Some (node.Option k)) v j = ShowsOption hex schema k (shows k) v j
ShowsNode hex schema i shows (Some (node.List k)) v j = ShowsList hex schema i k shows v j
ShowsNode hex schema i shows (Some (node.ListUpTo n k)) v j = ShowsList hex schema i k shows v j
ShowsNode hex schema i shows (Some (node.Array n k)) v j = ShowsFixed hex schema k (shows k) v j
ShowsNode hex schema i shows (Some (node.Struct is)) v j = ShowsStruct hex (names_at schema i) is.items shows v j
ShowsNode hex schema i shows (Some (node.Enum is)) v j = ShowsEnum hex schema i is.items shows v j
ShowsNode hex schema i shows (Some (node.LE k)) v j = ShowsInteger (is_float_named (names_at schema i)) hex v j
ShowsNode hex schema i shows _ v j = j ≡ plain_json hex v

-- the JSON of a value of the type at a place, which is `null` below so many nested nodes
unfoldable pub Shows : Bool → Schema → ℕ → ℕ → Value → Json → Type 0
Shows hex schema zero i v j = j ≡ null
Shows hex schema (suc depth) i v j = ShowsNode hex schema i (Shows hex schema depth) (node_at schema i) (out-Value v) j

-- a text is this JSON
abbrev pub IsJsonOf : List ℕ → Json → Type 0
IsJsonOf text j = tokens text ≡ json_tokens j

-- a text is what is printed of the value of the type at a place, with at most so many nested nodes; it is UTF-8
abbrev pub Prints : Bool → Schema → ℕ → ℕ → Value → List ℕ → Type 0
Prints hex schema depth i v text = (j : Json) × (text ≡ print (json_tokens j)) × IsJsonOf text j × Shows hex schema depth i v j × IsUtf8 text

-- Which value a JSON means, by its type.
use Rattle.std.specs.Prelude.{◌≡◌, ◌≢◌, ◌⊎◌, ◌<◌, ℕ, zero, suc, ◌+◌, ◌*◌, ℤ, List, [], ◌∷◌, length, Bool, true, false, ◌&&◌, Option, Some, None, option_and_then, Ok, codes, String, string_bytes, encode_utf8}
use Rattle.std.specs.List.{slice_get}
use Rattle.std.specs.Str.{IsUtf8}
use Rattle.std.specs.Str.Parse.{IsNumeral, digits_value, signed_digits_value, without_leading_plus, without_leading_sign}
use Rattle.hex.specs.Hex.{decode_of}
use Rattle.json.specs.Json.{Json, value as json_value, null, boolean, number, string, array, object, Items, no_items, item, Members, no_members, member}
use Rattle.std.specs.Borrow.{Bor}
use Rattle.json.specs.Lex.{tokens}
use Rattle.json.specs.Find.{at, get}
use Rattle.json.specs.Value.{value_view}
use Rattle.json.specs.declared.value.Value.{Value as Parsed}
use Rattle.schema_table.specs.declared.node.Node.{Node}
use Rattle.schema_table.specs.declared.node.Node.TheVariants as node
use Rattle.schema_table.specs.declared.schema.Names.{Names}
use Rattle.schema_table.specs.declared.schema.Names.TheVariants as names
use Rattle.schema_table.specs.declared.schema.Schema.{Schema}
use Rattle.schema_table.specs.Telling.{names_at, node_at}
use Rattle.schema_table.specs.declared.integer.Integer.{Integer}
use Rattle.schema_table.specs.declared.integer.Integer.TheVariants as integers
use Rattle.schema_table.specs.declared.value.Value.{Value, out-Value}
use Rattle.schema_table.specs.declared.value.Value.TheOpen.{Value-F}
use Rattle.schema_table.specs.Schemas.{OfList, OfGroup}
use Rattle.wire_json.specs.Floats.{NumberMeansFloat, WordMeansFloat}
use Rattle.wire_json.specs.InRange.{Fits}
use Rattle.schema_table.specs.Looks.{HasNoFields, IsPresentBy, IsUnder, is_byte_node, is_empty_named, is_float_named, is_map_named, inside_of, first_is_key, null_within, only_part, pair_node, truth_key, variant_named}
use Rattle.schema_table.specs.Printed.{two_values}

-- Values without parts

-- a text is the digits of a number
abbrev pub IsUnsigned : List ℕ → ℕ → Type 0
IsUnsigned s n = IsNumeral 10 (without_leading_plus s) × (n ≡ digits_value 10 (without_leading_plus s))

-- the same with a sign
abbrev pub IsSigned : List ℕ → ℤ → Type 0
IsSigned s z = IsNumeral 10 (without_leading_sign s) × (z ≡ signed_digits_value 10 s)

-- the same of an integer that is sent as its bytes
abbrev pub IsInteger : List ℕ → Integer → Type 0
IsInteger s (integers.U16 n) = IsUnsigned s n
IsInteger s (integers.U32 n) = IsUnsigned s n
IsInteger s (integers.U64 n) = IsUnsigned s n
IsInteger s (integers.U128 n) = IsUnsigned s n
IsInteger s (integers.I16 z) = IsSigned s z
IsInteger s (integers.I32 z) = IsSigned s z
IsInteger s (integers.I64 z) = IsSigned s z
IsInteger s (integers.I128 z) = IsSigned s z

-- a value is the number of these digits
abbrev pub MeansNumber : List ℕ → Value-F Value → Type 0
MeansNumber s (Value-F.U8 n) = IsUnsigned s n
MeansNumber s (Value-F.U16 n) = IsUnsigned s n
MeansNumber s (Value-F.U32 n) = IsUnsigned s n
MeansNumber s (Value-F.U64 n) = IsUnsigned s n
MeansNumber s (Value-F.U128 n) = IsUnsigned s n
MeansNumber s (Value-F.I8 z) = IsSigned s z
MeansNumber s (Value-F.I16 z) = IsSigned s z
MeansNumber s (Value-F.I32 z) = IsSigned s z
MeansNumber s (Value-F.I64 z) = IsSigned s z
MeansNumber s (Value-F.I128 z) = IsSigned s z
MeansNumber s (Value-F.LE i) = IsInteger s i
MeansNumber s (Value-F.BE i) = IsInteger s i
MeansNumber s _ = ⊥

-- a byte, by its digits
abbrev pub MeansByte : Json → ℕ → Type 0
MeansByte (number s) n = IsUnsigned s n
MeansByte _ n = ⊥

-- bytes, by a number each
abbrev pub MeansBytes : Items → List ℕ → Type 0
MeansBytes no_items [] = Unit {0}
MeansBytes (item j js) (b ∷ bs) = MeansByte j b × MeansBytes js bs
MeansBytes _ _ = ⊥

-- bytes, by hexadecimal digits
abbrev pub IsHex : List ℕ → List ℕ → Type 0
IsHex s bs = decode_of s ≡ Ok bs

-- bytes, by either
abbrev pub AreBytesOf : Json → List ℕ → Type 0
AreBytesOf (array js) bs = MeansBytes js bs
AreBytesOf (string s) bs = IsHex s bs
AreBytesOf _ bs = ⊥

-- a value without parts
abbrev pub MeansPlain : Json → Value-F Value → Type 0
MeansPlain (boolean b) (Value-F.Bool c) = c ≡ b
MeansPlain (number s) v = MeansNumber s v
MeansPlain (string s) (Value-F.Char c) = s ≡ encode_utf8 c
MeansPlain (string s) (Value-F.Text t) = string_bytes t ≡ s
MeansPlain j (Value-F.Bytes v) = AreBytesOf j v.items
MeansPlain _ _ = ⊥

-- Keys: the names of members

-- a value without parts
abbrev pub KeyMeansPlain : List ℕ → Value-F Value → Type 0
KeyMeansPlain s (Value-F.Bool b) = s ≡ truth_key b
KeyMeansPlain s (Value-F.Char c) = s ≡ encode_utf8 c
KeyMeansPlain s (Value-F.Text t) = string_bytes t ≡ s
KeyMeansPlain s v = MeansNumber s v

-- the first variant of this name
abbrev pub IsIndexOf : Option Names → List ℕ → ℕ → Type 0
IsIndexOf named s n = (variant_named named n ≡ Some s) × ((m : ℕ) → m < n → variant_named named m ≢ Some s)

-- a variant of this name, without fields
abbrev pub IsNamed : Schema → Option Names → List ℕ → List ℕ → Value-F Value → Type 0
IsNamed schema named is s (Value-F.Variant n w) = IsIndexOf named s n × ((k : ℕ) × (slice_get is n ≡ Some k) × HasNoFields (node_at schema k))
IsNamed schema named is s _ = ⊥

-- a value of a node
abbrev pub KeyMeansNode : Schema → Option Names → Option Node → List ℕ → Value-F Value → Type 0
KeyMeansNode schema None _ s v = ⊥
KeyMeansNode schema (Some named) (Some (node.Enum is)) s v = IsNamed schema (Some named) is.items s v
KeyMeansNode schema (Some named) _ s v = KeyMeansPlain s v

-- the only part of a value
abbrev pub MeansInside : (Value → Type 0) → Value → Type 0
MeansInside kind v = (w : Value) × (only_part (out-Value v) ≡ Some w) × kind w

-- a value of the type inside, if there is one; of a node otherwise
abbrev pub KeyMeansBy : Option ℕ → (ℕ → Value → Type 0) → (Value → Type 0) → Value → Type 0
KeyMeansBy None inside here v = here v
KeyMeansBy (Some k) inside here v = MeansInside (inside k) v

-- a value of the type at a place, with so many nested nodes
unfoldable pub KeyMeans : Schema → ℕ → ℕ → List ℕ → Value → Type 0
KeyMeans schema zero i s v = ⊥
KeyMeans schema (suc depth) i s v =
    KeyMeansBy (inside_of schema i) (λ k w. KeyMeans schema depth k s w) (λ w. KeyMeansNode schema (names_at schema i) (node_at schema i) s (out-Value w)) v

-- Values with parts

-- the JSON k of a present value
abbrev pub IsPresent : Schema → ℕ → Json → Json → Type 0
IsPresent schema i k j = IsPresentBy (null_within (length schema.nodes.items) schema i) (λ x. x ≡ k) j

-- an option of this type: `null` is none
abbrev pub MeansOption : Schema → ℕ → (Json → Value → Type 0) → Json → Value-F Value → Type 0
MeansOption schema i means j Value-F.Absent = j ≡ null
MeansOption schema i means j (Value-F.Present w) = (j ≢ null) × IsPresentBy (null_within (length schema.nodes.items) schema i) (λ k. means k w.value) j
MeansOption schema i means j _ = ⊥

-- values of one type, one for each of these
abbrev pub MeansItems : (Json → Value → Type 0) → Items → List Value → Type 0
MeansItems means no_items [] = Unit {0}
MeansItems means (item j js) (v ∷ vs) = means j v × MeansItems means js vs
MeansItems means _ _ = ⊥

-- bytes, one for each of these
abbrev pub AreBytes : List ℕ → List Value → Type 0
AreBytes [] [] = Unit {0}
AreBytes (b ∷ bs) (v ∷ vs) = (out-Value v ≡ Value-F.U8 b) × AreBytes bs vs
AreBytes _ _ = ⊥

-- values of one type, by its node: bytes also by hexadecimal digits
abbrev pub MeansElements : Option Node → (Json → Value → Type 0) → Json → List Value → Type 0
MeansElements n means (array js) vs = MeansItems means js vs
MeansElements n means (string s) vs = (is_byte_node n ≡ true) × ((bs : List ℕ) × IsHex s bs × AreBytes bs vs)
MeansElements n means _ vs = ⊥

-- two values by their types, the first by a name
abbrev pub MeansHeld : (ℕ → List ℕ → Value → Type 0) → (ℕ → Json → Value → Type 0) → Option (ℕ × ℕ) → Option (Value × Value) → List ℕ → Json → Type 0
MeansHeld keys means (Some p) (Some two) s j = keys p.0 s two.0 × means p.1 j two.1
MeansHeld keys means _ _ s j = ⊥

-- pairs, one for each member
abbrev pub MeansMembers : (List ℕ → Json → Value → Type 0) → Members → List Value → Type 0
MeansMembers pair no_members [] = Unit {0}
MeansMembers pair (member s j ms) (v ∷ vs) = pair s j v × MeansMembers pair ms vs
MeansMembers pair _ _ = ⊥

-- the elements of a list; also the members of a map, if its keys can be texts
abbrev pub MeansList : Bool → Option Node → (Json → Value → Type 0) → (List ℕ → Json → Value → Type 0) → Json → List Value → Type 0
MeansList keys n means pair (object ms) vs = (keys ≡ true) × MeansMembers pair ms vs
MeansList keys n means pair j vs = MeansElements n means j vs

-- a name is one of these
abbrev pub IsOneOf : {A : Type 0} → List ℕ → List (String A) → Type 0
IsOneOf s [] = ⊥
IsOneOf s (n ∷ ns) = (string_bytes n ≡ s) ⊎ IsOneOf s ns

-- a member has this name
abbrev pub HasMember : List ℕ → Members → Type 0
HasMember s no_members = ⊥
HasMember s (member t j ms) = (t ≡ s) ⊎ HasMember s ms

-- each member has one of these names
abbrev pub AreNamed : {A : Type 0} → List (String A) → Members → Type 0
AreNamed ns no_members = Unit {0}
AreNamed ns (member s j ms) = IsOneOf s ns × AreNamed ns ms

-- no two members have one name
abbrev pub AreNamedOnce : Members → Type 0
AreNamedOnce no_members = Unit {0}
AreNamedOnce (member s j ms) = (HasMember s ms → ⊥) × AreNamedOnce ms

-- how many elements
abbrev pub count_items : Items → ℕ
count_items no_items = 0
count_items (item j js) = count_items js + 1

-- how many members
abbrev pub count_members : Members → ℕ
count_members no_members = 0
count_members (member s j ms) = count_members ms + 1

-- the JSON of a struct of so many fields, whatever these are
abbrev pub HasShape : Names → ℕ → Json → Type 0
HasShape names.Newtype n j = Unit {0}
HasShape names.Unit n j = j ≡ null
HasShape names.Empty n j = j ≡ null
HasShape names.Tuple n (array js) = count_items js ≡ n
HasShape (names.Fields ns) n (object ms) = n ≡ 0 → ms ≡ no_members
HasShape _ n j = ⊥

-- each member is a field, and no field is there twice; so it is if there are as many as names, each name is there, and the names differ
abbrev pub HasOnlyFields : Names → Json → Type 0
HasOnlyFields (names.Fields ns) (object ms) = (count_members ms ≡ length ns.items) ⊎ (AreNamed ns.items ms × AreNamedOnce ms)
HasOnlyFields _ j = Unit {0}

-- the JSON of a field: of a newtype all, of a tuple the element, else the member of its name
abbrev pub field_json : Names → ℕ → Json → Option Json
field_json names.Newtype n j = Some j
field_json names.Tuple n j = at n j
field_json (names.Fields ns) n j = option_and_then (λ s. get (string_bytes s) j) (slice_get ns.items n)
field_json _ n j = None

-- the value of a field
abbrev pub MeansField : Names → Json → (Json → Value → Type 0) → ℕ → Value → Type 0
MeansField named j means n v = (k : Json) × (field_json named n j ≡ Some k) × means k v

-- the values of fields of these types, the first with this number
abbrev pub MeansFields : Names → Json → (ℕ → Json → Value → Type 0) → ℕ → List ℕ → List Value → Type 0
MeansFields named j means n [] [] = Unit {0}
MeansFields named j means n (i ∷ is) (v ∷ vs) = MeansField named j (means i) n v × MeansFields named j means (n + 1) is vs
MeansFields named j means n _ _ = ⊥

-- the name of a variant, and the JSON of what it holds, if there is any
abbrev pub chosen : Json → Option (List ℕ × Option Json)
chosen (string s) = Some (s, None)
chosen (object (member s j no_members)) = Some (s, Some j)
chosen _ = None

-- the JSON of what a variant holds
abbrev pub held_json : {A : Type 0} → Option (Bor (Parsed A)) → Option Json
held_json None = None
held_json (Some j) = Some (value_view j.now)

-- a variant without fields holds `null` at most, another has JSON for them
abbrev pub MayHold : Bool → Option Json → Type 0
MayHold true None = Unit {0}
MayHold true (Some j) = j ≡ null
MayHold false None = ⊥
MayHold false (Some j) = Unit {0}

-- this JSON, or `null`
abbrev pub or_null : Option Json → Json
or_null None = null
or_null (Some j) = j

-- what a variant holds, by its type
abbrev pub MeansHolding : Schema → (ℕ → Json → Value → Type 0) → ℕ → Option Json → Value → Type 0
MeansHolding schema means k o v = MayHold (is_empty_named (names_at schema k)) o × means k (or_null o) v

-- a variant of this name, by what it holds
abbrev pub MeansNamed : Schema → Option Names → List ℕ → (ℕ → Json → Value → Type 0) → List ℕ → Option Json → Value-F Value → Type 0
MeansNamed schema named is means s o (Value-F.Variant n w) = IsIndexOf named s n × ((k : ℕ) × (slice_get is n ≡ Some k) × MeansHolding schema means k o w.value)
MeansNamed schema named is means s o _ = ⊥

-- an enum
abbrev pub MeansEnum : Schema → Option Names → List ℕ → (ℕ → Json → Value → Type 0) → Option (List ℕ × Option Json) → Value-F Value → Type 0
MeansEnum schema named is means None v = ⊥
MeansEnum schema named is means (Some c) v = MeansNamed schema named is means c.0 c.1 v

-- a struct or a tuple
abbrev pub MeansStruct : Option Names → List ℕ → (ℕ → Json → Value → Type 0) → Json → List Value → Type 0
MeansStruct None is means j vs = ⊥
MeansStruct (Some named) is means j vs = HasShape named (length is) j × HasOnlyFields named j × MeansFields named j means 0 is vs

-- a float
abbrev pub MeansFloat : Json → Value-F Value → Type 0
MeansFloat (number s) (Value-F.LE i) = NumberMeansFloat s i
MeansFloat (string s) (Value-F.LE i) = WordMeansFloat s i
MeansFloat _ _ = ⊥

-- an integer that is sent as its bytes, or a float
abbrev pub MeansFixed : Bool → Json → Value-F Value → Type 0
MeansFixed true j v = MeansFloat j v
MeansFixed false j v = MeansPlain j v

-- a value of a node; without names nothing is
abbrev pub MeansNode : Schema → Option Names → (ℕ → Option (List ℕ) → Json → Value → Type 0) → Option Node → Json → Value-F Value → Type 0
MeansNode schema None means _ j v = ⊥
MeansNode schema (Some named) means (Some (node.Option k)) j v = MeansOption schema k (means k None) j v
MeansNode schema (Some named) means (Some (node.List k)) j v = OfList (MeansList (is_map_named (Some named) && first_is_key schema (pair_node (node_at schema k))) (node_at schema k) (means k None) (λ s. means k (Some s)) j) v
MeansNode schema (Some named) means (Some (node.ListUpTo n k)) j v =
    OfList (MeansList (is_map_named (Some named) && first_is_key schema (pair_node (node_at schema k))) (node_at schema k) (means k None) (λ s. means k (Some s)) j) v
MeansNode schema (Some named) means (Some (node.Array n k)) j v = OfGroup (MeansElements (node_at schema k) (means k None) j) v
MeansNode schema (Some named) means (Some (node.Struct is)) j v = OfGroup (MeansStruct (Some named) is.items (λ i. means i None) j) v
MeansNode schema (Some named) means (Some (node.Enum is)) j v = MeansEnum schema (Some named) is.items (λ i. means i None) (chosen j) v
MeansNode schema (Some named) means (Some (node.LE k)) j v = MeansFixed (is_float_named (Some named)) j v
MeansNode schema (Some named) means _ j v = MeansPlain j v

-- the value of the type at a place, with at most so many nested nodes, that a JSON means, or a member of an object of this name: a pair
unfoldable pub Means : Schema → ℕ → ℕ → Option (List ℕ) → Json → Value → Type 0
Means schema zero i s j v = ⊥
Means schema (suc depth) i None j v = MeansNode schema (names_at schema i) (Means schema depth) (node_at schema i) j (out-Value v)
Means schema (suc depth) i (Some s) j v = MeansHeld (KeyMeans schema depth) (λ k. Means schema depth k None) (pair_node (node_at schema i)) (two_values (out-Value v)) s j

-- a value by itself
abbrev pub MeansValue : Schema → ℕ → ℕ → Json → Value → Type 0
MeansValue schema depth i j v = Means schema depth i None j v

-- a pair by a member
abbrev pub MeansMember : Schema → ℕ → ℕ → List ℕ → Json → Value → Type 0
MeansMember schema depth i s j v = Means schema depth i (Some s) j v

-- no value of the type is meant
abbrev pub IsUnread : Schema → ℕ → ℕ → Json → Type 0
IsUnread schema depth i j = (v : Value) → Fits schema depth i v → MeansValue schema depth i j v → ⊥

-- a line: an object with the value alone, else the value
abbrev pub MeansLine : Schema → ℕ → ℕ → Json → Value → Type 0
MeansLine schema depth i j v =
    IsUnder (codes "value") (λ k. MeansValue schema depth i k v) j ⊎ (((k : Json) → j ≡ object (member (codes "value") k no_members) → IsUnread schema depth i k) × MeansValue schema depth i j v)

-- a text: UTF-8 and a line, whose JSON nests in so many brackets at most
abbrev pub MeansText : Schema → ℕ → ℕ → List ℕ → Value → Type 0
MeansText schema depth i text v = IsUtf8 text × ((j : Json) × (json_value (2 * depth + 2) (tokens text) ≡ Some (j, [])) × MeansLine schema depth i j v)

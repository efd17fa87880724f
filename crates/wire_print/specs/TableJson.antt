-- The JSON of a table of types.
use Rattle.std.specs.Prelude.{◌≡◌, ℕ, ◌+◌, List, [], ◌∷◌, ◌++◌, map, Option, Some, None, OnOk, Result, String, codes, string_bytes, decimal, flat_map}
use Rattle.json.specs.Json.{Json, null, number, string, array, object}
use Rattle.json.specs.Print.{print}
use Rattle.json.specs.Tree.{json_tokens}
use Rattle.json.specs.Value.{items_of}
use Rattle.json.specs.Written.{Written}
use Rattle.schema_table.specs.declared.integer.IntegerType.{IntegerType}
use Rattle.schema_table.specs.declared.integer.IntegerType.TheVariants as types
use Rattle.schema_table.specs.declared.node.Node.{Node}
use Rattle.schema_table.specs.declared.node.Node.TheVariants as node
use Rattle.schema_table.specs.declared.schema.Names.{Names}
use Rattle.schema_table.specs.declared.schema.Names.TheVariants as names
use Rattle.schema_table.specs.declared.schema.Named.{Named}
use Rattle.schema_table.specs.declared.schema.Schema.{Schema}
use Rattle.wire_print.specs.Appended.{member_tokens}
use Rattle.schema_table.specs.Printed.{members_by}

-- members were appended
abbrev pub AppendsMembers : {E : Type 0} → Result (Unit {0}) E → Written → Written → List (List ℕ × Json) → Type 0
AppendsMembers r old new ms = OnOk r (new.tokens ≡ old.tokens ++ flat_map member_tokens ms)

-- an object with these members, in their order
abbrev pub object_of : List (List ℕ × Json) → Json
object_of ms = object (members_by ms)

-- a number
abbrev pub number_of : ℕ → Json
number_of n = number (decimal n)

-- a number, or `null`
abbrev pub maybe_number : Option ℕ → Json
maybe_number None = null
maybe_number (Some n) = number_of n

-- a member that says the kind of a node
abbrev pub kind_of : List ℕ → List ℕ × Json
kind_of s = (codes "kind", string s)

-- a member that says the index of the node inside
abbrev pub node_of : ℕ → List ℕ × Json
node_of n = (codes "node", number_of n)

-- a name and an index
abbrev pub named_json : List ℕ → ℕ → Json
named_json name n = object_of ((codes "name", string name) ∷ node_of n ∷ [])

-- names, each with its index
abbrev pub parts_json : {A : Type 0} → List (String A) → List ℕ → List Json
parts_json [] ns = []
parts_json (s ∷ ss) [] = []
parts_json (s ∷ ss) (n ∷ ns) = named_json (string_bytes s) n ∷ parts_json ss ns

-- a member that lists indices by names
abbrev pub parts_of : {A : Type 0} → List ℕ → List (String A) → List ℕ → List ℕ × Json
parts_of of ss ns = (of, array (items_of (parts_json ss ns)))

-- a member that lists indices
abbrev pub places_of : List ℕ → List ℕ × Json
places_of ns = (codes "nodes", array (items_of (map number_of ns)))

-- the name of an integer type
abbrev pub integer_name : IntegerType → List ℕ
integer_name types.U16 = codes "u16"
integer_name types.U32 = codes "u32"
integer_name types.U64 = codes "u64"
integer_name types.U128 = codes "u128"
integer_name types.I16 = codes "i16"
integer_name types.I32 = codes "i32"
integer_name types.I64 = codes "i64"
integer_name types.I128 = codes "i128"

-- an integer of fixed width
abbrev pub integer_members : IntegerType → List ℕ → List (List ℕ × Json)
integer_members k order = kind_of (codes "fixed") ∷ (codes "integer", string (integer_name k)) ∷ (codes "order", string order) ∷ []

-- an integer of fixed width, or a float
abbrev pub fixed_members : Names → IntegerType → List ℕ → List (List ℕ × Json)
fixed_members names.Float types.U32 order = kind_of (codes "f32") ∷ []
fixed_members names.Float types.U64 order = kind_of (codes "f64") ∷ []
fixed_members _ k order = integer_members k order

-- a list or a map
abbrev pub list_kind : Names → List ℕ
list_kind names.Map = codes "map"
list_kind _ = codes "list"

-- a list or a map, with the index of its elements
abbrev pub list_members : Names → Option ℕ → ℕ → List (List ℕ × Json)
list_members named most n = kind_of (list_kind named) ∷ (codes "most", maybe_number most) ∷ node_of n ∷ []

-- an array
abbrev pub array_members : ℕ → ℕ → List (List ℕ × Json)
array_members count n = kind_of (codes "array") ∷ (codes "count", number_of count) ∷ node_of n ∷ []

-- a tuple
abbrev pub tuple_members : List ℕ → List (List ℕ × Json)
tuple_members ns = kind_of (codes "tuple") ∷ places_of ns ∷ []

-- a newtype, if it has one field
abbrev pub newtype_members : List ℕ → List (List ℕ × Json)
newtype_members (n ∷ []) = kind_of (codes "newtype") ∷ node_of n ∷ []
newtype_members ns = tuple_members ns

-- a struct or a tuple
abbrev pub struct_members : Names → List ℕ → List (List ℕ × Json)
struct_members names.Empty ns = kind_of (codes "empty") ∷ []
struct_members names.Unit ns = kind_of (codes "unit") ∷ []
struct_members names.Newtype ns = newtype_members ns
struct_members (names.Fields ss) ns = kind_of (codes "struct") ∷ parts_of (codes "fields") ss.items ns ∷ []
struct_members _ ns = tuple_members ns

-- what an enum's variants are
abbrev pub variants_of : Names → List ℕ → List ℕ × Json
variants_of (names.Variants ss) ns = parts_of (codes "variants") ss.items ns
variants_of _ ns = places_of ns

-- an enum
abbrev pub enum_members : Names → List ℕ → List (List ℕ × Json)
enum_members named ns = kind_of (codes "enum") ∷ variants_of named ns ∷ []

-- a text, with its maximum length, if it has one
abbrev pub text_members : Option ℕ → List (List ℕ × Json)
text_members most = kind_of (codes "text") ∷ (codes "most", maybe_number most) ∷ []

-- the kind of a node without parts
abbrev pub plain_name : Node → List ℕ
plain_name node.Bool = codes "bool"
plain_name node.U8 = codes "u8"
plain_name node.U16 = codes "u16"
plain_name node.U32 = codes "u32"
plain_name node.U64 = codes "u64"
plain_name node.U128 = codes "u128"
plain_name node.I8 = codes "i8"
plain_name node.I16 = codes "i16"
plain_name node.I32 = codes "i32"
plain_name node.I64 = codes "i64"
plain_name node.I128 = codes "i128"
plain_name node.Char = codes "char"
plain_name _ = codes "bytes"

-- the kind and the parts of a node
abbrev pub node_members : Names → Node → List (List ℕ × Json)
node_members named (node.LE k) = fixed_members named k (codes "little")
node_members named (node.BE k) = fixed_members named k (codes "big")
node_members named node.Text = text_members None
node_members named (node.TextUpTo n) = text_members (Some n)
node_members named (node.Option k) = kind_of (codes "option") ∷ node_of k ∷ []
node_members named (node.List k) = list_members named None k
node_members named (node.ListUpTo n k) = list_members named (Some n) k
node_members named (node.Array n k) = array_members n k
node_members named (node.Struct ns) = struct_members named ns.items
node_members named (node.Enum ns) = enum_members named ns.items
node_members named n = kind_of (plain_name n) ∷ []

-- a node, with its maximum size
abbrev pub sized_json : Node → Names → Option ℕ → Json
sized_json n named size = object_of (node_members named n ++ (codes "size", maybe_number size) ∷ [])

-- nodes, each with its names and its size
abbrev pub nodes_json : List Node → List Names → List (Option ℕ) → List Json
nodes_json (n ∷ ns) (m ∷ ms) (s ∷ ss) = sized_json n m s ∷ nodes_json ns ms ss
nodes_json _ _ _ = []

-- a declared type, with its name, its line and its index
abbrev pub type_json : List ℕ → ℕ → ℕ → Json
type_json name line n = object_of ((codes "name", string name) ∷ (codes "line", number_of line) ∷ node_of n ∷ [])

-- declared types, the first with this index
abbrev pub types_json : List Named → ℕ → List Json
types_json [] n = []
types_json (t ∷ ts) n = type_json (string_bytes t.name) t.line n ∷ types_json ts (n + 1)

-- a member with the declared types
abbrev pub types_of : Schema → List ℕ × Json
types_of schema = (codes "types", array (items_of (types_json schema.types.items 0)))

-- a member with the nodes, and the maximum sizes of their values
abbrev pub nodes_of : Schema → List (Option ℕ) → List ℕ × Json
nodes_of schema sizes = (codes "nodes", array (items_of (nodes_json schema.nodes.items schema.names.items sizes)))

-- a table of types, with the maximum sizes of its nodes
abbrev pub table_of : Schema → List (Option ℕ) → Json
table_of schema sizes = object_of ((codes "version", number_of 1) ∷ types_of schema ∷ nodes_of schema sizes ∷ [])

-- the text of a table, with the maximum sizes of its nodes
abbrev pub table_text : Schema → List (Option ℕ) → List ℕ
table_text schema sizes = print (json_tokens (table_of schema sizes))

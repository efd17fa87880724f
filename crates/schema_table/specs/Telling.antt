-- When the names of a table tell the parts of its types apart.
use Rattle.std.specs.Prelude.{◌≡◌, ◌≢◌, ◌≤◌, ℕ, List, [], map, Option, Some, None, String, length, string_bytes}
use Rattle.std.specs.List.{AllPairs, slice_get}
use Rattle.schema_table.specs.declared.integer.IntegerType.{IntegerType}
use Rattle.schema_table.specs.declared.integer.IntegerType.TheVariants as integer
use Rattle.schema_table.specs.declared.node.Node.{Node}
use Rattle.schema_table.specs.declared.node.Node.TheVariants as node
use Rattle.schema_table.specs.declared.schema.Names.{Names}
use Rattle.schema_table.specs.declared.schema.Names.TheVariants as names
use Rattle.schema_table.specs.declared.schema.Schema.{Schema}

-- the names of the type at a place
abbrev pub names_at : Schema → ℕ → Option Names
names_at schema i = slice_get schema.names.items i

-- the node of the type at a place
abbrev pub node_at : Schema → ℕ → Option Node
node_at schema i = slice_get schema.nodes.items i

-- names that differ
abbrev pub NamesDiffer : {A : Type 0} → List (String A) → Type 0
NamesDiffer ns = AllPairs (λ s t. s ≢ t) (map string_bytes ns)

-- the names of a struct with these fields, as those of a Rust type: a newtype has one field at most, and no two fields have one name
abbrev pub IsStructNames : List ℕ → Names → Type 0
IsStructNames is names.Newtype = length is ≤ 1
IsStructNames is names.Unit = is ≡ []
IsStructNames is names.Empty = is ≡ []
IsStructNames is names.Tuple = Unit {0}
IsStructNames is (names.Fields ns) = (length ns.items ≡ length is) × NamesDiffer ns.items
IsStructNames is _ = ⊥

-- those of an enum with these variants: no two variants have one name
abbrev pub IsEnumNames : List ℕ → Names → Type 0
IsEnumNames is (names.Variants ns) = (length ns.items ≡ length is) × NamesDiffer ns.items
IsEnumNames is _ = ⊥

-- those of an integer that is sent as its bytes: a float has 32 or 64 bits
abbrev pub IsFixedNames : IntegerType → Names → Type 0
IsFixedNames integer.U32 names.Float = Unit {0}
IsFixedNames integer.U64 names.Float = Unit {0}
IsFixedNames k names.Float = ⊥
IsFixedNames k names.Empty = ⊥
IsFixedNames k _ = Unit {0}

-- those of any other type
abbrev pub IsOtherNames : Names → Type 0
IsOtherNames names.Empty = ⊥
IsOtherNames _ = Unit {0}

-- the names of a type, which tell its parts apart
abbrev pub AreNamesOf : Node → Names → Type 0
AreNamesOf (node.Struct is) = IsStructNames is.items
AreNamesOf (node.Enum is) = IsEnumNames is.items
AreNamesOf (node.LE k) = IsFixedNames k
AreNamesOf _ = IsOtherNames

-- a type has names, which tell its parts apart
abbrev pub TellsParts : Option Node → Option Names → Type 0
TellsParts None _ = Unit {0}
TellsParts (Some n) None = ⊥
TellsParts (Some n) (Some m) = AreNamesOf n m

-- those of each type of a table do
abbrev pub NamesTellParts : Schema → Type 0
NamesTellParts schema = (i : ℕ) → TellsParts (node_at schema i) (names_at schema i)

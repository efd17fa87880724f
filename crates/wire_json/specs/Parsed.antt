-- When a value is of a type of a table.
use Rattle.std.specs.Prelude.{◌≡◌, ℕ, List}
use Rattle.std.specs.Global.{Vec}
use Rattle.postcard_tree.specs.Reading.{GroupOf, TakesVariant}
use Rattle.schema_table.specs.declared.node.Node.{Node}
use Rattle.schema_table.specs.declared.value.Value.{Value, Group}
use Rattle.schema_table.specs.Values.{tree_of}
use Rattle.schema_table.specs.Schemas.{SchemaHas, SchemaReads, SchemaTakes, TakesFields, TakesNode, TakesPayload, AtTop, EachHas, FieldsHave, NodeHas, OfGroup, OfVariant, PayloadHas}

-- A value of the type at that index, with at most `depth` nested nodes: the type accepts its tree, and reads it as this value.
abbrev pub IsOfType : ℕ → List Node → ℕ → Value → Type 0
IsOfType depth nodes place v = SchemaReads depth nodes place (tree_of v) v

-- values of it
abbrev pub AreOfType : ℕ → List Node → ℕ → List Value → Type 0
AreOfType depth nodes place vs = EachHas (IsOfType depth nodes place) vs

-- The same of a type by its node.
abbrev pub IsOfNode : ℕ → List Node → Node → Value → Type 0
IsOfNode depth nodes n v = TakesNode (SchemaTakes depth nodes) n (tree_of v) × AtTop (NodeHas (SchemaHas depth nodes) n) v

-- the same of a struct, by the types of its fields
abbrev pub IsOfStruct : ℕ → List Node → List ℕ → Value → Type 0
IsOfStruct depth nodes is v = GroupOf (TakesFields (SchemaTakes depth nodes) is) (tree_of v) × AtTop (OfGroup (FieldsHave (SchemaHas depth nodes) is)) v

-- the same of an enum, by the types that its variants hold
abbrev pub IsOfEnum : ℕ → List Node → List ℕ → Value → Type 0
IsOfEnum depth nodes is v = TakesVariant (TakesPayload (SchemaTakes depth nodes) is) (tree_of v) × AtTop (OfVariant (PayloadHas (SchemaHas depth nodes) is)) v

-- the same of a node that has no types inside: whatever the table
abbrev pub IsOfLeaf : Node → Value → Type 0
IsOfLeaf n v = (depth : ℕ) (nodes : List Node) → IsOfNode depth nodes n v

-- these values together, as a struct or a tuple
abbrev pub IsGroupOf : List Value → Value → Type 0
IsGroupOf vs v = (w : Vec Value) × (v ≡ Group w) × (w.items ≡ vs)

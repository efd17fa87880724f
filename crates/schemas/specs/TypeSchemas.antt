-- When a type of a table is a Rust type: it accepts that type's trees, refuses what that type refuses, and reads values of its
-- kinds.
use Rattle.std.specs.Prelude.{◌≡◌, ℕ, zero, suc, ◌≤◌, List, [], ◌∷◌, ◌++◌, length}
use Rattle.postcard_tree.specs.declared.error.Error.{Error}
use Rattle.postcard_tree.specs.Tree.{Tree, Trees}
use Rattle.postcard_de.specs.Answer.{ReadsFront}
use Rattle.schema_table.specs.declared.node.Node.{Node}
use Rattle.schema_table.specs.declared.node.Node.TheVariants as node
use Rattle.schema_table.specs.declared.value.Value.{Value}
use Rattle.schema_table.specs.Values.{tree_of}
use Rattle.schema_table.specs.Schemas.{TakesFields, TakesPayload, TakesNode, RefusesFields, RefusesPayload, RefusesNode, AtTop, FieldsHave, PayloadHas, NodeHas, SchemaTakes, SchemaHas, SchemaReads, SchemaRefuses}

-- a table that begins with these nodes
pub record BeginsWith (nodes table : List Node) : Type 0 where
  -- The nodes after them.
  pub more : List Node
  -- The table is these nodes and then those.
  pub whole : table ≡ nodes ++ more

-- two types, or the fields of two, accept the same and refuse the same
pub record TakeTheSame {A : Type 0} (takes takes' : A → Type 0)
    (refuses refuses' : List ℕ → Error → Type 0) : Type 0 where
  -- What the first accepts the second does.
  pub to : (t : A) → takes t → takes' t
  -- What the second accepts the first does.
  pub from : (t : A) → takes' t → takes t
  -- What the first refuses the second does, with the same error.
  pub refused_to : (s : List ℕ) (e : Error) → refuses s e → refuses' s e
  -- What the second refuses the first does, with the same error.
  pub refused_from : (s : List ℕ) (e : Error) → refuses' s e → refuses s e

-- a message type whose form is that of its shape accepts and refuses the same
pub as_its_shape : {P : Tree → Type 0} {F : List ℕ → Error → Type 0} → TakeTheSame P P F F
as_its_shape = record { to = λ t h. h; from = λ t h. h; refused_to = λ s e h. h; refused_from = λ s e h. h }

-- two kinds, or the kinds of the parts of two, have the same values
pub record HaveTheSame {A : Type 0} (has has' : A → Type 0) : Type 0 where
  -- Each value of the first is one of the second.
  pub to : (v : A) → has v → has' v
  -- Each value of the second is one of the first.
  pub from : (v : A) → has' v → has v

-- In each table that begins with these nodes, at a depth of as many nodes or more, the type at the place accepts exactly what
-- `takes` says, refuses exactly what `refuses` says, and has exactly the values that `has` says.
pub record IsSchemaOf (takes : Tree → Type 0) (refuses : List ℕ → Error → Type 0)
    (has : Value → Type 0) (nodes : List Node) (place : ℕ) : Type 0 where
  -- It accepts and refuses exactly what the type does.
  pub same : (depth : ℕ) (table : List Node) → length nodes ≤ depth → BeginsWith nodes table
      → TakeTheSame (SchemaTakes depth table place) takes (SchemaRefuses depth table place) refuses
  -- It has exactly the values of these kinds.
  pub values : (depth : ℕ) (table : List Node) → length nodes ≤ depth → BeginsWith nodes table
      → HaveTheSame (SchemaHas depth table place) has

-- no value
abbrev pub NoneHave : List Value → Type 0
NoneHave [] = Unit {0}
NoneHave (v ∷ vs) = ⊥

-- a value that has it, followed by others that have theirs
abbrev pub OneThenHave : (Value → Type 0) → (List Value → Type 0) → List Value → Type 0
OneThenHave has have [] = ⊥
OneThenHave has have (v ∷ vs) = has v × have vs

-- what the last variant holds has it; its index is 0
abbrev pub LastHas : (Value → Type 0) → ℕ → Value → Type 0
LastHas has zero v = has v
LastHas has (suc n) v = ⊥

-- what the first variant holds has it; the next indexes are those of the others
abbrev pub FirstHas : (Value → Type 0) → (ℕ → Value → Type 0) → ℕ → Value → Type 0
FirstHas has others zero v = has v
FirstHas has others (suc n) v = others n v

-- A schema of a type and the type agree: they accept the same trees, and refuse the same bytes with the same errors. If both
-- read from the same bytes, they read one tree and leave one rest; the schema reads it as a value of the type's kinds.
abbrev pub AgreesWithItsSchemas : {A : Type 0} → (Tree → Type 0) → (Tree → A → Type 0)
    → (List ℕ → Error → Type 0) → (Value → Type 0) → Type 0
AgreesWithItsSchemas {A} takes reads refuses has =
    (nodes : List Node) (place depth : ℕ) → IsSchemaOf takes refuses has nodes place → length nodes ≤ depth
    → TakeTheSame (SchemaTakes depth nodes place) takes (SchemaRefuses depth nodes place) refuses
    × ((s rest rest' : List ℕ) (v : Value) (w : A) → ReadsFront (SchemaReads depth nodes place) s rest v
    → ReadsFront reads s rest' w → (rest ≡ rest') × reads (tree_of v) w × has v)

-- the same of fields, one after another
pub record AreSchemasOf (takes : Trees → Type 0) (refuses : List ℕ → Error → Type 0)
    (have : List Value → Type 0) (nodes : List Node) (places : List ℕ) : Type 0 where
  -- They accept and refuse exactly what the fields do.
  pub same : (depth : ℕ) (table : List Node) → length nodes ≤ depth → BeginsWith nodes table
      → TakeTheSame (TakesFields (SchemaTakes depth table) places) takes
      (RefusesFields (SchemaTakes depth table) (SchemaRefuses depth table) places) refuses
  -- They have exactly the values of these kinds.
  pub values : (depth : ℕ) (table : List Node) → length nodes ≤ depth → BeginsWith nodes table
      → HaveTheSame (FieldsHave (SchemaHas depth table) places) have

-- the same of what variants hold, by their indexes
pub record ArePayloadsOf (takes : ℕ → Tree → Type 0) (refuses : ℕ → List ℕ → Error → Type 0)
    (has : ℕ → Value → Type 0) (nodes : List Node) (places : List ℕ) : Type 0 where
  -- They accept and refuse exactly what the variants hold.
  pub same : (depth : ℕ) (table : List Node) → length nodes ≤ depth → BeginsWith nodes table → (n : ℕ)
      → TakeTheSame (TakesPayload (SchemaTakes depth table) places n) (takes n)
      (RefusesPayload (SchemaRefuses depth table) places n) (refuses n)
  -- They have exactly the values of these kinds.
  pub values : (depth : ℕ) (table : List Node) → length nodes ≤ depth → BeginsWith nodes table → (n : ℕ)
      → HaveTheSame (PayloadHas (SchemaHas depth table) places n) (has n)

-- the places of these payloads were appended to others
pub record PayloadsAdded (takes : ℕ → Tree → Type 0) (refuses : ℕ → List ℕ → Error → Type 0)
    (has : ℕ → Value → Type 0) (nodes : List Node) (old new : List ℕ) : Type 0 where
  -- The places that were appended.
  pub added : List ℕ
  -- They follow the others.
  pub behind : new ≡ old ++ added
  -- They are the places of these payloads.
  pub payloads : ArePayloadsOf takes refuses has nodes added

-- this node was appended to a table, at this place
pub record IsAdded (n : Node) (old new : List Node) (place : ℕ) : Type 0 where
  pub behind : new ≡ old ++ n ∷ []
  pub there : place ≡ length old

-- a struct of these fields
abbrev pub IsStructOf : List ℕ → Node → Type 0
IsStructOf fields (node.Struct held) = held.items ≡ fields
IsStructOf fields _ = ⊥

-- the struct of these fields was appended, at this place
pub record IsStructAdded (fields : List ℕ) (old new : List Node) (place : ℕ) : Type 0 where
  pub put : Node
  pub of_fields : IsStructOf fields put
  pub added : IsAdded put old new place

-- a node that names no place
abbrev pub IsLeaf : Node → Type 0
IsLeaf (node.Option i) = ⊥
IsLeaf (node.List i) = ⊥
IsLeaf (node.ListUpTo n i) = ⊥
IsLeaf (node.Array n i) = ⊥
IsLeaf (node.Struct is) = ⊥
IsLeaf (node.Enum is) = ⊥
IsLeaf _ = Unit {0}

-- what a leaf accepts
abbrev pub LeafTakes : Node → Tree → Type 0
LeafTakes n = TakesNode (λ i t. ⊥) n

-- what a leaf refuses
abbrev pub LeafRefuses : Node → List ℕ → Error → Type 0
LeafRefuses n = RefusesNode (λ i t. ⊥) (λ i s e. ⊥) n

-- the values of a leaf
abbrev pub LeafHas : Node → Value → Type 0
LeafHas n = AtTop (NodeHas (λ i v. ⊥) n)

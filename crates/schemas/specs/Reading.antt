-- What reading by a node of a table did to a deserializer.
use Rattle.std.specs.Prelude.{ℕ, List, [], Result, true}
use Rattle.postcard_tree.specs.declared.error.Error.{Error}
use Rattle.postcard_tree.specs.Reading.{Spelled, GroupOf, TakesVariant, RefusesVariant}
use Rattle.postcard_de.specs.declared.deserializer.Deserializer.{Deserializer}
use Rattle.postcard_de.specs.Source.{SourceState}
use Rattle.postcard_de.specs.Deserializer.{OutcomeOf}
use Rattle.schema_table.specs.declared.node.Node.{Node}
use Rattle.schema_table.specs.declared.value.Value.{Value}
use Rattle.schema_table.specs.Schemas.{ReadsBy, AtTop, OfGroup, OfVariant, TakesFields, TakesPayload, TakesNode, RefusesFields, RefusesPayload, RefusesNode, FieldsHave, PayloadHas, NodeHas, SchemaTakes, SchemaHas, SchemaRefuses}

-- A value of this node's kind was read from a tree that the node's type accepts, or bytes were refused as that type refuses
-- them, or memory was out. The nodes inside are those of this table, and nest at most so deep.
abbrev pub ReadsNode : {F : Type 0} → (F → SourceState) → ℕ → List Node → Node
    → Deserializer F → Deserializer F → Result Value Error → Type 0
ReadsNode source depth nodes n old new r = OutcomeOf source old new r
    (Spelled (ReadsBy (TakesNode (SchemaTakes depth nodes) n)
    (AtTop (NodeHas (SchemaHas depth nodes) n))))
    (RefusesNode (SchemaTakes depth nodes) (SchemaRefuses depth nodes) n) true

-- the same for a node that has none inside
abbrev pub ReadsLeaf : {F : Type 0} → (F → SourceState) → Node
    → Deserializer F → Deserializer F → Result Value Error → Type 0
ReadsLeaf source n old new r = ReadsNode source 0 [] n old new r

-- the same for a struct, by the places of its fields
abbrev pub ReadsStructOf : {F : Type 0} → (F → SourceState) → ℕ → List Node → List ℕ
    → Deserializer F → Deserializer F → Result Value Error → Type 0
ReadsStructOf source depth nodes is old new r = OutcomeOf source old new r
    (Spelled (ReadsBy (GroupOf (TakesFields (SchemaTakes depth nodes) is))
    (AtTop (OfGroup (FieldsHave (SchemaHas depth nodes) is)))))
    (RefusesFields (SchemaTakes depth nodes) (SchemaRefuses depth nodes) is) true

-- the same for an enum, by the places of what its variants hold
abbrev pub ReadsEnumOf : {F : Type 0} → (F → SourceState) → ℕ → List Node → List ℕ
    → Deserializer F → Deserializer F → Result Value Error → Type 0
ReadsEnumOf source depth nodes is old new r = OutcomeOf source old new r
    (Spelled (ReadsBy (TakesVariant (TakesPayload (SchemaTakes depth nodes) is))
    (AtTop (OfVariant (PayloadHas (SchemaHas depth nodes) is)))))
    (RefusesVariant (RefusesPayload (SchemaRefuses depth nodes) is)) true

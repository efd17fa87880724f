-- Which trees a type of a table accepts, as which values, and which bytes it refuses.
use Rattle.std.specs.Prelude.{◌≡◌, ℕ, zero, suc, List, [], ◌∷◌, Option, Some, None}
use Rattle.std.specs.List.{slice_get}
use Rattle.postcard_tree.specs.declared.error.Error.{Error}
use Rattle.postcard_tree.specs.declared.error.Error.TheVariants.{SerdeDeCustom}
use Rattle.postcard_tree.specs.Tree.{Tree, Trees}
use Rattle.postcard_tree.specs.Reading.{TakesByte, RefusesByte, TakesOctet, TakesNumber, RefusesGroups, IsShort, TakesBool, RefusesBool, TakesCharacter, RefusesCharacter, TakesText, RefusesText, TakesSequence, RefusesSequence, RefusesBytes, TakesUpTo, RefusesUpTo, TakesTextUpTo, RefusesTextUpTo, TakesOption, RefusesOption, TakesArray, RefusesEach, NoParts, PartThen, GroupOf, RefusesNoParts, RefusesPartThen, TakesVariant, RefusesVariant}
use Rattle.postcard_tree.specs.Fixed.{TakesFixed}
use Rattle.schema_table.specs.declared.integer.IntegerType.{IntegerType}
use Rattle.schema_table.specs.declared.node.Node.{Node}
use Rattle.schema_table.specs.declared.node.Node.TheVariants as node
use Rattle.schema_table.specs.declared.value.Value.{Value, out-Value}
use Rattle.schema_table.specs.declared.value.Value.TheOpen.{Value-F}
use Rattle.schema_table.specs.Integers.{width_of, type_of}
use Rattle.schema_table.specs.Values.{tree_of}

-- Which trees: `takes` says it of the types inside, by their places

-- fields of these types, one after another
abbrev pub TakesFields : (ℕ → Tree → Type 0) → List ℕ → Trees → Type 0
TakesFields takes [] = NoParts
TakesFields takes (i ∷ is) = PartThen (takes i) (TakesFields takes is)

-- what the variant of this index holds; there are no others
abbrev pub TakesPayload : (ℕ → Tree → Type 0) → List ℕ → ℕ → Tree → Type 0
TakesPayload takes [] n t = ⊥
TakesPayload takes (i ∷ is) zero t = takes i t
TakesPayload takes (i ∷ is) (suc n) t = TakesPayload takes is n t

-- what the Rust type of a node accepts
abbrev pub TakesNode : (ℕ → Tree → Type 0) → Node → Tree → Type 0
TakesNode takes node.Bool = TakesBool
TakesNode takes node.U8 = TakesByte
TakesNode takes node.I8 = TakesOctet
TakesNode takes node.U16 = TakesNumber 16
TakesNode takes node.U32 = TakesNumber 32
TakesNode takes node.U64 = TakesNumber 64
TakesNode takes node.U128 = TakesNumber 128
TakesNode takes node.I16 = TakesNumber 16
TakesNode takes node.I32 = TakesNumber 32
TakesNode takes node.I64 = TakesNumber 64
TakesNode takes node.I128 = TakesNumber 128
TakesNode takes (node.LE k) = TakesFixed (width_of k)
TakesNode takes (node.BE k) = TakesFixed (width_of k)
TakesNode takes node.Char = TakesCharacter
TakesNode takes node.Text = TakesText
TakesNode takes (node.TextUpTo n) = TakesTextUpTo n
TakesNode takes node.Bytes = TakesSequence TakesByte
TakesNode takes (node.Option i) = TakesOption (takes i)
TakesNode takes (node.List i) = TakesSequence (takes i)
TakesNode takes (node.ListUpTo n i) = TakesUpTo n (takes i)
TakesNode takes (node.Array n i) = TakesArray n (takes i)
TakesNode takes (node.Struct is) = GroupOf (TakesFields takes is.items)
TakesNode takes (node.Enum is) = TakesVariant (TakesPayload takes is.items)

-- a place without a node accepts nothing
abbrev pub TakesPlace : (ℕ → Tree → Type 0) → Option Node → Tree → Type 0
TakesPlace takes None t = ⊥
TakesPlace takes (Some n) t = TakesNode takes n t

-- what the type at a place accepts, of the trees that nest in at most so many nodes
unfoldable pub SchemaTakes : ℕ → List Node → ℕ → Tree → Type 0
SchemaTakes zero nodes i = λ t. ⊥
SchemaTakes (suc depth) nodes i = TakesPlace (SchemaTakes depth nodes) (slice_get nodes i)

-- Which bytes are refused, and how: `refuses` says it of the types inside

-- one of the fields is refused, after those before it
abbrev pub RefusesFields : (ℕ → Tree → Type 0) → (ℕ → List ℕ → Error → Type 0) → List ℕ → List ℕ → Error → Type 0
RefusesFields takes refuses [] = RefusesNoParts
RefusesFields takes refuses (i ∷ is) = RefusesPartThen (takes i) (refuses i) (RefusesFields takes refuses is)

-- what the variant holds is refused, or there is no such index
abbrev pub RefusesPayload : (ℕ → List ℕ → Error → Type 0) → List ℕ → ℕ → List ℕ → Error → Type 0
RefusesPayload refuses [] n s e = e ≡ SerdeDeCustom
RefusesPayload refuses (i ∷ is) zero s e = refuses i s e
RefusesPayload refuses (i ∷ is) (suc n) s e = RefusesPayload refuses is n s e

-- what the Rust type of a node refuses
abbrev pub RefusesNode : (ℕ → Tree → Type 0) → (ℕ → List ℕ → Error → Type 0) → Node → List ℕ → Error → Type 0
RefusesNode takes refuses node.Bool = RefusesBool
RefusesNode takes refuses node.U8 = RefusesByte
RefusesNode takes refuses node.I8 = RefusesByte
RefusesNode takes refuses node.U16 = RefusesGroups 3 3
RefusesNode takes refuses node.U32 = RefusesGroups 5 15
RefusesNode takes refuses node.U64 = RefusesGroups 10 1
RefusesNode takes refuses node.U128 = RefusesGroups 19 3
RefusesNode takes refuses node.I16 = RefusesGroups 3 3
RefusesNode takes refuses node.I32 = RefusesGroups 5 15
RefusesNode takes refuses node.I64 = RefusesGroups 10 1
RefusesNode takes refuses node.I128 = RefusesGroups 19 3
RefusesNode takes refuses (node.LE k) = IsShort (width_of k)
RefusesNode takes refuses (node.BE k) = IsShort (width_of k)
RefusesNode takes refuses node.Char = RefusesCharacter
RefusesNode takes refuses node.Text = RefusesText
RefusesNode takes refuses (node.TextUpTo n) = RefusesTextUpTo n
RefusesNode takes refuses node.Bytes = RefusesBytes
RefusesNode takes refuses (node.Option i) = RefusesOption (refuses i)
RefusesNode takes refuses (node.List i) = RefusesSequence (takes i) (refuses i)
RefusesNode takes refuses (node.ListUpTo n i) = RefusesUpTo n (takes i) (refuses i)
RefusesNode takes refuses (node.Array n i) = RefusesEach (takes i) (refuses i) n
RefusesNode takes refuses (node.Struct is) = RefusesFields takes refuses is.items
RefusesNode takes refuses (node.Enum is) = RefusesVariant (RefusesPayload refuses is.items)

-- at a place without a node, whatever comes is refused
abbrev pub RefusesPlace : (ℕ → Tree → Type 0) → (ℕ → List ℕ → Error → Type 0) → Option Node → List ℕ → Error → Type 0
RefusesPlace takes refuses None s e = e ≡ SerdeDeCustom
RefusesPlace takes refuses (Some n) s e = RefusesNode takes refuses n s e

-- the first refusal of the type at a place; at the greatest depth, whatever comes is refused
unfoldable pub SchemaRefuses : ℕ → List Node → ℕ → List ℕ → Error → Type 0
SchemaRefuses zero nodes i = λ s e. e ≡ SerdeDeCustom
SchemaRefuses (suc depth) nodes i = RefusesPlace (SchemaTakes depth nodes) (SchemaRefuses depth nodes) (slice_get nodes i)

-- Which values: `has` says it of the types inside. Each kind looks at one level of a value.

-- a value of this kind at its top
abbrev pub AtTop : (Value-F Value → Type 0) → Value → Type 0
AtTop kind v = kind (out-Value v)

-- a truth value
abbrev pub OfBool : Value-F Value → Type 0
OfBool (Value-F.Bool b) = Unit {0}
OfBool _ = ⊥

-- a byte
abbrev pub OfU8 : Value-F Value → Type 0
OfU8 (Value-F.U8 n) = Unit {0}
OfU8 _ = ⊥

-- a signed byte
abbrev pub OfI8 : Value-F Value → Type 0
OfI8 (Value-F.I8 n) = Unit {0}
OfI8 _ = ⊥

-- a number of 16 bits
abbrev pub OfU16 : Value-F Value → Type 0
OfU16 (Value-F.U16 n) = Unit {0}
OfU16 _ = ⊥

-- a number of 32 bits
abbrev pub OfU32 : Value-F Value → Type 0
OfU32 (Value-F.U32 n) = Unit {0}
OfU32 _ = ⊥

-- a number of 64 bits
abbrev pub OfU64 : Value-F Value → Type 0
OfU64 (Value-F.U64 n) = Unit {0}
OfU64 _ = ⊥

-- a number of 128 bits
abbrev pub OfU128 : Value-F Value → Type 0
OfU128 (Value-F.U128 n) = Unit {0}
OfU128 _ = ⊥

-- a signed number of 16 bits
abbrev pub OfI16 : Value-F Value → Type 0
OfI16 (Value-F.I16 n) = Unit {0}
OfI16 _ = ⊥

-- a signed number of 32 bits
abbrev pub OfI32 : Value-F Value → Type 0
OfI32 (Value-F.I32 n) = Unit {0}
OfI32 _ = ⊥

-- a signed number of 64 bits
abbrev pub OfI64 : Value-F Value → Type 0
OfI64 (Value-F.I64 n) = Unit {0}
OfI64 _ = ⊥

-- a signed number of 128 bits
abbrev pub OfI128 : Value-F Value → Type 0
OfI128 (Value-F.I128 n) = Unit {0}
OfI128 _ = ⊥

-- an integer of this type, its lowest byte first
abbrev pub OfLE : IntegerType → Value-F Value → Type 0
OfLE k (Value-F.LE i) = type_of i ≡ k
OfLE k _ = ⊥

-- an integer of this type, its highest byte first
abbrev pub OfBE : IntegerType → Value-F Value → Type 0
OfBE k (Value-F.BE i) = type_of i ≡ k
OfBE k _ = ⊥

-- a character
abbrev pub OfChar : Value-F Value → Type 0
OfChar (Value-F.Char c) = Unit {0}
OfChar _ = ⊥

-- a text
abbrev pub OfText : Value-F Value → Type 0
OfText (Value-F.Text s) = Unit {0}
OfText _ = ⊥

-- bytes
abbrev pub OfBytes : Value-F Value → Type 0
OfBytes (Value-F.Bytes v) = Unit {0}
OfBytes _ = ⊥

-- no value, or one that has it
abbrev pub OfOption : (Value → Type 0) → Value-F Value → Type 0
OfOption has Value-F.Absent = Unit {0}
OfOption has (Value-F.Present v) = has v.value
OfOption has _ = ⊥

-- elements with a count
abbrev pub OfList : (List Value → Type 0) → Value-F Value → Type 0
OfList have (Value-F.List v) = have v.items
OfList have _ = ⊥

-- elements or fields without a count
abbrev pub OfGroup : (List Value → Type 0) → Value-F Value → Type 0
OfGroup have (Value-F.Group v) = have v.items
OfGroup have _ = ⊥

-- a variant, by its index and what it holds
abbrev pub OfVariant : (ℕ → Value → Type 0) → Value-F Value → Type 0
OfVariant has (Value-F.Variant n v) = has n v.value
OfVariant has _ = ⊥

-- each value has it
abbrev pub EachHas : (Value → Type 0) → List Value → Type 0
EachHas has [] = Unit {0}
EachHas has (v ∷ vs) = has v × EachHas has vs

-- as many values as fields, each of its field's type
abbrev pub FieldsHave : (ℕ → Value → Type 0) → List ℕ → List Value → Type 0
FieldsHave has [] [] = Unit {0}
FieldsHave has (i ∷ is) (v ∷ vs) = has i v × FieldsHave has is vs
FieldsHave has _ _ = ⊥

-- a value of what the variant of this index holds
abbrev pub PayloadHas : (ℕ → Value → Type 0) → List ℕ → ℕ → Value → Type 0
PayloadHas has [] n v = ⊥
PayloadHas has (i ∷ is) zero v = has i v
PayloadHas has (i ∷ is) (suc n) v = PayloadHas has is n v

-- one level of a value of the node's kind
abbrev pub NodeHas : (ℕ → Value → Type 0) → Node → Value-F Value → Type 0
NodeHas has node.Bool = OfBool
NodeHas has node.U8 = OfU8
NodeHas has node.I8 = OfI8
NodeHas has node.U16 = OfU16
NodeHas has node.U32 = OfU32
NodeHas has node.U64 = OfU64
NodeHas has node.U128 = OfU128
NodeHas has node.I16 = OfI16
NodeHas has node.I32 = OfI32
NodeHas has node.I64 = OfI64
NodeHas has node.I128 = OfI128
NodeHas has (node.LE k) = OfLE k
NodeHas has (node.BE k) = OfBE k
NodeHas has node.Char = OfChar
NodeHas has node.Text = OfText
NodeHas has (node.TextUpTo n) = OfText
NodeHas has node.Bytes = OfBytes
NodeHas has (node.Option i) = OfOption (has i)
NodeHas has (node.List i) = OfList (EachHas (has i))
NodeHas has (node.ListUpTo n i) = OfList (EachHas (has i))
NodeHas has (node.Array n i) = OfGroup (EachHas (has i))
NodeHas has (node.Struct is) = OfGroup (FieldsHave has is.items)
NodeHas has (node.Enum is) = OfVariant (PayloadHas has is.items)

-- a place without a node has no value
abbrev pub PlaceHas : (ℕ → Value → Type 0) → Option Node → Value → Type 0
PlaceHas has None v = ⊥
PlaceHas has (Some n) v = AtTop (NodeHas has n) v

-- a value of the type at a place
unfoldable pub SchemaHas : ℕ → List Node → ℕ → Value → Type 0
SchemaHas zero nodes i = λ v. ⊥
SchemaHas (suc depth) nodes i = PlaceHas (SchemaHas depth nodes) (slice_get nodes i)

-- an accepted tree, read as a value that has this kind and whose tree it is
abbrev pub ReadsBy : (Tree → Type 0) → (Value → Type 0) → Tree → Value → Type 0
ReadsBy takes has t v = takes t × (tree_of v ≡ t) × has v

-- a tree that the type at a place accepts, read as the value of that type whose tree it is
abbrev pub SchemaReads : ℕ → List Node → ℕ → Tree → Value → Type 0
SchemaReads depth nodes i = ReadsBy (SchemaTakes depth nodes i) (SchemaHas depth nodes i)

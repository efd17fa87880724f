-- How the trees that a type of a table accepts, its values and the bytes that it refuses agree.
use Rattle.std.specs.Prelude.{◌≡◌, ℕ, zero, suc, nat_le, true, List, [], ◌∷◌, Option, Some, None, refl}
use Rattle.std.specs.List.{slice_get}
use Rattle.std.proofs.Common.{sym, ◌∙◌}
use Rattle.postcard_tree.specs.declared.error.Error.{Error}
use Rattle.postcard_tree.specs.declared.error.Error.TheVariants.{SerdeDeCustom}
use Rattle.postcard_tree.specs.Tree.{Tree}
use Rattle.postcard_tree.specs.Bounds.{part_trees, width_16, width_32, width_64, width_128}
use Rattle.postcard_tree.specs.Reading.{IsShort}
use Rattle.postcard_tree.specs.Fixed.{TakesFixed}
use Rattle.postcard_tree.specs.FixedOnce.{little_laws, unsigned_laws}
use Rattle.postcard_tree.specs.Once.{part_once, part_refused}
use Rattle.postcard_tree.specs.ReadingLaws.{ReadingLaws, PartsLaws, byte_laws, number_laws, bool_laws, character_laws, signed_byte_laws, no_parts_laws, group_laws, option_laws, variant_laws, unknown_laws, sequence_laws, upto_laws, array_laws, bytes_laws, text_laws, text_upto_laws}
use Rattle.schema_table.specs.declared.integer.IntegerType.{IntegerType}
use Rattle.schema_table.specs.declared.integer.IntegerType.TheVariants as types
use Rattle.schema_table.specs.declared.node.Node.{Node}
use Rattle.schema_table.specs.declared.node.Node.TheVariants as node
use Rattle.schema_table.specs.declared.value.Value.{Value}
use Rattle.schema_table.specs.Integers.{width_of}
use Rattle.schema_table.specs.Values.{AreOneTree}
use Rattle.schema_table.specs.Schemas.{ReadsBy, TakesFields, RefusesFields, TakesPayload, RefusesPayload, TakesNode, RefusesNode, TakesPlace, RefusesPlace, SchemaTakes, SchemaRefuses, SchemaReads}

-- the laws of a type by its trees alone
abbrev pub LawsBy : (Tree → Type 0) → (List ℕ → Error → Type 0) → Type 0
LawsBy takes refuses = ReadingLaws takes (ReadsBy takes (λ v. Unit {0})) refuses AreOneTree

-- the laws of a type are those of its trees
pub by : {A : Type 0} {P : Tree → Type 0} {R : Tree → A → Type 0} {F : List ℕ → Error → Type 0} {L : A → A → Type 0} → ReadingLaws P R F L → LawsBy P F
by laws = record {
  taken = λ t v h. h.0;
  trees = laws.trees;
  once = laws.once;
  refused = laws.refused;
  one_value = λ t v w h k. h.1 ∙ sym k.1;
}

fields_laws : {takes : ℕ → Tree → Type 0} {refuses : ℕ → List ℕ → Error → Type 0} → ((i : ℕ) → LawsBy (takes i) (refuses i)) → (is : List ℕ)
    → PartsLaws {A = List Value} (TakesFields takes is) (λ ts v. TakesFields takes is ts) (RefusesFields takes refuses is) (λ v w. Unit {0})
fields_laws {takes} {refuses} one [] = no_parts_laws
fields_laws {takes} {refuses} one (i ∷ is) =
    let rest = fields_laws {takes = takes} {refuses = refuses} one is in
    record {
      taken = λ ts v h. h;
      trees = part_trees (one i).trees rest.trees;
      once = part_once (one i).once rest.once;
      refused = part_refused (one i).once (refuses i) (RefusesFields takes refuses is) (one i).refused rest.refused;
      one_value = λ ts v w h k. tt;
    }

payload_laws : {takes : ℕ → Tree → Type 0} {refuses : ℕ → List ℕ → Error → Type 0} → ((i : ℕ) → LawsBy (takes i) (refuses i)) → (is : List ℕ) (n : ℕ)
    → LawsBy (TakesPayload takes is n) (RefusesPayload refuses is n)
payload_laws one [] n = by (unknown_laws {A = Value} {L = λ v w. Unit {0}} SerdeDeCustom)
payload_laws one (i ∷ is) zero = one i
payload_laws one (i ∷ is) (suc n) = payload_laws one is n

-- no integer is wider
narrow : (k : IntegerType) → nat_le (width_of k) 16 ≡ true
narrow types.U16 = refl
narrow types.U32 = refl
narrow types.U64 = refl
narrow types.U128 = refl
narrow types.I16 = refl
narrow types.I32 = refl
narrow types.I64 = refl
narrow types.I128 = refl

-- integers of that type by their bytes
integer_laws : (k : IntegerType) → LawsBy (TakesFixed (width_of k)) (IsShort (width_of k))
integer_laws k = by (little_laws (unsigned_laws (width_of k) (narrow k)))

node_laws : {takes : ℕ → Tree → Type 0} {refuses : ℕ → List ℕ → Error → Type 0} → ((i : ℕ) → LawsBy (takes i) (refuses i)) → (n : Node) → LawsBy (TakesNode takes n) (RefusesNode takes refuses n)
node_laws one node.Bool = by bool_laws
node_laws one node.U8 = by byte_laws
node_laws one node.I8 = by signed_byte_laws
node_laws one node.U16 = by (number_laws 16 2 3 width_16 refl refl)
node_laws one node.U32 = by (number_laws 32 4 15 width_32 refl refl)
node_laws one node.U64 = by (number_laws 64 9 1 width_64 refl refl)
node_laws one node.U128 = by (number_laws 128 18 3 width_128 refl refl)
node_laws one node.I16 = by (number_laws 16 2 3 width_16 refl refl)
node_laws one node.I32 = by (number_laws 32 4 15 width_32 refl refl)
node_laws one node.I64 = by (number_laws 64 9 1 width_64 refl refl)
node_laws one node.I128 = by (number_laws 128 18 3 width_128 refl refl)
node_laws one (node.LE k) = integer_laws k
node_laws one (node.BE k) = integer_laws k
node_laws one node.Char = by character_laws
node_laws one node.Text = by text_laws
node_laws one (node.TextUpTo n) = by (text_upto_laws n)
node_laws one node.Bytes = by bytes_laws
node_laws one (node.Option i) = by (option_laws (one i))
node_laws one (node.List i) = by (sequence_laws (one i))
node_laws one (node.ListUpTo n i) = by (upto_laws n (one i))
node_laws one (node.Array n i) = by (array_laws n (one i))
node_laws one (node.Struct v) = by (group_laws (fields_laws one v.items))
node_laws one (node.Enum v) = by (variant_laws (payload_laws one v.items))

place_laws : {takes : ℕ → Tree → Type 0} {refuses : ℕ → List ℕ → Error → Type 0} → ((i : ℕ) → LawsBy (takes i) (refuses i)) → (o : Option Node) → LawsBy (TakesPlace takes o) (RefusesPlace takes refuses o)
place_laws one None = by (unknown_laws {A = Value} {L = λ v w. Unit {0}} SerdeDeCustom)
place_laws one (Some n) = node_laws one n

-- the laws of every type of every table, by its trees
tree_laws : (depth : ℕ) (nodes : List Node) (i : ℕ) → LawsBy (SchemaTakes depth nodes i) (SchemaRefuses depth nodes i)
unfolding SchemaTakes SchemaRefuses
tree_laws zero nodes i = by (unknown_laws {A = Value} {L = λ v w. Unit {0}} SerdeDeCustom)
tree_laws (suc depth) nodes i = place_laws (tree_laws depth nodes) (slice_get nodes i)

-- the laws of every type of every table, at every depth
pub schema_laws : (depth : ℕ) (nodes : List Node) (i : ℕ) → ReadingLaws (SchemaTakes depth nodes i) (SchemaReads depth nodes i) (SchemaRefuses depth nodes i) AreOneTree
schema_laws depth nodes i =
    let laws = tree_laws depth nodes i in
    record {
      taken = λ t v h. h.0;
      trees = laws.trees;
      once = laws.once;
      refused = laws.refused;
      one_value = λ t v w h k. h.1 ∙ sym k.1;
    }

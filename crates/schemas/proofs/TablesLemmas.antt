-- Nodes that are put behind a table.
use Rattle.std.specs.Prelude.{◌≡◌, ℕ, zero, suc, ◌+◌, ◌≤◌, List, [], ◌∷◌, ◌++◌, length, refl, Some, Result, Ok, Err, IfOk}
use Rattle.std.specs.List.{slice_get}
use Rattle.std.specs.Global.{Global}
use Rattle.std.specs.declared.alloc.AllocError.{AllocError}
use Rattle.std.proofs.Common.{sym, ◌∙◌, ap, subst, arith, append_assoc, append-nil, length-append, Vec}
use Rattle.postcard_tree.specs.declared.error.Error.{Error}
use Rattle.postcard_tree.specs.Tree.{Tree, Trees}
use Rattle.postcard_tree.specs.ByteSlices.{bytes_each}
use Rattle.postcard_tree.specs.Reading.{TakesByte, RefusesByte, RefusesBytes, TakesOption, RefusesOption, TakesSequence, RefusesSequence, IsShort, TakesUpTo, RefusesUpTo, TakesArray, RefusesEach, NoParts, RefusesNoParts, PartThen, RefusesPartThen, GroupOf, TakesVariant, RefusesVariant, TakesResult, RefusesResult}
use Rattle.postcard_tree.specs.Variants.{TakesLast, RefusesLast, TakesFirst, RefusesFirst}
use Rattle.postcard_tree.specs.Fixed.{TakesFixed}
use Rattle.schema_table.specs.declared.integer.IntegerType.{IntegerType}
use Rattle.schema_table.specs.declared.node.Node.{Node}
use Rattle.schema_table.specs.declared.node.Node.TheVariants as node
use Rattle.schema_table.specs.Integers.{width_of}
use Rattle.schema_table.specs.declared.value.Value.{Value}
use Rattle.schema_table.specs.Schemas.{AtTop, OfBytes, OfOption, OfList, OfGroup, OfVariant, EachHas, TakesNode, RefusesNode, TakesPlace, RefusesPlace, TakesPayload, RefusesPayload, NodeHas, PlaceHas, SchemaTakes, SchemaRefuses, SchemaHas}
use Rattle.schemas.specs.TypeSchemas.{BeginsWith, TakeTheSame, HaveTheSame, IsSchemaOf, AreSchemasOf, ArePayloadsOf, PayloadsAdded, IsAdded, IsStructOf, IsStructAdded, IsLeaf, LeafTakes, LeafRefuses, LeafHas, NoneHave, OneThenHave, LastHas, FirstHas}
use Rattle.schemas.proofs.MapsLemmas.{same_option, same_sequence, same_up_to, same_array, same_parts, same_group, same_variant, same_itself}
use Rattle.schemas.proofs.KindsLemmas.{kinds_option, kinds_list, kinds_array, kinds_group, kinds_variant, kinds_none, kinds_then, kinds_last, kinds_first, kinds_itself}

-- Fronts

pub begins_itself : (nodes : List Node) → BeginsWith nodes nodes
begins_itself nodes = record { more = []; whole = sym (append-nil nodes) }

pub begins_more : {a b c : List Node} → BeginsWith a b → BeginsWith b c → BeginsWith a c
begins_more {a} {b} {c} h k = record { more = h.more ++ k.more; whole = k.whole ∙ ap (λ z. z ++ k.more) h.whole ∙ append_assoc a h.more k.more }

longer : {a b : List Node} → BeginsWith a b → (depth : ℕ) → length b ≤ depth → length a ≤ depth
longer {a} {b} h depth l = let e : length b ≡ length a + length h.more = ap length h.whole ∙ length-append a h.more in omega (arith, e, l)

-- a type stays one in a longer table
pub later : {P : Tree → Type 0} {F : List ℕ → Error → Type 0} {H : Value → Type 0} {a b : List Node} {place : ℕ} → BeginsWith a b → IsSchemaOf P F H a place → IsSchemaOf P F H b place
later h s = record {
  same = λ depth table l w. s.same depth table (longer h depth l) (begins_more h w);
  values = λ depth table l w. s.values depth table (longer h depth l) (begins_more h w);
}

-- a type that takes and refuses the same, of the same kinds, has the schema too
pub schema_as : {P Q : Tree → Type 0} {F G : List ℕ → Error → Type 0} (H : Value → Type 0) (r : Result ℕ AllocError) (nodes : List Node) → TakeTheSame P Q F G
    → IfOk r (λ place. IsSchemaOf P F H nodes place) → IfOk r (λ place. IsSchemaOf Q G H nodes place)
schema_as H (Ok place) nodes k s = record {
  same = λ depth table l w. let h = s.same depth table l w in record {
    to = λ t m. k.to t (h.to t m);
    from = λ t m. h.from t (k.from t m);
    refused_to = λ x e m. k.refused_to x e (h.refused_to x e m);
    refused_from = λ x e m. h.refused_from x e (k.refused_from x e m);
  };
  values = s.values;
}
schema_as H (Err e) nodes k h = h

-- The node that was put last

found : (old more : List Node) (n : Node) → slice_get ((old ++ n ∷ []) ++ more) (length old) ≡ Some n
found [] more n = refl
found (x ∷ old) more n = found old more n

here : {n : Node} {old new table : List Node} {place : ℕ} → IsAdded n old new place → BeginsWith new table → slice_get table place ≡ Some n
here {n} {old} {new} {table} {place} h w =
    let e : table ≡ (old ++ n ∷ []) ++ w.more = w.whole ∙ ap (λ z. z ++ w.more) h.behind in
    subst (λ z. slice_get z place ≡ Some n) (sym e) (subst (λ z. slice_get ((old ++ n ∷ []) ++ w.more) z ≡ Some n) (sym h.there) (found old w.more n))

at_node : {P : Tree → Type 0} {F : List ℕ → Error → Type 0} {n : Node} (depth : ℕ) (table : List Node) (place : ℕ) → slice_get table place ≡ Some n
    → TakeTheSame (TakesNode (SchemaTakes depth table) n) P (RefusesNode (SchemaTakes depth table) (SchemaRefuses depth table) n) F
    → TakeTheSame (SchemaTakes (suc depth) table place) P (SchemaRefuses (suc depth) table place) F
unfolding SchemaTakes SchemaRefuses
at_node {P} {F} {n} depth table place e h =
    subst (λ o. TakeTheSame (TakesPlace (SchemaTakes depth table) o) P (RefusesPlace (SchemaTakes depth table) (SchemaRefuses depth table) o) F) (sym e) h

kinds_at_node : {H : Value → Type 0} {n : Node} (depth : ℕ) (table : List Node) (place : ℕ) → slice_get table place ≡ Some n
    → HaveTheSame (AtTop (NodeHas (SchemaHas depth table) n)) H → HaveTheSame (SchemaHas (suc depth) table place) H
unfolding SchemaHas
kinds_at_node {H} {n} depth table place e h = subst (λ o. HaveTheSame (PlaceHas (SchemaHas depth table) o) H) (sym e) h

-- a node takes and refuses what these say, in the tables that begin with those before it
abbrev NodeTakes : (Tree → Type 0) → (List ℕ → Error → Type 0) → Node → List Node → Type 0
NodeTakes P F n old =
    (depth : ℕ) (table : List Node) → length old ≤ depth → BeginsWith old table → TakeTheSame (TakesNode (SchemaTakes depth table) n) P (RefusesNode (SchemaTakes depth table) (SchemaRefuses depth table) n) F

-- its values are of these kinds
abbrev NodeKinds : (Value → Type 0) → Node → List Node → Type 0
NodeKinds H n old = (depth : ℕ) (table : List Node) → length old ≤ depth → BeginsWith old table → HaveTheSame (AtTop (NodeHas (SchemaHas depth table) n)) H

-- the type of a node, by what it is one level below
pub node_schema : {P : Tree → Type 0} {F : List ℕ → Error → Type 0} {H : Value → Type 0} (n : Node) {old new : List Node} {place : ℕ} → IsAdded n old new place
    → NodeTakes P F n old → NodeKinds H n old → IsSchemaOf P F H new place
node_schema {P} {F} {H} n {old} {new} {place} h f k = record { same = below; values = kinds_below } where
  deep : length new ≡ length old + 1
  deep = ap length h.behind ∙ length-append old (n ∷ [])

  below : (depth : ℕ) (table : List Node) → length new ≤ depth → BeginsWith new table → TakeTheSame (SchemaTakes depth table place) P (SchemaRefuses depth table place) F
  below zero table l w = absurd (omega (arith, deep, l))
  below (suc depth) table l w = at_node depth table place (here h w) (f depth table (omega (arith, deep, l)) (begins_more (record { more = n ∷ []; whole = h.behind }) w))

  kinds_below : (depth : ℕ) (table : List Node) → length new ≤ depth → BeginsWith new table → HaveTheSame (SchemaHas depth table place) H
  kinds_below zero table l w = absurd (omega (arith, deep, l))
  kinds_below (suc depth) table l w = kinds_at_node depth table place (here h w) (k depth table (omega (arith, deep, l)) (begins_more (record { more = n ∷ []; whole = h.behind }) w))

-- by whatever the node's place is, if it was put
pub added_as : {P : Tree → Type 0} {F : List ℕ → Error → Type 0} {H : Value → Type 0} (r : Result ℕ AllocError) (n : Node) (old new : List Node) → ((place : ℕ) → IsAdded n old new place → IsSchemaOf P F H new place)
    → IfOk r (λ place. IsAdded n old new place) → IfOk r (λ place. IsSchemaOf P F H new place)
added_as (Ok place) n old new f h = f place h
added_as (Err e) n old new f h = h

-- Kinds

same_leaf : (takes : ℕ → Tree → Type 0) (refuses : ℕ → List ℕ → Error → Type 0) (n : Node) → IsLeaf n → TakeTheSame (TakesNode takes n) (LeafTakes n) (RefusesNode takes refuses n) (LeafRefuses n)
same_leaf takes refuses node.Bool h = same_itself (LeafTakes node.Bool) (LeafRefuses node.Bool)
same_leaf takes refuses node.U8 h = same_itself (LeafTakes node.U8) (LeafRefuses node.U8)
same_leaf takes refuses node.I8 h = same_itself (LeafTakes node.I8) (LeafRefuses node.I8)
same_leaf takes refuses node.U16 h = same_itself (LeafTakes node.U16) (LeafRefuses node.U16)
same_leaf takes refuses node.U32 h = same_itself (LeafTakes node.U32) (LeafRefuses node.U32)
same_leaf takes refuses node.U64 h = same_itself (LeafTakes node.U64) (LeafRefuses node.U64)
same_leaf takes refuses node.U128 h = same_itself (LeafTakes node.U128) (LeafRefuses node.U128)
same_leaf takes refuses node.I16 h = same_itself (LeafTakes node.I16) (LeafRefuses node.I16)
same_leaf takes refuses node.I32 h = same_itself (LeafTakes node.I32) (LeafRefuses node.I32)
same_leaf takes refuses node.I64 h = same_itself (LeafTakes node.I64) (LeafRefuses node.I64)
same_leaf takes refuses node.I128 h = same_itself (LeafTakes node.I128) (LeafRefuses node.I128)
same_leaf takes refuses (node.LE k) h = same_itself (LeafTakes (node.LE k)) (LeafRefuses (node.LE k))
same_leaf takes refuses (node.BE k) h = same_itself (LeafTakes (node.BE k)) (LeafRefuses (node.BE k))
same_leaf takes refuses node.Char h = same_itself (LeafTakes node.Char) (LeafRefuses node.Char)
same_leaf takes refuses node.Text h = same_itself (LeafTakes node.Text) (LeafRefuses node.Text)
same_leaf takes refuses (node.TextUpTo m) h = same_itself (LeafTakes (node.TextUpTo m)) (LeafRefuses (node.TextUpTo m))
same_leaf takes refuses node.Bytes h = same_itself (LeafTakes node.Bytes) (LeafRefuses node.Bytes)
same_leaf takes refuses (node.Option i) h = absurd h
same_leaf takes refuses (node.List i) h = absurd h
same_leaf takes refuses (node.ListUpTo m i) h = absurd h
same_leaf takes refuses (node.Array m i) h = absurd h
same_leaf takes refuses (node.Struct is) h = absurd h
same_leaf takes refuses (node.Enum is) h = absurd h

leaf_kinds : (has : ℕ → Value → Type 0) (n : Node) → IsLeaf n → HaveTheSame (AtTop (NodeHas has n)) (LeafHas n)
leaf_kinds has node.Bool h = kinds_itself (LeafHas node.Bool)
leaf_kinds has node.U8 h = kinds_itself (LeafHas node.U8)
leaf_kinds has node.I8 h = kinds_itself (LeafHas node.I8)
leaf_kinds has node.U16 h = kinds_itself (LeafHas node.U16)
leaf_kinds has node.U32 h = kinds_itself (LeafHas node.U32)
leaf_kinds has node.U64 h = kinds_itself (LeafHas node.U64)
leaf_kinds has node.U128 h = kinds_itself (LeafHas node.U128)
leaf_kinds has node.I16 h = kinds_itself (LeafHas node.I16)
leaf_kinds has node.I32 h = kinds_itself (LeafHas node.I32)
leaf_kinds has node.I64 h = kinds_itself (LeafHas node.I64)
leaf_kinds has node.I128 h = kinds_itself (LeafHas node.I128)
leaf_kinds has (node.LE k) h = kinds_itself (LeafHas (node.LE k))
leaf_kinds has (node.BE k) h = kinds_itself (LeafHas (node.BE k))
leaf_kinds has node.Char h = kinds_itself (LeafHas node.Char)
leaf_kinds has node.Text h = kinds_itself (LeafHas node.Text)
leaf_kinds has (node.TextUpTo m) h = kinds_itself (LeafHas (node.TextUpTo m))
leaf_kinds has node.Bytes h = kinds_itself (LeafHas node.Bytes)
leaf_kinds has (node.Option i) h = absurd h
leaf_kinds has (node.List i) h = absurd h
leaf_kinds has (node.ListUpTo m i) h = absurd h
leaf_kinds has (node.Array m i) h = absurd h
leaf_kinds has (node.Struct is) h = absurd h
leaf_kinds has (node.Enum is) h = absurd h

pub leaf_schema : (n : Node) {old new : List Node} {place : ℕ} → IsLeaf n → IsAdded n old new place → IsSchemaOf (LeafTakes n) (LeafRefuses n) (LeafHas n) new place
leaf_schema n l h = node_schema n h (λ depth table m w. same_leaf (SchemaTakes depth table) (SchemaRefuses depth table) n l) (λ depth table m w. leaf_kinds (SchemaHas depth table) n l)

-- the integer type of a leaf, by how wide it is
pub as_wide : {size : ℕ} (has : IntegerType → Value → Type 0) (nodes : List Node) (k m : IntegerType) (r : Result ℕ AllocError) → k ≡ m → width_of m ≡ size
    → IfOk r (λ place. IsSchemaOf (TakesFixed (width_of k)) (IsShort (width_of k)) (has k) nodes place) → IfOk r (λ place. IsSchemaOf (TakesFixed size) (IsShort size) (has m) nodes place)
as_wide has nodes k m r e w h =
    subst (λ z. IfOk r (λ place. IsSchemaOf (TakesFixed z) (IsShort z) (has m) nodes place)) w (subst (λ z. IfOk r (λ place. IsSchemaOf (TakesFixed (width_of z)) (IsShort (width_of z)) (has z) nodes place)) e h)

-- bytes that are read one by one are refused as those that are read at once
pub bytes_schema : (r : Result ℕ AllocError) (nodes : List Node) → IfOk r (λ place. IsSchemaOf (TakesSequence TakesByte) RefusesBytes (AtTop OfBytes) nodes place)
    → IfOk r (λ place. IsSchemaOf (TakesSequence TakesByte) (RefusesSequence TakesByte RefusesByte) (AtTop OfBytes) nodes place)
bytes_schema (Ok place) nodes h = record {
  same = λ depth table l b. let t = h.same depth table l b in record {
    to = t.to;
    from = t.from;
    refused_to = λ s e k. (bytes_each s e).1 (t.refused_to s e k);
    refused_from = λ s e k. t.refused_from s e ((bytes_each s e).0 k);
  };
  values = h.values;
}
bytes_schema (Err e) nodes h = h

pub option_schema : {P : Tree → Type 0} {F : List ℕ → Error → Type 0} {H : Value → Type 0} {i : ℕ} {old new : List Node} {place : ℕ}
    → IsSchemaOf P F H old i → IsAdded (node.Option i) old new place → IsSchemaOf (TakesOption P) (RefusesOption F) (AtTop (OfOption H)) new place
option_schema {P} {F} {H} {i} s h = node_schema (node.Option i) h (λ depth table m w. same_option (s.same depth table m w)) (λ depth table m w. kinds_option (s.values depth table m w))

pub list_schema : {P : Tree → Type 0} {F : List ℕ → Error → Type 0} {H : Value → Type 0} {i : ℕ} {old new : List Node} {place : ℕ}
    → IsSchemaOf P F H old i → IsAdded (node.List i) old new place → IsSchemaOf (TakesSequence P) (RefusesSequence P F) (AtTop (OfList (EachHas H))) new place
list_schema {P} {F} {H} {i} s h = node_schema (node.List i) h (λ depth table m w. same_sequence (s.same depth table m w)) (λ depth table m w. kinds_list (s.values depth table m w))

pub list_up_to_schema : {P : Tree → Type 0} {F : List ℕ → Error → Type 0} {H : Value → Type 0} {n i : ℕ} {old new : List Node} {place : ℕ}
    → IsSchemaOf P F H old i → IsAdded (node.ListUpTo n i) old new place → IsSchemaOf (TakesUpTo n P) (RefusesUpTo n P F) (AtTop (OfList (EachHas H))) new place
list_up_to_schema {P} {F} {H} {n} {i} s h = node_schema (node.ListUpTo n i) h (λ depth table m w. same_up_to n (s.same depth table m w)) (λ depth table m w. kinds_list (s.values depth table m w))

pub array_schema : {P : Tree → Type 0} {F : List ℕ → Error → Type 0} {H : Value → Type 0} {n i : ℕ} {old new : List Node} {place : ℕ}
    → IsSchemaOf P F H old i → IsAdded (node.Array n i) old new place → IsSchemaOf (TakesArray n P) (RefusesEach P F n) (AtTop (OfGroup (EachHas H))) new place
array_schema {P} {F} {H} {n} {i} s h = node_schema (node.Array n i) h (λ depth table m w. same_array n (s.same depth table m w)) (λ depth table m w. kinds_array (s.values depth table m w))

-- Fields

pub no_fields : {nodes : List Node} → AreSchemasOf NoParts RefusesNoParts NoneHave nodes []
no_fields = record { same = λ depth table l w. same_itself NoParts RefusesNoParts; values = λ depth table l w. kinds_none (SchemaHas depth table) }

pub field_then : {P : Tree → Type 0} {PS : Trees → Type 0} {F FS : List ℕ → Error → Type 0} {H : Value → Type 0} {HS : List Value → Type 0} {nodes : List Node} {i : ℕ} {is : List ℕ}
    → IsSchemaOf P F H nodes i → AreSchemasOf PS FS HS nodes is → AreSchemasOf (PartThen P PS) (RefusesPartThen P F FS) (OneThenHave H HS) nodes (i ∷ is)
field_then {is = is} s k = record {
  same = λ depth table l w. same_parts (s.same depth table l w) (k.same depth table l w);
  values = λ depth table l w. kinds_then (SchemaHas depth table) is (s.values depth table l w) (k.values depth table l w);
}

pub struct_schema : {PS : Trees → Type 0} {FS : List ℕ → Error → Type 0} {HS : List Value → Type 0} (v : Vec ℕ Global) {is : List ℕ} {old new : List Node} {place : ℕ}
    → v.items ≡ is → AreSchemasOf PS FS HS old is → IsAdded (node.Struct v) old new place → IsSchemaOf (GroupOf PS) FS (AtTop (OfGroup HS)) new place
struct_schema {PS} {FS} {HS} v {is} {old} e s h =
    let k : AreSchemasOf PS FS HS old v.items = subst (λ z. AreSchemasOf PS FS HS old z) (sym e) s in
    node_schema (node.Struct v) h (λ depth table m w. same_group (k.same depth table m w)) (λ depth table m w. kinds_group (k.values depth table m w))

-- by whatever the place of the struct is, if it was put
pub struct_added : (r : Result ℕ AllocError) (v : Vec ℕ Global) (is : List ℕ) (old new : List Node) → v.items ≡ is
    → IfOk r (λ place. IsAdded (node.Struct v) old new place) → IfOk r (λ place. IsStructAdded is old new place)
struct_added (Ok place) v is old new e h = record { put = node.Struct v; of_fields = e; added = h }
struct_added (Err e) v is old new q h = h

struct_of : {PS : Trees → Type 0} {FS : List ℕ → Error → Type 0} {HS : List Value → Type 0} {is : List ℕ} {old new : List Node} {place : ℕ} (n : Node) → IsStructOf is n → AreSchemasOf PS FS HS old is → IsAdded n old new place
    → IsSchemaOf (GroupOf PS) FS (AtTop (OfGroup HS)) new place
struct_of (node.Struct v) e s h = struct_schema v e s h
struct_of _ e s h = absurd e

pub fields_added : {PS : Trees → Type 0} {FS : List ℕ → Error → Type 0} {HS : List Value → Type 0} {is : List ℕ} {old : List Node} (r : Result ℕ AllocError) (new : List Node) → AreSchemasOf PS FS HS old is
    → IfOk r (λ place. IsStructAdded is old new place) → IfOk r (λ place. IsSchemaOf (GroupOf PS) FS (AtTop (OfGroup HS)) new place)
fields_added (Ok place) new s h = struct_of h.put h.of_fields s h.added
fields_added (Err e) new s h = h

-- Variants

pub payload_last : {P : Tree → Type 0} {F : List ℕ → Error → Type 0} {H : Value → Type 0} {nodes : List Node} {i : ℕ} → IsSchemaOf P F H nodes i → ArePayloadsOf (TakesLast P) (RefusesLast F) (LastHas H) nodes (i ∷ [])
payload_last {P} {F} {H} {nodes} {i} s = record {
  same = λ depth table l w n. at depth table (s.same depth table l w) n;
  values = λ depth table l w n. kinds_last (SchemaHas depth table) (s.values depth table l w) n;
} where
  at : (depth : ℕ) (table : List Node) → TakeTheSame (SchemaTakes depth table i) P (SchemaRefuses depth table i) F
      → (n : ℕ) → TakeTheSame (TakesPayload (SchemaTakes depth table) (i ∷ []) n) (TakesLast P n) (RefusesPayload (SchemaRefuses depth table) (i ∷ []) n) (RefusesLast F n)
  at depth table k zero = k
  at depth table k (suc n) = record { to = λ t h. h; from = λ t h. h; refused_to = λ s e h. h; refused_from = λ s e h. h }

pub payload_first : {P : Tree → Type 0} {F : List ℕ → Error → Type 0} {H : Value → Type 0} {PS : ℕ → Tree → Type 0} {FS : ℕ → List ℕ → Error → Type 0} {HS : ℕ → Value → Type 0} {nodes : List Node} {i : ℕ} {is : List ℕ}
    → IsSchemaOf P F H nodes i → ArePayloadsOf PS FS HS nodes is → ArePayloadsOf (TakesFirst P PS) (RefusesFirst F FS) (FirstHas H HS) nodes (i ∷ is)
payload_first {P} {F} {H} {PS} {FS} {HS} {nodes} {i} {is} s r = record {
  same = λ depth table l w n. at depth table (s.same depth table l w) (r.same depth table l w) n;
  values = λ depth table l w n. kinds_first (SchemaHas depth table) is (s.values depth table l w) (r.values depth table l w) n;
} where
  at : (depth : ℕ) (table : List Node) → TakeTheSame (SchemaTakes depth table i) P (SchemaRefuses depth table i) F
      → ((n : ℕ) → TakeTheSame (TakesPayload (SchemaTakes depth table) is n) (PS n) (RefusesPayload (SchemaRefuses depth table) is n) (FS n))
      → (n : ℕ) → TakeTheSame (TakesPayload (SchemaTakes depth table) (i ∷ is) n) (TakesFirst P PS n) (RefusesPayload (SchemaRefuses depth table) (i ∷ is) n) (RefusesFirst F FS n)
  at depth table k m zero = k
  at depth table k m (suc n) = m n

pub payload_result : {P Q : Tree → Type 0} {F G : List ℕ → Error → Type 0} {H K : Value → Type 0} {nodes : List Node} {i j : ℕ}
    → IsSchemaOf P F H nodes i → IsSchemaOf Q G K nodes j → ArePayloadsOf (TakesResult P Q) (RefusesResult F G) (FirstHas H (LastHas K)) nodes (i ∷ j ∷ [])
payload_result {P} {Q} {F} {G} {H} {K} {nodes} {i} {j} s r = record {
  same = λ depth table l w n. at depth table (s.same depth table l w) (r.same depth table l w) n;
  values = λ depth table l w n. kinds_first (SchemaHas depth table) (j ∷ []) (s.values depth table l w) (kinds_last (SchemaHas depth table) (r.values depth table l w)) n;
} where
  at : (depth : ℕ) (table : List Node) → TakeTheSame (SchemaTakes depth table i) P (SchemaRefuses depth table i) F → TakeTheSame (SchemaTakes depth table j) Q (SchemaRefuses depth table j) G
      → (n : ℕ) → TakeTheSame (TakesPayload (SchemaTakes depth table) (i ∷ j ∷ []) n) (TakesResult P Q n) (RefusesPayload (SchemaRefuses depth table) (i ∷ j ∷ []) n) (RefusesResult F G n)
  at depth table k m zero = k
  at depth table k m (suc zero) = m
  at depth table k m (suc (suc n)) = record { to = λ t h. h; from = λ t h. h; refused_to = λ s e h. h; refused_from = λ s e h. h }

pub payloads_last : {P : Tree → Type 0} {F : List ℕ → Error → Type 0} {H : Value → Type 0} {nodes : List Node} {i : ℕ} {old new : List ℕ} → IsSchemaOf P F H nodes i → new ≡ old ++ i ∷ []
    → PayloadsAdded (TakesLast P) (RefusesLast F) (LastHas H) nodes old new
payloads_last {P} {F} {H} {nodes} {i} s e = record { added = i ∷ []; behind = e; payloads = payload_last s }

pub payloads_first : {P : Tree → Type 0} {F : List ℕ → Error → Type 0} {H : Value → Type 0} {PS : ℕ → Tree → Type 0} {FS : ℕ → List ℕ → Error → Type 0} {HS : ℕ → Value → Type 0} {a b : List Node} {i : ℕ} {old one new : List ℕ}
    → IsSchemaOf P F H a i → BeginsWith a b → one ≡ old ++ i ∷ [] → PayloadsAdded PS FS HS b one new → PayloadsAdded (TakesFirst P PS) (RefusesFirst F FS) (FirstHas H HS) b old new
payloads_first {P} {F} {H} {PS} {FS} {HS} {a} {b} {i} {old} s w e h = record {
  added = i ∷ h.added;
  behind = h.behind ∙ ap (λ z. z ++ h.added) e ∙ append_assoc old (i ∷ []) h.added;
  payloads = payload_first (later w s) h.payloads;
}

pub payloads_as : {P Q : ℕ → Tree → Type 0} {F G : ℕ → List ℕ → Error → Type 0} {H K : ℕ → Value → Type 0} (r : Result (Unit {0}) AllocError) (nodes : List Node) (old one new : List ℕ)
    → (PayloadsAdded P F H nodes one new → PayloadsAdded Q G K nodes old new) → IfOk r (λ x. PayloadsAdded P F H nodes one new) → IfOk r (λ x. PayloadsAdded Q G K nodes old new)
payloads_as (Ok x) nodes old one new f h = f h
payloads_as (Err e) nodes old one new f h = h

pub enum_schema : {P : ℕ → Tree → Type 0} {F : ℕ → List ℕ → Error → Type 0} {H : ℕ → Value → Type 0} (v : Vec ℕ Global) {is : List ℕ} {old new : List Node} {place : ℕ}
    → v.items ≡ is → ArePayloadsOf P F H old is → IsAdded (node.Enum v) old new place → IsSchemaOf (TakesVariant P) (RefusesVariant F) (AtTop (OfVariant H)) new place
enum_schema {P} {F} {H} v {is} {old} e s h =
    let k : ArePayloadsOf P F H old v.items = subst (λ z. ArePayloadsOf P F H old z) (sym e) s in
    node_schema (node.Enum v) h (λ depth table m w. same_variant (λ n. k.same depth table m w n)) (λ depth table m w. kinds_variant (λ n. k.values depth table m w n))

-- of the payloads that were put behind none
pub enum_added : {P : ℕ → Tree → Type 0} {F : ℕ → List ℕ → Error → Type 0} {H : ℕ → Value → Type 0} (v : Vec ℕ Global) {none : List ℕ} {old new : List Node} {place : ℕ}
    → none ≡ [] → PayloadsAdded P F H old none v.items → IsAdded (node.Enum v) old new place → IsSchemaOf (TakesVariant P) (RefusesVariant F) (AtTop (OfVariant H)) new place
enum_added v e s h = enum_schema v (s.behind ∙ ap (λ z. z ++ s.added) e) s.payloads h

-- When what was parsed is a value of its type.
use Rattle.std.specs.Prelude.{◌≡◌, ℕ, zero, suc, ◌-◌, ◌^◌, ◌<◌, ◌≤◌, ◌≢◌, Bool, true, false, Option, Some, None, Result, Ok, Err, IfOk, if◌then◌else◌, List, [], ◌∷◌, ◌++◌, length, get_or, String, string_bytes, Box}
use Rattle.std.specs.Global.{Global}
use Rattle.std.specs.List.{slice_get}
use Rattle.std.specs.Str.{IsUtf8}
use Rattle.std.proofs.Common.{refl, sym, ap, ◌∙◌, subst, arith, rules, append_assoc, Vec}
use Rattle.std.proofs.lemmas.List.{append-nil}
use Rattle.std.proofs.lemmas.Option.{slice_get_read}
use Rattle.postcard_tree.specs.Tree.{Tree, sequence, group, part, end, bytes_of, count_of, number, text_of}
use Rattle.postcard_tree.specs.Reading.{ReadsAll, ReadsByte, ReadsBytes, ReadsText, TakesAll, TakesArray, TakesByte, TakesSequence, TakesUpTo, TakesVariant, GroupOf}
use Rattle.postcard_tree.specs.Fixed.{little_endian, big_endian, TakesFixed}
use Rattle.postcard_tree.specs.FixedOnce.{length_little, length_big, octets_little, octets_big, takes_group}
use Rattle.postcard_tree.specs.Kinds.{text_upto_taken}
use Rattle.postcard_tree.specs.Once.{byte_taken, sequence_taken}
use Rattle.schema_table.specs.declared.integer.IntegerType.{IntegerType}
use Rattle.schema_table.specs.declared.node.Node.{Node}
use Rattle.schema_table.specs.declared.node.Node.TheVariants as node
use Rattle.schema_table.specs.declared.schema.Names.{Names}
use Rattle.schema_table.specs.declared.schema.Names.TheVariants as names
use Rattle.schema_table.specs.declared.schema.Schema.{Schema}
use Rattle.schema_table.specs.Telling.{names_at, node_at}
use Rattle.schema_table.specs.declared.integer.Integer.{Integer}
use Rattle.schema_table.specs.declared.value.Value.{Value, out-Value, LE, BE, Text, Bytes, List as Listed, Group, Variant, the_lemmas}
use Rattle.schema_table.specs.declared.value.Value.TheOpen.{Value-F}
use Rattle.schema_table.specs.Integers.{width_of, type_of, bits_in, little_group, big_group, little_tree_of, big_tree_of}
use Rattle.schema_table.specs.Values.{tree_of, trees_in}
use Rattle.schema_table.specs.Schemas.{SchemaTakes, SchemaHas, TakesFields, TakesNode, TakesPayload, NodeHas, AtTop, OfChar, OfText, OfList, OfGroup, OfVariant, EachHas, FieldsHave, PayloadHas}
use Rattle.json.specs.Json.{Json, null, boolean, number, string, array, object}
use Rattle.wire_json.specs.Floats.{NumberMeansFloat, WordMeansFloat}
use Rattle.schema_table.specs.Looks.{variant_named, is_byte_node, is_newtype_named, only_type, only_field, inside_of, two_types, pair_node, only_part, only_value}
use Rattle.wire_json.specs.Meant.{MeansFloat, Means, MeansNode, MeansEnum, MeansStruct, KeyMeans, KeyMeansBy, KeyMeansNode, chosen, AreBytesOf, MeansFields, HasOnlyFields, HasShape, IsIndexOf, IsInteger, MeansHolding, MeansNumber, MeansPlain, KeyMeansPlain}
use Rattle.schema_table.specs.Printed.{two_in, two_values}
use Rattle.wire_json.specs.Parsed.{IsGroupOf, IsOfType, IsOfNode, IsOfStruct, IsOfEnum, IsOfLeaf}

-- one level of a value

tree-LE : (i : _) → tree_of (LE i) ≡ little_tree_of i
tree-LE i = search (rules, the_lemmas)

tree-BE : (i : _) → tree_of (BE i) ≡ big_tree_of i
tree-BE i = search (rules, the_lemmas)

pub tree-Text : (s : _) → tree_of (Text s) ≡ text_of (string_bytes s)
tree-Text s = search (rules, the_lemmas)

tree-Bytes : (v : _) → tree_of (Bytes v) ≡ text_of v.items
tree-Bytes v = search (rules, the_lemmas)

tree-Listed : (v : _) → tree_of (Listed v) ≡ sequence (trees_in v.items)
tree-Listed v = search (rules, the_lemmas)

tree-Group : (v : _) → tree_of (Group v) ≡ group (trees_in v.items)
tree-Group v = search (rules, the_lemmas)

pub tree-Variant : (n : _) (v : _) → tree_of (Variant n v) ≡ group (part (number 32 n) (part (tree_of v.value) end))
tree-Variant n v = search (rules, the_lemmas)

pub top_by : (kind : Value-F Value → Type 0) (v : Value) (top : Value-F Value) → out-Value v ≡ top → kind top → AtTop kind v
top_by kind v top e h = subst kind (sym e) h

pub count_in : (vs : List Value) → count_of (trees_in vs) ≡ length vs
count_in [] = refl
count_in (v ∷ vs) = omega (arith, count_in vs)

-- at its place
at_node : (depth : ℕ) (nodes : List Node) (i : ℕ) (n : Node) (v : Value) → slice_get nodes i ≡ Some n → IsOfNode depth nodes n v → IsOfType (suc depth) nodes i v
unfolding SchemaTakes SchemaHas
at_node depth nodes i n v e h = rw e (h.0, refl, h.1)

pub at_place : (depth : ℕ) (nodes : List Node) (i : ℕ) (n : Node) (v : Value) → depth ≢ 0 → slice_get nodes i ≡ Some n → IsOfNode (depth - 1) nodes n v → IsOfType depth nodes i v
at_place zero nodes i n v d e h = absurd (d refl)
at_place (suc depth) nodes i n v d e h = at_node depth nodes i n v e (subst (λ k. IsOfNode k nodes n v) (omega arith) h)

-- if it succeeds
pub ok_as : {A E : Type 0} {P Q : A → Type 0} (r : Result A E) → ((v : A) → P v → Q v) → IfOk r P → IfOk r Q
ok_as (Ok v) f h = f v h
ok_as (Err e) f h = tt

pub ok_both : {A E : Type 0} {P Q R : A → Type 0} (r : Result A E) → ((v : A) → P v → Q v → R v) → IfOk r P → IfOk r Q → IfOk r R
ok_both (Ok v) f h k = f v h k
ok_both (Err e) f h k = tt

pub leaf_ok : {E : Type 0} (depth : ℕ) (nodes : List Node) (n : Node) (r : Result Value E) → IfOk r (IsOfLeaf n) → IfOk r (IsOfNode depth nodes n)
leaf_ok depth nodes n r h = ok_as r (λ v k. k depth nodes) h

-- elements
each_taken : (depth : ℕ) (nodes : List Node) (i : ℕ) (vs : List Value) → EachHas (IsOfType depth nodes i) vs → TakesAll (SchemaTakes depth nodes i) (trees_in vs)
each_taken depth nodes i [] h = tt
each_taken depth nodes i (v ∷ vs) h = (h.0.0, each_taken depth nodes i vs h.1)

each_has : (depth : ℕ) (nodes : List Node) (i : ℕ) (vs : List Value) → EachHas (IsOfType depth nodes i) vs → EachHas (SchemaHas depth nodes i) vs
each_has depth nodes i [] h = tt
each_has depth nodes i (v ∷ vs) h = (h.0.2, each_has depth nodes i vs h.1)

few : (v : Vec Value Global) → count_of (trees_in v.items) < 2 ^ 64
few v = omega (arith, count_in v.items, v.ok.0, v.ok.1, v.small)

counted_taken : (depth : ℕ) (nodes : List Node) (i : ℕ) (v : Vec Value Global) → EachHas (IsOfType depth nodes i) v.items → TakesSequence (SchemaTakes depth nodes i) (sequence (trees_in v.items))
counted_taken depth nodes i v h = (few v, each_taken depth nodes i v.items h)

pub of_list : (depth : ℕ) (nodes : List Node) (i : ℕ) (v : Vec Value Global) → EachHas (IsOfType depth nodes i) v.items → IsOfNode depth nodes (node.List i) (Listed v)
of_list depth nodes i v h = (
  subst (TakesSequence (SchemaTakes depth nodes i)) (sym (tree-Listed v)) (counted_taken depth nodes i v h),
  top_by (OfList (EachHas (SchemaHas depth nodes i))) (Listed v) (Value-F.List v) (search (rules, the_lemmas)) (each_has depth nodes i v.items h),
)

pub of_list_up_to : (depth : ℕ) (nodes : List Node) (n i : ℕ) (v : Vec Value Global) → length v.items ≤ n → EachHas (IsOfType depth nodes i) v.items → IsOfNode depth nodes (node.ListUpTo n i) (Listed v)
of_list_up_to depth nodes n i v l h = (
  subst (TakesUpTo n (SchemaTakes depth nodes i)) (sym (tree-Listed v)) (counted_taken depth nodes i v h, omega (arith, l, count_in v.items)),
  top_by (OfList (EachHas (SchemaHas depth nodes i))) (Listed v) (Value-F.List v) (search (rules, the_lemmas)) (each_has depth nodes i v.items h),
)

pub of_array : (depth : ℕ) (nodes : List Node) (n i : ℕ) (v : Vec Value Global) → length v.items ≡ n → EachHas (IsOfType depth nodes i) v.items → IsOfNode depth nodes (node.Array n i) (Group v)
of_array depth nodes n i v l h = (
  subst (TakesArray n (SchemaTakes depth nodes i)) (sym (tree-Group v)) (each_taken depth nodes i v.items h, count_in v.items ∙ l),
  top_by (OfGroup (EachHas (SchemaHas depth nodes i))) (Group v) (Value-F.Group v) (search (rules, the_lemmas)) (each_has depth nodes i v.items h),
)

-- parts, one after another

-- the parts so far, of all of them: what holds of those that are left, holds of all with these before
abbrev pub So : {L X : Type 0} → (L → List X → Type 0) → L → L → List X → Type 0
So {L} {X} of all left xs = (more : List X) → of left more → of all (xs ++ more)

pub so_more : {L X : Type 0} (of : L → List X → Type 0) (all left rest : L) (xs : List X) (x : X) → ((more : List X) → of rest more → of left (x ∷ more)) → So of all left xs → So of all rest (xs ++ x ∷ [])
so_more of all left rest xs x f h more k = subst (of all) (sym (append_assoc xs (x ∷ []) more)) (h (x ∷ more) (f more k))

pub so_all : {L X : Type 0} (of : L → List X → Type 0) (all left none : L) (xs : List X) → left ≡ none → of none [] → So of all left xs → of all xs
so_all of all left none xs e h k = subst (of all) (append-nil xs) (k [] (subst (λ z. of z []) (sym e) h))

fields_taken : (depth : ℕ) (nodes : List Node) (is : List ℕ) (vs : List Value) → FieldsHave (IsOfType depth nodes) is vs → TakesFields (SchemaTakes depth nodes) is (trees_in vs)
fields_taken depth nodes [] [] h = tt
fields_taken depth nodes [] (v ∷ vs) h = absurd h
fields_taken depth nodes (i ∷ is) [] h = absurd h
fields_taken depth nodes (i ∷ is) (v ∷ vs) h = (h.0.0, fields_taken depth nodes is vs h.1)

fields_have : (depth : ℕ) (nodes : List Node) (is : List ℕ) (vs : List Value) → FieldsHave (IsOfType depth nodes) is vs → FieldsHave (SchemaHas depth nodes) is vs
fields_have depth nodes [] [] h = tt
fields_have depth nodes [] (v ∷ vs) h = absurd h
fields_have depth nodes (i ∷ is) [] h = absurd h
fields_have depth nodes (i ∷ is) (v ∷ vs) h = (h.0.2, fields_have depth nodes is vs h.1)

pub of_struct : (depth : ℕ) (nodes : List Node) (is : List ℕ) (v : Vec Value Global) → FieldsHave (IsOfType depth nodes) is v.items → IsOfStruct depth nodes is (Group v)
of_struct depth nodes is v h = (
  subst (GroupOf (TakesFields (SchemaTakes depth nodes) is)) (sym (tree-Group v)) (fields_taken depth nodes is v.items h),
  top_by (OfGroup (FieldsHave (SchemaHas depth nodes) is)) (Group v) (Value-F.Group v) (search (rules, the_lemmas)) (fields_have depth nodes is v.items h),
)

-- values of variants

payload_taken : (takes : ℕ → Tree → Type 0) (is : List ℕ) (n : ℕ) (t : Tree) → n < length is → takes (get_or is n 0) t → TakesPayload takes is n t
payload_taken takes [] n t l h = absurd (omega (arith, l))
payload_taken takes (i ∷ is) zero t l h = h
payload_taken takes (i ∷ is) (suc n) t l h = payload_taken takes is n t (omega (arith, l)) h

payload_has : (has : ℕ → Value → Type 0) (is : List ℕ) (n : ℕ) (v : Value) → n < length is → has (get_or is n 0) v → PayloadHas has is n v
payload_has has [] n v l h = absurd (omega (arith, l))
payload_has has (i ∷ is) zero v l h = h
payload_has has (i ∷ is) (suc n) v l h = payload_has has is n v (omega (arith, l)) h

pub of_variant : (depth : ℕ) (nodes : List Node) (is : List ℕ) (n : ℕ) (v : Box Value Global) → n < length is → n < 2 ^ 32 → IsOfType depth nodes (get_or is n 0) v.value → IsOfEnum depth nodes is (Variant n v)
of_variant depth nodes is n v l m h = (
  subst (TakesVariant (TakesPayload (SchemaTakes depth nodes) is)) (sym (tree-Variant n v)) (refl, m, payload_taken (SchemaTakes depth nodes) is n (tree_of v.value) l h.0),
  top_by (OfVariant (PayloadHas (SchemaHas depth nodes) is)) (Variant n v) (Value-F.Variant n v) (search (rules, the_lemmas)) (payload_has (SchemaHas depth nodes) is n v.value l h.2),
)

-- values of a node that has no types inside

leaf_by : (n : Node) (v : Value) (top : Value-F Value) (t : Tree) → out-Value v ≡ top → tree_of v ≡ t
    → ((depth : ℕ) (nodes : List Node) → TakesNode (SchemaTakes depth nodes) n t) → ((depth : ℕ) (nodes : List Node) → NodeHas (SchemaHas depth nodes) n top) → IsOfLeaf n v
leaf_by n v top t e f takes has depth nodes = (subst (TakesNode (SchemaTakes depth nodes) n) (sym f) (takes depth nodes), subst (NodeHas (SchemaHas depth nodes) n) (sym e) (has depth nodes))

little_fits : (k n : ℕ) → TakesFixed k (little_group k n)
unfolding little_group
little_fits k n = takes_group k (little_endian k n) (length_little k n) (octets_little k n)

big_fits : (k n : ℕ) → TakesFixed k (big_group k n)
unfolding big_group
big_fits k n = takes_group k (big_endian k n) (length_big k n) (octets_big k n)

pub little_leaf : (k : IntegerType) (i : Integer) → type_of i ≡ k → IsOfLeaf (node.LE k) (LE i)
little_leaf k i e = subst (λ z. IsOfLeaf (node.LE z) (LE i)) e
    (leaf_by (node.LE (type_of i)) (LE i) (Value-F.LE i) (little_tree_of i) (search (rules, the_lemmas)) (tree-LE i) (λ d ns. little_fits (width_of (type_of i)) (bits_in i)) (λ d ns. refl))

pub big_leaf : (k : IntegerType) (i : Integer) → type_of i ≡ k → IsOfLeaf (node.BE k) (BE i)
big_leaf k i e = subst (λ z. IsOfLeaf (node.BE z) (BE i)) e
    (leaf_by (node.BE (type_of i)) (BE i) (Value-F.BE i) (big_tree_of i) (search (rules, the_lemmas)) (tree-BE i) (λ d ns. big_fits (width_of (type_of i)) (bits_in i)) (λ d ns. refl))

each_read : (s : List ℕ) → ReadsAll ReadsByte (bytes_of s) s
each_read [] = tt
each_read (b ∷ s) = (refl, each_read s)

pub each_counted : (s : List ℕ) → count_of (bytes_of s) ≡ length s
each_counted [] = refl
each_counted (b ∷ s) = omega (arith, each_counted s)

bytes_read : (v : Vec ℕ Global) → ReadsBytes (text_of v.items) v.items
bytes_read v = (omega (arith, each_counted v.items, v.ok.0, v.ok.1, v.small), each_read v.items)

text_read : (s : String Global) → IsUtf8 (string_bytes s) → ReadsText (text_of (string_bytes s)) (string_bytes s)
text_read s u = (bytes_read s.bytes, u)

pub text_leaf : (s : String Global) → IsUtf8 (string_bytes s) → IsOfLeaf node.Text (Text s)
text_leaf s u = leaf_by node.Text (Text s) (Value-F.Text s) (text_of (string_bytes s)) (search (rules, the_lemmas)) (tree-Text s) (λ d ns. (string_bytes s, bytes_read s.bytes, u)) (λ d ns. tt)

pub short_text_leaf : (n : ℕ) (s : String Global) → IsUtf8 (string_bytes s) → length (string_bytes s) ≤ n → IsOfLeaf (node.TextUpTo n) (Text s)
short_text_leaf n s u m = leaf_by (node.TextUpTo n) (Text s) (Value-F.Text s) (text_of (string_bytes s)) (search (rules, the_lemmas)) (tree-Text s)
    (λ d ns. text_upto_taken n (text_of (string_bytes s)) (string_bytes s) (text_read s u, m)) (λ d ns. tt)

pub bytes_leaf : (v : Vec ℕ Global) → IsOfLeaf node.Bytes (Bytes v)
bytes_leaf v = leaf_by node.Bytes (Bytes v) (Value-F.Bytes v) (text_of v.items) (search (rules, the_lemmas)) (tree-Bytes v)
    (λ d ns. sequence_taken TakesByte ReadsByte byte_taken (text_of v.items) v.items (bytes_read v)) (λ d ns. tt)

-- bytes as values

pub byte_node : (o : Option Node) → is_byte_node o ≡ true → o ≡ Some node.U8
byte_node (Some node.U8) h = refl
byte_node None h = absurd (cc h)
byte_node (Some _) h = absurd (cc h)

pub each_byte : (depth : ℕ) (nodes : List Node) (i : ℕ) (vs : List Value) → depth ≢ 0 → slice_get nodes i ≡ Some node.U8 → EachHas (IsOfLeaf node.U8) vs → EachHas (IsOfType depth nodes i) vs
each_byte depth nodes i [] d e h = tt
each_byte depth nodes i (v ∷ vs) d e h = (at_place depth nodes i node.U8 v d e (h.0 (depth - 1) nodes), each_byte depth nodes i vs d e h.1)

-- newtypes and pairs

-- the node of a struct with these fields
abbrev pub IsStruct : List ℕ → Option Node → Type 0
IsStruct is o = (w : Vec ℕ Global) × (o ≡ Some (node.Struct w)) × (w.items ≡ is)

one_type : (is : List ℕ) (i : ℕ) → only_type is ≡ Some i → is ≡ i ∷ []
one_type [] i h = absurd (cc h)
one_type (k ∷ []) i h = cc
one_type (k ∷ l ∷ is) i h = absurd (cc h)

only_struct : (o : Option Node) (i : ℕ) → only_field o ≡ Some i → IsStruct (i ∷ []) o
only_struct (Some (node.Struct w)) i h = (w, refl, one_type w.items i h)
only_struct None i h = absurd (cc h)
only_struct (Some _) i h = absurd (cc h)

pub inside_struct : (b : Bool) (o : Option Node) (i : ℕ) → (if b then only_field o else None) ≡ Some i → IsStruct (i ∷ []) o
inside_struct true o i h = only_struct o i h
inside_struct false o i h = absurd (cc h)

two_struct : (is : List ℕ) (p : ℕ × ℕ) → two_types is ≡ Some p → is ≡ p.0 ∷ p.1 ∷ []
two_struct [] p h = absurd (cc h)
two_struct (i ∷ []) p h = absurd (cc h)
two_struct (i ∷ k ∷ []) p h = let e : (i, k) ≡ p = cc in ap (λ q. q.0 ∷ q.1 ∷ []) e
two_struct (i ∷ k ∷ l ∷ is) p h = absurd (cc h)

pub pair_struct : (o : Option Node) (p : ℕ × ℕ) → pair_node o ≡ Some p → IsStruct (p.0 ∷ p.1 ∷ []) o
pair_struct (Some (node.Struct w)) p h = (w, refl, two_struct w.items p h)
pair_struct None p h = absurd (cc h)
pair_struct (Some _) p h = absurd (cc h)

of_group : (depth : ℕ) (nodes : List Node) (i : ℕ) (is : List ℕ) (vs : List Value) (v : Value) → depth ≢ 0 → IsStruct is (slice_get nodes i) → FieldsHave (IsOfType (depth - 1) nodes) is vs → IsGroupOf vs v
    → IsOfType depth nodes i v
of_group depth nodes i is vs v d s h g =
    let has = IsOfType (depth - 1) nodes in
    subst (IsOfType depth nodes i) (sym g.1)
    (at_place depth nodes i (node.Struct s.0) (Group g.0) d s.1
    (of_struct (depth - 1) nodes s.0.items g.0 (subst (λ z. FieldsHave has z g.0.items) (sym s.2) (subst (FieldsHave has is) (sym g.2) h))))

pub of_newtype : (schema : Schema) (depth : ℕ) (i k : ℕ) (v w : Value) → depth ≢ 0 → inside_of schema i ≡ Some k → IsOfType (depth - 1) schema.nodes.items k v → IsGroupOf (v ∷ []) w → IsOfType depth schema.nodes.items i w
of_newtype schema depth i k v w d e h g = of_group depth schema.nodes.items i (k ∷ []) (v ∷ []) w d (inside_struct (is_newtype_named (names_at schema i)) (node_at schema i) k e) (h, tt) g

pub of_pair : (schema : Schema) (depth : ℕ) (i : ℕ) (p : ℕ × ℕ) (v w x : Value) → depth ≢ 0 → pair_node (node_at schema i) ≡ Some p → IsOfType (depth - 1) schema.nodes.items p.0 v → IsOfType (depth - 1) schema.nodes.items p.1 w
    → IsGroupOf (v ∷ w ∷ []) x → IsOfType depth schema.nodes.items i x
of_pair schema depth i p v w x d e h k g = of_group depth schema.nodes.items i (p.0 ∷ p.1 ∷ []) (v ∷ w ∷ []) x d (pair_struct (node_at schema i) p e) (h, (k, tt)) g

-- what they mean

pub little_means : (s : List ℕ) (i : Integer) → IsInteger s i → AtTop (MeansNumber s) (LE i)
little_means s i h = top_by (MeansNumber s) (LE i) (Value-F.LE i) (search (rules, the_lemmas)) h

pub big_means : (s : List ℕ) (i : Integer) → IsInteger s i → AtTop (MeansNumber s) (BE i)
big_means s i h = top_by (MeansNumber s) (BE i) (Value-F.BE i) (search (rules, the_lemmas)) h

pub text_means : (s : List ℕ) (t : String Global) → string_bytes t ≡ s → AtTop (MeansPlain (string s)) (Text t)
text_means s t h = top_by (MeansPlain (string s)) (Text t) (Value-F.Text t) (search (rules, the_lemmas)) h

pub bytes_mean : (j : Json) (v : Vec ℕ Global) → AreBytesOf j v.items → AtTop (MeansPlain j) (Bytes v)
bytes_mean j v h = top_by (MeansPlain j) (Bytes v) (Value-F.Bytes v) (search (rules, the_lemmas)) (by_kind j h)
  where
    by_kind : (k : Json) → AreBytesOf k v.items → MeansPlain k (Value-F.Bytes v)
    by_kind (array js) l = l
    by_kind (string r) l = l
    by_kind null l = l
    by_kind (boolean b) l = l
    by_kind (number r) l = l
    by_kind (object ms) l = l

-- keys

char_named : (s : List ℕ) (top : Value-F Value) → OfChar top → MeansPlain (string s) top → KeyMeansPlain s top
char_named s (Value-F.Char c) a h = h
char_named s _ a h = absurd a

text_named : (s : List ℕ) (top : Value-F Value) → OfText top → MeansPlain (string s) top → KeyMeansPlain s top
text_named s (Value-F.Text t) a h = h
text_named s _ a h = absurd a

pub char_key : {E : Type 0} (s : List ℕ) (r : Result Value E) → IfOk r (IsOfLeaf node.Char) → IfOk r (AtTop (MeansPlain (string s))) → IfOk r (AtTop (KeyMeansPlain s))
char_key s r h k = ok_both r (λ v a b. char_named s (out-Value v) (a 0 []).1 b) h k

pub text_key : {E : Type 0} (s : List ℕ) (n : Node) (r : Result Value E) → ((top : Value-F Value) → NodeHas (SchemaHas 0 []) n top → OfText top) → IfOk r (IsOfLeaf n) → IfOk r (AtTop (MeansPlain (string s)))
    → IfOk r (AtTop (KeyMeansPlain s))
text_key s n r f h k = ok_both r (λ v a b. text_named s (out-Value v) (f (out-Value v) (a 0 []).1) b) h k

-- variants

pub named_at : (named : Names) (v : Vec (String Global) Global) (n : ℕ) (s : String Global) (w : List ℕ) → named ≡ names.Variants v → slice_get v.items n ≡ Some s → string_bytes s ≡ w → variant_named (Some named) n ≡ Some w
named_at named v n s w e f g = rw e (rw f (ap Some g))

get_or_same : (xs : List ℕ) (m x : ℕ) → m < length xs → get_or xs m x ≡ get_or xs m (get_or xs m x)
get_or_same [] m x i = absurd (omega (arith, i))
get_or_same (y ∷ ys) zero x i = refl
get_or_same (y ∷ ys) (suc m) x i = get_or_same ys m x (omega (arith, i))

pub read_at : (is : List ℕ) (n : ℕ) → n < length is → slice_get is n ≡ Some (get_or is n 0)
read_at is n l = slice_get_read is (length is) n (get_or is n 0) refl l (get_or_same is n 0 l)

pub variant_means : (schema : Schema) (named : Option Names) (is : List ℕ) (means : ℕ → Json → Value → Type 0) (j : Json) (n : ℕ) (v : Box Value Global) (s : List ℕ) (o : Option Json) → chosen j ≡ Some (s, o) → IsIndexOf named s n → n < length is
    → MeansHolding schema means (get_or is n 0) o v.value → AtTop (MeansEnum schema named is means (chosen j)) (Variant n v)
variant_means schema named is means j n v s o e f l h =
    top_by (MeansEnum schema named is means (chosen j)) (Variant n v) (Value-F.Variant n v) (search (rules, the_lemmas)) (rw e (f, (get_or is n 0, read_at is n l, h)))

-- values of nodes

means_node : (schema : Schema) (depth i : ℕ) (n : Node) (m : Names) (j : Json) (v : Value) → node_at schema i ≡ Some n → names_at schema i ≡ Some m
    → AtTop (MeansNode schema (Some m) (Means schema depth) (Some n) j) v → Means schema (suc depth) i None j v
unfolding Means
means_node schema depth i n m j v e f h =
    subst (λ o. MeansNode schema (names_at schema i) (Means schema depth) o j (out-Value v)) (sym e) (subst (λ x. MeansNode schema x (Means schema depth) (Some n) j (out-Value v)) (sym f) h)

pub means_at : (schema : Schema) (depth i : ℕ) (n : Node) (m : Names) (j : Json) (v : Value) → depth ≢ 0 → node_at schema i ≡ Some n → names_at schema i ≡ Some m
    → AtTop (MeansNode schema (Some m) (Means schema (depth - 1)) (Some n) j) v → Means schema depth i None j v
means_at schema zero i n m j v d e f h = absurd (d refl)
means_at schema (suc depth) i n m j v d e f h = means_node schema depth i n m j v e f (subst (λ k. AtTop (MeansNode schema (Some m) (Means schema k) (Some n) j) v) (omega arith) h)

pub list_means : (means : List Value → Type 0) (w : Vec Value Global) (v : Value) → v ≡ Listed w → means w.items → AtTop (OfList means) v
list_means means w v e h = subst (AtTop (OfList means)) (sym e) (top_by (OfList means) (Listed w) (Value-F.List w) (search (rules, the_lemmas)) h)

-- fields from this number on
abbrev pub FieldsFrom : Names → Json → (ℕ → Json → Value → Type 0) → ℕ × List ℕ → List Value → Type 0
FieldsFrom named j means p vs = MeansFields named j means p.0 p.1 vs

pub struct_means : (m : Names) (is : List ℕ) (means : ℕ → Json → Value → Type 0) (j : Json) (w : Vec Value Global) → HasShape m (length is) j → HasOnlyFields m j → MeansFields m j means 0 is w.items → AtTop (OfGroup (MeansStruct (Some m) is means j)) (Group w)
struct_means m is means j w a b h = top_by (OfGroup (MeansStruct (Some m) is means j)) (Group w) (Value-F.Group w) (search (rules, the_lemmas)) (a, b, h)

-- members

two_out : (v w x : Value) → IsGroupOf (v ∷ w ∷ []) x → two_values (out-Value x) ≡ Some (v, w)
two_out v w x g =
    let e : out-Value (Group g.0) ≡ Value-F.Group g.0 = search (rules, the_lemmas) in
    ap (λ y. two_values (out-Value y)) g.1 ∙ (ap two_values e ∙ ap two_in g.2)

member_node : (schema : Schema) (depth i : ℕ) (p : ℕ × ℕ) (s : List ℕ) (j : Json) (v w x : Value) → pair_node (node_at schema i) ≡ Some p → two_values (out-Value x) ≡ Some (v, w) → KeyMeans schema depth p.0 s v
    → Means schema depth p.1 None j w → Means schema (suc depth) i (Some s) j x
unfolding Means
member_node schema depth i p s j v w x e f h k = rw e (rw f (h, k))

pub member_means : (schema : Schema) (depth i : ℕ) (p : ℕ × ℕ) (s : List ℕ) (j : Json) (v w x : Value) → depth ≢ 0 → pair_node (node_at schema i) ≡ Some p → KeyMeans schema (depth - 1) p.0 s v
    → Means schema (depth - 1) p.1 None j w → IsGroupOf (v ∷ w ∷ []) x → Means schema depth i (Some s) j x
member_means schema zero i p s j v w x d e h k g = absurd (d refl)
member_means schema (suc depth) i p s j v w x d e h k g =
    let same : suc depth - 1 ≡ depth = omega arith in
    member_node schema depth i p s j v w x e (two_out v w x g) (subst (λ y. KeyMeans schema y p.0 s v) same h) (subst (λ y. Means schema y p.1 None j w) same k)

one_out : (w v : Value) → IsGroupOf (w ∷ []) v → only_part (out-Value v) ≡ Some w
one_out w v g =
    let e : out-Value (Group g.0) ≡ Value-F.Group g.0 = search (rules, the_lemmas) in
    ap (λ y. only_part (out-Value y)) g.1 ∙ (ap only_part e ∙ ap only_value g.2)

key_node : (schema : Schema) (depth i : ℕ) (o : Option ℕ) (s : List ℕ) (v : Value) → inside_of schema i ≡ o
    → KeyMeansBy o (λ k w. KeyMeans schema depth k s w) (λ w. KeyMeansNode schema (names_at schema i) (node_at schema i) s (out-Value w)) v → KeyMeans schema (suc depth) i s v
unfolding KeyMeans
key_node schema depth i o s v e h = rw e h

pub key_inside : (schema : Schema) (depth i k : ℕ) (s : List ℕ) (w v : Value) → depth ≢ 0 → inside_of schema i ≡ Some k → KeyMeans schema (depth - 1) k s w → IsGroupOf (w ∷ []) v → KeyMeans schema depth i s v
key_inside schema zero i k s w v d e h g = absurd (d refl)
key_inside schema (suc depth) i k s w v d e h g = key_node schema depth i (Some k) s v e (w, one_out w v g, subst (λ y. KeyMeans schema y k s w) (omega arith) h)

pub key_at_node : (schema : Schema) (depth i : ℕ) (n : Node) (m : Names) (s : List ℕ) (v : Value) → depth ≢ 0 → inside_of schema i ≡ None → node_at schema i ≡ Some n → names_at schema i ≡ Some m
    → AtTop (KeyMeansNode schema (Some m) (Some n) s) v → KeyMeans schema depth i s v
key_at_node schema zero i n m s v d o e f h = absurd (d refl)
key_at_node schema (suc depth) i n m s v d o e f h =
    key_node schema depth i None s v o (subst (λ y. KeyMeansNode schema (names_at schema i) y s (out-Value v)) (sym e) (subst (λ x. KeyMeansNode schema x (Some n) s (out-Value v)) (sym f) h))

pub plain_node_key : (schema : Schema) (named : Names) (n : Node) (s : List ℕ) (top : Value-F Value) → ((is : Vec ℕ Global) → n ≢ node.Enum is) → KeyMeansPlain s top → KeyMeansNode schema (Some named) (Some n) s top
plain_node_key schema named (node.Enum is) s top f h = absurd (f is refl)
plain_node_key schema named _ s top f h = h

-- floats

pub number_float : (s : List ℕ) (i : Integer) → NumberMeansFloat s i → AtTop (MeansFloat (number s)) (LE i)
number_float s i h = top_by (MeansFloat (number s)) (LE i) (Value-F.LE i) (search (rules, the_lemmas)) h

pub word_float : (s : List ℕ) (i : Integer) → WordMeansFloat s i → AtTop (MeansFloat (string s)) (LE i)
word_float s i h = top_by (MeansFloat (string s)) (LE i) (Value-F.LE i) (search (rules, the_lemmas)) h

-- When nothing of a type with parts is read.
use Rattle.std.specs.Prelude.{◌≡◌, ◌≢◌, ◌-◌, ◌+◌, ◌<◌, ℕ, zero, suc, Bool, true, false, Option, Some, None, Result, Ok, IfOk, List, [], ◌∷◌, length, map, drop, get_or, Box}
use Rattle.std.specs.Borrow.{Bor}
use Rattle.std.specs.Global.{Global}
use Rattle.std.specs.List.{slice_get}
use Rattle.std.proofs.Common.{refl, sym, ap, ◌∙◌, subst, arith, Vec}
use Rattle.json.specs.Json.{Json, null, string, array, object, Items, no_items, item, Members, no_members, member}
use Rattle.json.specs.Value.{items_view, members_view, value_view}
use Rattle.json.specs.declared.value.Value.{Value as Parsed}
use Rattle.postcard_tree.specs.Tree.{byte, group, part, end, sequence}
use Rattle.postcard_tree.specs.Reading.{GroupOf, HasUpTo, TakesAll, TakesArray, TakesOption, TakesSequence}
use Rattle.schema_table.specs.declared.integer.IntegerType.{IntegerType}
use Rattle.schema_table.specs.declared.node.Node.{Node}
use Rattle.schema_table.specs.declared.node.Node.TheVariants as node
use Rattle.schema_table.specs.declared.schema.Names.{Names}
use Rattle.schema_table.specs.declared.schema.Names.TheVariants as names
use Rattle.schema_table.specs.declared.schema.Schema.{Schema}
use Rattle.schema_table.specs.Telling.{names_at, node_at}
use Rattle.schema_table.specs.declared.value.Value.{Value, Variant, out-Value, roll-Value}
use Rattle.schema_table.specs.declared.value.Value.TheOpen.{Value-F}
use Rattle.schema_table.specs.Schemas.{SchemaTakes, SchemaHas, TakesFields, TakesPlace, NodeHas, PlaceHas, AtTop, OfList, OfGroup, OfOption, OfVariant, EachHas, FieldsHave, PayloadHas}
use Rattle.schema_table.specs.Values.{tree_of, trees_in}
use Rattle.wire_json.specs.InRange.{Fits, InRange, all_true, are_in_range}
use Rattle.schema_table.specs.Looks.{IsPresentBy, inside_of, is_float_named, is_newtype_named, null_within, only_part, only_value, pair_node}
use Rattle.wire_json.specs.Meant.{AreBytes, IsIndexOf, IsPresent, KeyMeans, KeyMeansBy, KeyMeansNode, KeyMeansPlain, Means, MeansElements, MeansEnum, MeansField, MeansFields, MeansHeld, MeansHolding, MeansItems, MeansList, MeansMember, MeansMembers, MeansNamed, MeansNode, MeansOption, MeansPlain, MeansValue, chosen, count_items, count_members}
use Rattle.wire_json.specs.Parsed.{IsOfEnum, IsOfLeaf, IsOfNode, IsOfStruct, IsOfType}
use Rattle.schema_table.specs.Printed.{two_in, two_values}
use Rattle.wire_json.specs.Refused.{IsNumberNode, NoneOf}
use Rattle.wire_json.proofs.KeyLemmas.{group_range, group_tree, list_range, list_tree}
use Rattle.wire_json.proofs.LeafLemmas.{both_true}
use Rattle.wire_json.proofs.LeafRefusals.{first_index, held_fits, no_depth, value_rolled, variant_value}
use Rattle.wire_json.proofs.RoundLemmas.{present_range, present_tree}
use Rattle.wire_json.proofs.NumberRefusals.{number_means}
use Rattle.wire_json.proofs.ParsedLemmas.{IsStruct, count_in, inside_struct, ok_as, pair_struct, read_at}

-- one level of a value

pub type_top : (d : ℕ) (nodes : List Node) (i : ℕ) (n : Node) (v : Value) → d ≢ 0 → slice_get nodes i ≡ Some n → IsOfType d nodes i v → IsOfNode (d - 1) nodes n v
unfolding SchemaTakes SchemaHas
type_top zero nodes i n v d e h = absurd (d refl)
type_top (suc k) nodes i n v d e h =
    let top : IsOfNode k nodes n v = (subst (λ o. TakesPlace (SchemaTakes k nodes) o (tree_of v)) e h.0, subst (λ o. PlaceHas (SchemaHas k nodes) o v) e h.2) in
    subst (λ x. IsOfNode x nodes n v) (omega arith) top

pub none_deep : (schema : Schema) (d i : ℕ) (means : Value → Type 0) → d ≡ 0 → NoneOf (Fits schema d i) means
none_deep schema d i means e v h m = no_depth schema d i v e h

pub none_place : (schema : Schema) (d i : ℕ) (means : Value → Type 0) → node_at schema i ≡ None → NoneOf (Fits schema d i) means
unfolding SchemaTakes
none_place schema zero i means e v h m = h.0.0
none_place schema (suc d) i means e v h m = subst (λ o. TakesPlace (SchemaTakes d schema.nodes.items) o (tree_of v)) e h.0.0

pub none_named : (schema : Schema) (d i : ℕ) (j : Json) (kind : Value → Type 0) → names_at schema i ≡ None → NoneOf kind (MeansValue schema d i j)
unfolding Means
none_named schema zero i j kind e v h m = m
none_named schema (suc d) i j kind e v h m = subst (λ o. MeansNode schema o (Means schema d) (node_at schema i) j (out-Value v)) e m

means_top : (schema : Schema) (d i : ℕ) (n : Node) (m : Names) (j : Json) (v : Value) → node_at schema i ≡ Some n → names_at schema i ≡ Some m → Means schema (suc d) i None j v → AtTop (MeansNode schema (Some m) (Means schema d) (Some n) j) v
unfolding Means
means_top schema d i n m j v e f x =
    subst (λ o. MeansNode schema (Some m) (Means schema d) o j (out-Value v)) e (subst (λ o. MeansNode schema o (Means schema d) (node_at schema i) j (out-Value v)) f x)

pub none_at : (schema : Schema) (d i : ℕ) (n : Node) (m : Names) (j : Json) → d ≢ 0 → node_at schema i ≡ Some n → names_at schema i ≡ Some m
    → NoneOf (InRange (IsOfNode (d - 1) schema.nodes.items n)) (AtTop (MeansNode schema (Some m) (Means schema (d - 1)) (Some n) j)) → NoneOf (Fits schema d i) (MeansValue schema d i j)
none_at schema zero i n m j d e f none v h x = absurd (d refl)
none_at schema (suc k) i n m j d e f none v h x =
    none v (type_top (suc k) schema.nodes.items i n v d e h.0, h.1) (subst (λ y. AtTop (MeansNode schema (Some m) (Means schema y) (Some n) j) v) (omega arith) (means_top schema k i n m j v e f x))

-- values inside

each_inside : (d : ℕ) (nodes : List Node) (k : ℕ) (vs : List Value) → TakesAll (SchemaTakes d nodes k) (trees_in vs) → EachHas (SchemaHas d nodes k) vs → all_true (map are_in_range vs) ≡ true → EachHas (InRange (IsOfType d nodes k)) vs
each_inside d nodes k [] t h r = tt
each_inside d nodes k (v ∷ vs) t h r = let both = both_true (are_in_range v) (all_true (map are_in_range vs)) r in (((t.0, refl, h.0), both.0), each_inside d nodes k vs t.1 h.1 both.1)

fields_inside : (d : ℕ) (nodes : List Node) (is : List ℕ) (vs : List Value) → TakesFields (SchemaTakes d nodes) is (trees_in vs) → FieldsHave (SchemaHas d nodes) is vs → all_true (map are_in_range vs) ≡ true
    → FieldsHave (λ i. InRange (IsOfType d nodes i)) is vs
fields_inside d nodes [] [] t h r = tt
fields_inside d nodes [] (v ∷ vs) t h r = h
fields_inside d nodes (i ∷ is) [] t h r = h
fields_inside d nodes (i ∷ is) (v ∷ vs) t h r = let both = both_true (are_in_range v) (all_true (map are_in_range vs)) r in (((t.0, refl, h.0), both.0), fields_inside d nodes is vs t.1 h.1 both.1)

list_inside : (d : ℕ) (nodes : List Node) (k : ℕ) (v : Value) (w : Vec Value Global) → out-Value v ≡ Value-F.List w → are_in_range v ≡ true → TakesSequence (SchemaTakes d nodes k) (tree_of v) → EachHas (SchemaHas d nodes k) w.items
    → EachHas (InRange (IsOfType d nodes k)) w.items
list_inside d nodes k v w e r t h = each_inside d nodes k w.items (subst (TakesSequence (SchemaTakes d nodes k)) (list_tree v w e) t).1 h (sym (list_range v w e) ∙ r)

struct_inside : (d : ℕ) (nodes : List Node) (is : List ℕ) (v : Value) → InRange (IsOfStruct d nodes is) v → (w : Vec Value Global) × (out-Value v ≡ Value-F.Group w) × FieldsHave (λ i. InRange (IsOfType d nodes i)) is w.items
struct_inside d nodes is v h = by_top (out-Value v) refl h.0.1
  where
    by_top : (t : Value-F Value) → out-Value v ≡ t → OfGroup (FieldsHave (SchemaHas d nodes) is) t → (w : Vec Value Global) × (out-Value v ≡ Value-F.Group w) × FieldsHave (λ i. InRange (IsOfType d nodes i)) is w.items
    by_top (Value-F.Group w) e g = (w, e, fields_inside d nodes is w.items (subst (GroupOf (TakesFields (SchemaTakes d nodes) is)) (group_tree v w e) h.0.0) g (sym (group_range v w e) ∙ h.1))
    by_top _ e g = absurd g

-- lists

pub list_none : (d : ℕ) (nodes : List Node) (k : ℕ) (means : List Value → Type 0) → NoneOf (EachHas (InRange (IsOfType d nodes k))) means → NoneOf (InRange (IsOfNode d nodes (node.List k))) (AtTop (OfList means))
list_none d nodes k means none v h m = by_top (out-Value v) refl h.0.1 m
  where
    by_top : (t : Value-F Value) → out-Value v ≡ t → OfList (EachHas (SchemaHas d nodes k)) t → OfList means t → ⊥
    by_top (Value-F.List w) e g x = none w.items (list_inside d nodes k v w e h.1 h.0.0 g) x
    by_top _ e g x = g

pub list_up_to_none : (d : ℕ) (nodes : List Node) (n k : ℕ) (means : List Value → Type 0) → NoneOf (EachHas (InRange (IsOfType d nodes k))) means → NoneOf (InRange (IsOfNode d nodes (node.ListUpTo n k))) (AtTop (OfList means))
list_up_to_none d nodes n k means none v h m = by_top (out-Value v) refl h.0.1 m
  where
    by_top : (t : Value-F Value) → out-Value v ≡ t → OfList (EachHas (SchemaHas d nodes k)) t → OfList means t → ⊥
    by_top (Value-F.List w) e g x = none w.items (list_inside d nodes k v w e h.1 h.0.0.0 g) x
    by_top _ e g x = g

pub array_none : (d : ℕ) (nodes : List Node) (n k : ℕ) (means : List Value → Type 0) → NoneOf (EachHas (InRange (IsOfType d nodes k))) means → NoneOf (InRange (IsOfNode d nodes (node.Array n k))) (AtTop (OfGroup means))
array_none d nodes n k means none v h m = by_top (out-Value v) refl h.0.1 m
  where
    by_top : (t : Value-F Value) → out-Value v ≡ t → OfGroup (EachHas (SchemaHas d nodes k)) t → OfGroup means t → ⊥
    by_top (Value-F.Group w) e g x =
        let taken = subst (TakesArray n (SchemaTakes d nodes k)) (group_tree v w e) h.0.0 in
        none w.items (each_inside d nodes k w.items taken.0 g (sym (group_range v w e) ∙ h.1)) x
    by_top _ e g x = g

-- how many are meant

items_count : (means : Json → Value → Type 0) (js : Items) (vs : List Value) → MeansItems means js vs → length vs ≡ count_items js
items_count means no_items [] h = refl
items_count means no_items (v ∷ vs) h = absurd h
items_count means (item j js) [] h = absurd h
items_count means (item j js) (v ∷ vs) h = omega (arith, items_count means js vs h.1)

members_count : (pair : List ℕ → Json → Value → Type 0) (ms : Members) (vs : List Value) → MeansMembers pair ms vs → length vs ≡ count_members ms
members_count pair no_members [] h = refl
members_count pair no_members (v ∷ vs) h = absurd h
members_count pair (member s j ms) [] h = absurd h
members_count pair (member s j ms) (v ∷ vs) h = omega (arith, members_count pair ms vs h.1)

bytes_count : (bs : List ℕ) (vs : List Value) → AreBytes bs vs → length vs ≡ length bs
bytes_count [] [] h = refl
bytes_count [] (v ∷ vs) h = absurd h
bytes_count (b ∷ bs) [] h = absurd h
bytes_count (b ∷ bs) (v ∷ vs) h = omega (arith, bytes_count bs vs h.1)

elements_count : (n : Option Node) (means : Json → Value → Type 0) (j : Json) (vs ws : List Value) → MeansElements n means j vs → MeansElements n means j ws → length vs ≡ length ws
elements_count n means (array js) vs ws a b = items_count means js vs a ∙ sym (items_count means js ws b)
elements_count n means (string s) vs ws a b =
    let same : a.1.0 ≡ b.1.0 = (let e : Ok a.1.0 ≡ Ok b.1.0 = sym a.1.1 ∙ b.1.1 in cc) in
    bytes_count a.1.0 vs a.1.2 ∙ (ap length same ∙ sym (bytes_count b.1.0 ws b.1.2))
elements_count n means _ vs ws a b = absurd a

list_count : (b : Bool) (n : Option Node) (means : Json → Value → Type 0) (pair : List ℕ → Json → Value → Type 0) (j : Json) (vs ws : List Value) → MeansList b n means pair j vs → MeansList b n means pair j ws → length vs ≡ length ws
list_count b n means pair (object ms) vs ws x y = members_count pair ms vs x.1 ∙ sym (members_count pair ms ws y.1)
list_count b n means pair (array js) vs ws x y = elements_count n means (array js) vs ws x y
list_count b n means pair (string s) vs ws x y = elements_count n means (string s) vs ws x y
list_count b n means pair _ vs ws x y = absurd x

-- of another length
pub long_none : (b : Bool) (n : Option Node) (means : Json → Value → Type 0) (pair : List ℕ → Json → Value → Type 0) (j : Json) (d : ℕ) (nodes : List Node) (most k : ℕ) (xs : List Value) → MeansList b n means pair j xs → most < length xs
    → NoneOf (InRange (IsOfNode d nodes (node.ListUpTo most k))) (AtTop (OfList (MeansList b n means pair j)))
long_none b n means pair j d nodes most k xs a l v h m = by_top (out-Value v) refl m
  where
    by_top : (t : Value-F Value) → out-Value v ≡ t → OfList (MeansList b n means pair j) t → ⊥
    by_top (Value-F.List w) e x =
        let up : HasUpTo most (sequence (trees_in w.items)) = subst (HasUpTo most) (list_tree v w e) h.0.0.1 in
        omega (arith, l, list_count b n means pair j w.items xs x a, count_in w.items, up)
    by_top _ e x = x

pub other_length_none : (n : Option Node) (means : Json → Value → Type 0) (j : Json) (d : ℕ) (nodes : List Node) (count k : ℕ) (xs : List Value) → MeansElements n means j xs → length xs ≢ count
    → NoneOf (InRange (IsOfNode d nodes (node.Array count k))) (AtTop (OfGroup (MeansElements n means j)))
other_length_none n means j d nodes count k xs a l v h m = by_top (out-Value v) refl m
  where
    by_top : (t : Value-F Value) → out-Value v ≡ t → OfGroup (MeansElements n means j) t → ⊥
    by_top (Value-F.Group w) e x =
        let taken : TakesArray count (SchemaTakes d nodes k) (group (trees_in w.items)) = subst (TakesArray count (SchemaTakes d nodes k)) (group_tree v w e) h.0.0 in
        l (sym (elements_count n means j w.items xs x a) ∙ (sym (count_in w.items) ∙ taken.1))
    by_top _ e x = x

-- one of them means nothing

pub item_none : (kind : Value → Type 0) (means : Json → Value → Type 0) (all : List (Parsed Global)) (k : ℕ) (x : Parsed Global) → k < length all → x ≡ get_or all k x → NoneOf kind (means (value_view x)) → NoneOf (EachHas kind) (MeansItems means (items_view all))
item_none kind means [] k x l e none vs h m = absurd (omega (arith, l))
item_none kind means (y ∷ all) k x l e none [] h m = m
item_none kind means (y ∷ all) zero x l e none (v ∷ vs) h m = none v h.0 (subst (λ z. means (value_view z) v) (sym e) m.0)
item_none kind means (y ∷ all) (suc k) x l e none (v ∷ vs) h m = item_none kind means all k x (omega (arith, l)) e none vs h.1 m.1

pub member_none : (kind : Value → Type 0) (pair : List ℕ → Json → Value → Type 0) (all : List (Bor (List ℕ) × Parsed Global)) (k : ℕ) (x : Bor (List ℕ) × Parsed Global) → k < length all → x ≡ get_or all k x → NoneOf kind (pair x.0.now (value_view x.1))
    → NoneOf (EachHas kind) (MeansMembers pair (members_view all))
member_none kind pair [] k x l e none vs h m = absurd (omega (arith, l))
member_none kind pair (y ∷ all) k x l e none [] h m = m
member_none kind pair (y ∷ all) zero x l e none (v ∷ vs) h m = none v h.0 (subst (λ z. pair z.0.now (value_view z.1) v) (sym e) m.0)
member_none kind pair (y ∷ all) (suc k) x l e none (v ∷ vs) h m = member_none kind pair all k x (omega (arith, l)) e none vs h.1 m.1

pub field_none : (kind : ℕ → Value → Type 0) (named : Names) (j : Json) (means : ℕ → Json → Value → Type 0) (n k : ℕ) (is rest : List ℕ) (i : ℕ) → drop k is ≡ i ∷ rest → NoneOf (kind i) (MeansField named j (means i) (n + k)) → (vs : List Value)
    → FieldsHave kind is vs → MeansFields named j means n is vs → ⊥
field_none kind named j means n zero [] rest i e none vs h m = absurd (cc e)
field_none kind named j means n (suc k) [] rest i e none vs h m = absurd (cc e)
field_none kind named j means n k (y ∷ is) rest i e none [] h m = m
field_none kind named j means n zero (y ∷ is) rest i e none (v ∷ vs) h m =
    let same : y ≡ i = cc in
    let here : n ≡ n + 0 = omega arith in
    none v (subst (λ z. kind z v) same h.0) (subst (λ z. MeansField named j (means z) (n + 0) v) same (subst (λ z. MeansField named j (means y) z v) here m.0))
field_none kind named j means n (suc k) (y ∷ is) rest i e none (v ∷ vs) h m =
    let next : n + suc k ≡ (n + 1) + k = omega arith in
    field_none kind named j means (n + 1) k is rest i e (subst (λ z. NoneOf (kind i) (MeansField named j (means i) z)) next none) vs h.1 m.1

pub struct_none : (d : ℕ) (nodes : List Node) (is : List ℕ) (means : List Value → Type 0) → ((vs : List Value) → FieldsHave (λ i. InRange (IsOfType d nodes i)) is vs → means vs → ⊥) → NoneOf (InRange (IsOfStruct d nodes is)) (AtTop (OfGroup means))
struct_none d nodes is means none v h m =
    let inside = struct_inside d nodes is v h in
    none inside.0.items inside.2 (subst (OfGroup means) inside.1 m)

-- options

present_inside : (b : Bool) (kind : Json → Type 0) (j : Json) → IsPresentBy b kind j → (k : Json) × IsPresentBy b (λ x. x ≡ k) j × kind k
present_inside true kind j h = (h.0, (h.0, h.1, refl), h.2)
present_inside false kind j h = (j, refl, h)

option_inside : (d : ℕ) (nodes : List Node) (i : ℕ) (v : Value) (w : Box Value Global) → out-Value v ≡ Value-F.Present w → InRange (IsOfNode d nodes (node.Option i)) v → InRange (IsOfType d nodes i) w.value
option_inside d nodes i v w e h =
    let taken : TakesOption (SchemaTakes d nodes i) (group (part (byte 1) (part (tree_of w.value) end))) = subst (TakesOption (SchemaTakes d nodes i)) (present_tree v w e) h.0.0 in
    let has : OfOption (SchemaHas d nodes i) (Value-F.Present w) = subst (OfOption (SchemaHas d nodes i)) e h.0.1 in
    ((taken.1, refl, has), sym (present_range v w e) ∙ h.1)

pub option_none : (schema : Schema) (d i : ℕ) (j : Json) (means : Json → Value → Type 0) → j ≢ null → ((k : Json) → IsPresent schema i k j → NoneOf (Fits schema d i) (means k))
    → NoneOf (InRange (IsOfNode d schema.nodes.items (node.Option i))) (AtTop (MeansOption schema i means j))
option_none schema d i j means f none v h m = by_top (out-Value v) refl h.0.1 m
  where
    by_top : (t : Value-F Value) → out-Value v ≡ t → OfOption (SchemaHas d schema.nodes.items i) t → MeansOption schema i means j t → ⊥
    by_top Value-F.Absent e g x = f x
    by_top (Value-F.Present w) e g x =
        let one = present_inside (null_within (length schema.nodes.items) schema i) (λ k. means k w.value) j x.1 in
        none one.0 one.1 w.value (option_inside d schema.nodes.items i v w e h) one.2
    by_top _ e g x = g

-- variants

enum_none : (schema : Schema) (d : ℕ) (is : List ℕ) (means : Value-F Value → Type 0) → ((n : ℕ) (w : Box Value Global) → InRange (IsOfEnum d schema.nodes.items is) (Variant n w) → means (Value-F.Variant n w) → ⊥)
    → NoneOf (InRange (IsOfEnum d schema.nodes.items is)) (AtTop means)
enum_none schema d is means none v h m = by_top (out-Value v) refl h.0.1 m
  where
    by_top : (t : Value-F Value) → out-Value v ≡ t → OfVariant (PayloadHas (SchemaHas d schema.nodes.items) is) t → means t → ⊥
    by_top (Value-F.Variant n w) e g x = none n w (subst (InRange (IsOfEnum d schema.nodes.items is)) (sym (value_rolled v) ∙ (ap roll-Value e ∙ variant_value n w)) h) x
    by_top _ e g x = g

-- pairs and keys

two_inside : (has : ℕ → Value → Type 0) (a b : ℕ) (vs : List Value) → FieldsHave has (a ∷ b ∷ []) vs → (x : Value) × (y : Value) × (vs ≡ x ∷ y ∷ []) × has a x × has b y
two_inside has a b (x ∷ y ∷ []) h = (x, y, refl, h.0, h.1.0)
two_inside has a b [] h = absurd h
two_inside has a b (x ∷ []) h = absurd h.1
two_inside has a b (x ∷ y ∷ z ∷ vs) h = absurd h.1.1

one_inside : (has : ℕ → Value → Type 0) (a : ℕ) (vs : List Value) → FieldsHave has (a ∷ []) vs → (x : Value) × (vs ≡ x ∷ []) × has a x
one_inside has a (x ∷ []) h = (x, refl, h.0)
one_inside has a [] h = absurd h
one_inside has a (x ∷ y ∷ vs) h = absurd h.1

pub type_struct : (schema : Schema) (d i : ℕ) (is : List ℕ) (v : Value) → d ≢ 0 → IsStruct is (node_at schema i) → Fits schema d i v → (w : Vec Value Global) × (out-Value v ≡ Value-F.Group w) × FieldsHave (Fits schema (d - 1)) is w.items
type_struct schema d i is v e s h =
    let inside = struct_inside (d - 1) schema.nodes.items s.0.items v (type_top d schema.nodes.items i (node.Struct s.0) v e s.1 h.0, h.1) in
    (inside.0, inside.1, subst (λ z. FieldsHave (Fits schema (d - 1)) z inside.0.items) s.2 inside.2)

held_at : (schema : Schema) (d i : ℕ) (s : List ℕ) (j : Json) (p : ℕ × ℕ) (v : Value) → pair_node (node_at schema i) ≡ Some p → Means schema (suc d) i (Some s) j v → MeansHeld (KeyMeans schema d) (λ k. Means schema d k None) (Some p) (two_values (out-Value v)) s j
unfolding Means
held_at schema d i s j p v e m = subst (λ o. MeansHeld (KeyMeans schema d) (λ k. Means schema d k None) o (two_values (out-Value v)) s j) e m

member_inside : (schema : Schema) (d i : ℕ) (s : List ℕ) (j : Json) (p : ℕ × ℕ) (v : Value) → d ≢ 0 → pair_node (node_at schema i) ≡ Some p → Fits schema d i v → MeansMember schema d i s j v
    → (x : Value) × (y : Value) × Fits schema (d - 1) p.0 x × Fits schema (d - 1) p.1 y × KeyMeans schema (d - 1) p.0 s x × MeansValue schema (d - 1) p.1 j y
member_inside schema zero i s j p v e f h m = absurd (e refl)
member_inside schema (suc d) i s j p v e f h m =
    let same : d ≡ suc d - 1 = omega arith in
    let inside = type_struct schema (suc d) i (p.0 ∷ p.1 ∷ []) v e (pair_struct (node_at schema i) p f) h in
    let two = two_inside (Fits schema (suc d - 1)) p.0 p.1 inside.0.items inside.2 in
    let seen : two_values (out-Value v) ≡ Some (two.0, two.1) = ap two_values inside.1 ∙ ap two_in two.2 in
    let held : KeyMeans schema d p.0 s two.0 × Means schema d p.1 None j two.1 = subst (λ o. MeansHeld (KeyMeans schema d) (λ k. Means schema d k None) (Some p) o s j) seen (held_at schema d i s j p v f m) in
    (two.0, two.1, two.3, two.4, subst (λ z. KeyMeans schema z p.0 s two.0) same held.0, subst (λ z. Means schema z p.1 None j two.1) same held.1)

pub no_pair : (schema : Schema) (d i : ℕ) (s : List ℕ) (j : Json) → pair_node (node_at schema i) ≡ None → NoneOf (Fits schema d i) (MeansMember schema d i s j)
unfolding Means
no_pair schema zero i s j e v h m = m
no_pair schema (suc d) i s j e v h m = subst (λ o. MeansHeld (KeyMeans schema d) (λ k. Means schema d k None) o (two_values (out-Value v)) s j) e m

pub no_key : (schema : Schema) (d i : ℕ) (s : List ℕ) (j : Json) (p : ℕ × ℕ) → d ≢ 0 → pair_node (node_at schema i) ≡ Some p → NoneOf (Fits schema (d - 1) p.0) (KeyMeans schema (d - 1) p.0 s) → NoneOf (Fits schema d i) (MeansMember schema d i s j)
no_key schema d i s j p e f none v h m = let x = member_inside schema d i s j p v e f h m in none x.0 x.2 x.4

pub no_held : (schema : Schema) (d i : ℕ) (s : List ℕ) (j : Json) (p : ℕ × ℕ) → d ≢ 0 → pair_node (node_at schema i) ≡ Some p → NoneOf (Fits schema (d - 1) p.1) (MeansValue schema (d - 1) p.1 j) → NoneOf (Fits schema d i) (MeansMember schema d i s j)
no_held schema d i s j p e f none v h m = let x = member_inside schema d i s j p v e f h m in none x.1 x.3 x.5

key_by : (schema : Schema) (d i : ℕ) (s : List ℕ) (o : Option ℕ) (v : Value) → inside_of schema i ≡ o → KeyMeans schema (suc d) i s v
    → KeyMeansBy o (λ k w. KeyMeans schema d k s w) (λ w. KeyMeansNode schema (names_at schema i) (node_at schema i) s (out-Value w)) v
unfolding KeyMeans
key_by schema d i s o v e m = subst (λ z. KeyMeansBy z (λ k w. KeyMeans schema d k s w) (λ w. KeyMeansNode schema (names_at schema i) (node_at schema i) s (out-Value w)) v) e m

-- a key of a newtype
pub newtype_no_key : (schema : Schema) (d i k : ℕ) (s : List ℕ) → d ≢ 0 → inside_of schema i ≡ Some k → NoneOf (Fits schema (d - 1) k) (KeyMeans schema (d - 1) k s) → NoneOf (Fits schema d i) (KeyMeans schema d i s)
newtype_no_key schema zero i k s e f none v h m = absurd (e refl)
newtype_no_key schema (suc d) i k s e f none v h m =
    let inside = type_struct schema (suc d) i (k ∷ []) v e (inside_struct (is_newtype_named (names_at schema i)) (node_at schema i) k f) h in
    let one = one_inside (Fits schema (suc d - 1)) k inside.0.items inside.2 in
    let key = key_by schema d i s (Some k) v f m in
    let seen : only_part (out-Value v) ≡ Some one.0 = ap only_part inside.1 ∙ ap only_value one.1 in
    let same : key.0 ≡ one.0 = (let z : Some key.0 ≡ Some one.0 = sym key.1 ∙ seen in cc) in
    none one.0 one.2 (subst (λ z. KeyMeans schema z k s one.0) (omega arith) (subst (KeyMeans schema d k s) same key.2))

-- a key of a type without names
pub unnamed_no_key : (schema : Schema) (d i : ℕ) (s : List ℕ) (kind : Value → Type 0) → inside_of schema i ≡ None → names_at schema i ≡ None → NoneOf kind (KeyMeans schema d i s)
unfolding KeyMeans
unnamed_no_key schema zero i s kind e f v h m = m
unnamed_no_key schema (suc d) i s kind e f v h m = subst (λ o. KeyMeansNode schema o (node_at schema i) s (out-Value v)) f (key_by schema d i s None v e m)

-- a key of another
pub node_no_key : (schema : Schema) (d i : ℕ) (n : Node) (named : Names) (s : List ℕ) → d ≢ 0 → inside_of schema i ≡ None → node_at schema i ≡ Some n → names_at schema i ≡ Some named
    → NoneOf (InRange (IsOfNode (d - 1) schema.nodes.items n)) (AtTop (KeyMeansNode schema (Some named) (Some n) s)) → NoneOf (Fits schema d i) (KeyMeans schema d i s)
node_no_key schema zero i n named s e f g l none v h m = absurd (e refl)
node_no_key schema (suc d) i n named s e f g l none v h m =
    none v (type_top (suc d) schema.nodes.items i n v e g h.0, h.1)
    (subst (λ o. KeyMeansNode schema (Some named) o s (out-Value v)) g (subst (λ o. KeyMeansNode schema o (node_at schema i) s (out-Value v)) l (key_by schema d i s None v f m)))

-- the members of a map
pub map_means : {E : Type 0} (b : Bool) (n : Option Node) (means : Json → Value → Type 0) (pair : List ℕ → Json → Value → Type 0) (j : Json) (ms : Members) (r : Result (Vec Value Global) E) → j ≡ object ms → b ≡ true → IfOk r (λ v. MeansMembers pair ms v.items)
    → IfOk r (λ v. MeansList b n means pair j v.items)
map_means b n means pair j ms r e f h = rw e (ok_as r (λ v k. (f, k)) h)

pub map_none : (b : Bool) (n : Option Node) (means : Json → Value → Type 0) (pair : List ℕ → Json → Value → Type 0) (j : Json) (ms : Members) (kind : List Value → Type 0) → j ≡ object ms → NoneOf kind (MeansMembers pair ms) → NoneOf kind (MeansList b n means pair j)
map_none b n means pair j ms kind e none vs h m = none vs h (subst (λ z. MeansList b n means pair z vs) e m).1

-- what a variant of this name holds, means nothing
pub payload_none : (schema : Schema) (d : ℕ) (named : Option Names) (is s : List ℕ) (index : ℕ) (j : Json) (o : Option Json) → chosen j ≡ Some (s, o) → IsIndexOf named s index → index < length is
    → NoneOf (Fits schema d (get_or is index 0)) (MeansHolding schema (MeansValue schema d) (get_or is index 0) o) → NoneOf (InRange (IsOfEnum d schema.nodes.items is)) (AtTop (MeansEnum schema named is (MeansValue schema d) (chosen j)))
payload_none schema d named is s index j o e f l none = enum_none schema d is (MeansEnum schema named is (MeansValue schema d) (chosen j)) (λ n w h x. by_choice n w h (subst (λ c. MeansEnum schema named is (MeansValue schema d) c (Value-F.Variant n w)) e x))
  where
    by_choice : (n : ℕ) (w : Box Value Global) → InRange (IsOfEnum d schema.nodes.items is) (Variant n w) → MeansNamed schema named is (MeansValue schema d) s o (Value-F.Variant n w) → ⊥
    by_choice n w h x =
        let same : n ≡ index = first_index named s n index x.0 f in
        let place : x.1.0 ≡ get_or is index 0 = (let y : Some x.1.0 ≡ Some (get_or is index 0) = sym x.1.1 ∙ (ap (slice_get is) same ∙ read_at is index l) in cc) in
        none w.value (subst (λ k. Fits schema d k w.value) place (held_fits schema d is n x.1.0 w h x.1.1)) (subst (λ k. MeansHolding schema (MeansValue schema d) k o w.value) place x.1.2)

-- values of a node that has no types inside
abbrev pub is_leaf_node : Node → Bool
is_leaf_node (node.Option k) = false
is_leaf_node (node.List k) = false
is_leaf_node (node.ListUpTo n k) = false
is_leaf_node (node.Array n k) = false
is_leaf_node (node.Struct is) = false
is_leaf_node (node.Enum is) = false
is_leaf_node _ = true

leaf_of : (d : ℕ) (nodes : List Node) (n : Node) (v : Value) → is_leaf_node n ≡ true → IsOfNode d nodes n v → IsOfLeaf n v
leaf_of d nodes node.Bool v e h = λ f ns. h
leaf_of d nodes (node.Option k) v e h = absurd (cc e)
leaf_of d nodes (node.List k) v e h = absurd (cc e)
leaf_of d nodes (node.ListUpTo n k) v e h = absurd (cc e)
leaf_of d nodes (node.Array n k) v e h = absurd (cc e)
leaf_of d nodes (node.Struct is) v e h = absurd (cc e)
leaf_of d nodes (node.Enum is) v e h = absurd (cc e)
leaf_of d nodes _ v e h = λ f ns. h

-- a key is none of a node with types inside
part_key : (is : Bool) (d : ℕ) (nodes : List Node) (n : Node) (s : List ℕ) (v : Value) → is_leaf_node n ≡ is → is ≡ false → ((k : Vec ℕ Global) → n ≢ node.Enum k) → IsOfNode d nodes n v → AtTop (KeyMeansPlain s) v → ⊥
part_key is d nodes n s v e f g h m = by_top n (out-Value v) (e ∙ f) g h.1 m
  where
    by_top : (n : Node) (t : Value-F Value) → is_leaf_node n ≡ false → ((k : Vec ℕ Global) → n ≢ node.Enum k) → NodeHas (SchemaHas d nodes) n t → KeyMeansPlain s t → ⊥
    by_top (node.Option k) (Value-F.Absent) e g h m = m
    by_top (node.Option k) (Value-F.Present w) e g h m = m
    by_top (node.Option k) _ e g h m = h
    by_top (node.List k) (Value-F.List w) e g h m = m
    by_top (node.List k) _ e g h m = h
    by_top (node.ListUpTo n k) (Value-F.List w) e g h m = m
    by_top (node.ListUpTo n k) _ e g h m = h
    by_top (node.Array n k) (Value-F.Group w) e g h m = m
    by_top (node.Array n k) _ e g h m = h
    by_top (node.Struct is) (Value-F.Group w) e g h m = m
    by_top (node.Struct is) _ e g h m = h
    by_top (node.Enum is) t e g h m = g is refl
    by_top _ t e g h m = cc e

pub plain_key_none : (schema : Schema) (d : ℕ) (named : Names) (n : Node) (s : List ℕ) → ((k : Vec ℕ Global) → n ≢ node.Enum k) → NoneOf (InRange (IsOfLeaf n)) (AtTop (KeyMeansPlain s))
    → NoneOf (InRange (IsOfNode d schema.nodes.items n)) (AtTop (KeyMeansNode schema (Some named) (Some n) s))
plain_key_none schema d named n s f none v h m = by_kind (is_leaf_node n) refl
  where
    plain : (k : Node) (t : Value-F Value) → ((w : Vec ℕ Global) → k ≢ node.Enum w) → KeyMeansNode schema (Some named) (Some k) s t → KeyMeansPlain s t
    plain (node.Enum w) t g x = absurd (g w refl)
    plain _ t g x = x

    by_kind : (b : Bool) → is_leaf_node n ≡ b → ⊥
    by_kind true e = none v (leaf_of d schema.nodes.items n v e h.0, h.1) (plain n (out-Value v) f m)
    by_kind false e = part_key false d schema.nodes.items n s v e refl f h.0 (plain n (out-Value v) f m)

-- a number's node
pub number_node_none : (schema : Schema) (d : ℕ) (named : Names) (n : Node) (j : Json) → IsNumberNode n → ((k : IntegerType) → n ≡ node.LE k → is_float_named (Some named) ≡ false) → NoneOf (InRange (IsOfLeaf n)) (AtTop (MeansPlain j))
    → NoneOf (InRange (IsOfNode d schema.nodes.items n)) (AtTop (MeansNode schema (Some named) (Means schema d) (Some n) j))
number_node_none schema d named n j a f none v h m = none v (leaf_of d schema.nodes.items n v (number_is_leaf n a) h.0, h.1) (number_means schema named (Means schema d) n j (out-Value v) a f m)
  where
    number_is_leaf : (k : Node) → IsNumberNode k → is_leaf_node k ≡ true
    number_is_leaf (node.Option k) x = absurd x
    number_is_leaf (node.List k) x = absurd x
    number_is_leaf (node.ListUpTo n k) x = absurd x
    number_is_leaf (node.Array n k) x = absurd x
    number_is_leaf (node.Struct is) x = absurd x
    number_is_leaf (node.Enum is) x = absurd x
    number_is_leaf _ x = refl

pub no_float : (m : Names) → m ≢ names.Float → is_float_named (Some m) ≡ false
no_float names.Float f = absurd (f refl)
no_float _ f = refl

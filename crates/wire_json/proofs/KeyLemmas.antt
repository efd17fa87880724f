-- What is read from a printed key; and which variant has a name.
use Rattle.std.specs.Prelude.{◌≡◌, ◌<◌, ℕ, zero, suc, Bool, true, false, Option, Some, None, option_map, List, [], ◌∷◌, length, map, nat_lt, String, string_bytes, Box, if◌then◌else◌}
use Rattle.std.specs.Global.{Global}
use Rattle.std.specs.List.{slice_get, slice_index_or}
use Rattle.std.proofs.Common.{refl, sym, ap, ◌∙◌, subst, arith, rules, Vec}
use Rattle.std.proofs.lemmas.Bool.{ltb-true, ltb-false}
use Rattle.postcard_tree.specs.Tree.{byte, character, group, part, end, number, sequence, text_of}
use Rattle.schema_table.specs.declared.integer.IntegerType.{IntegerType}
use Rattle.schema_table.specs.declared.integer.IntegerType.TheVariants as integer
use Rattle.schema_table.specs.declared.node.Node.{Node}
use Rattle.schema_table.specs.declared.node.Node.TheVariants as node
use Rattle.schema_table.specs.declared.schema.Names.{Names}
use Rattle.schema_table.specs.declared.schema.Names.TheVariants as names
use Rattle.schema_table.specs.declared.schema.Schema.{Schema}
use Rattle.schema_table.specs.Telling.{names_at, node_at, IsFixedNames, NamesDiffer, TellsParts, NamesTellParts}
use Rattle.schema_table.specs.declared.value.Value.{Value, out-Value, the_lemmas}
use Rattle.schema_table.specs.declared.value.Value.TheOpen.{Value-F}
use Rattle.schema_table.specs.Schemas.{SchemaHas, NodeHas, PlaceHas, FieldsHave, PayloadHas}
use Rattle.schema_table.specs.Values.{tree_of, trees_in, AreOneTree}
use Rattle.wire_json.specs.InRange.{are_in_range, all_true}
use Rattle.schema_table.specs.Looks.{HasNoFields, is_empty_named, is_float_named, is_newtype_named, are_empty_named, variant_named, plain_key_node, key_node, key_type, key_within, asked_by, inside_of, only_field, only_part, only_value, typed_part, part_of, inside_part, inside_within, key_at, key_named, variant_key, plain_key, truth_key}
use Rattle.wire_json.specs.Meant.{IsNamed, MeansNumber, KeyMeansPlain, KeyMeansNode, KeyMeansBy, KeyMeans}
use Rattle.wire_json.specs.Refused.{IsNumberNode}
use Rattle.wire_json.proofs.LeafLemmas.{level, ranged, same_level, range_level, number_back, character_back, both_true}
use Rattle.wire_json.proofs.NullLemmas.{one_field}
use Rattle.wire_json.proofs.ParsedLemmas.{inside_struct}

-- values by their tops

pub group_tree : (v : Value) (w : Vec Value Global) → out-Value v ≡ Value-F.Group w → tree_of v ≡ group (trees_in w.items)
group_tree v w e = search (rules, the_lemmas)

pub group_range : (v : Value) (w : Vec Value Global) → out-Value v ≡ Value-F.Group w → are_in_range v ≡ all_true (map are_in_range w.items)
group_range v w e = search (rules, the_lemmas)

pub list_tree : (v : Value) (w : Vec Value Global) → out-Value v ≡ Value-F.List w → tree_of v ≡ sequence (trees_in w.items)
list_tree v w e = search (rules, the_lemmas)

pub list_range : (v : Value) (w : Vec Value Global) → out-Value v ≡ Value-F.List w → are_in_range v ≡ all_true (map are_in_range w.items)
list_range v w e = search (rules, the_lemmas)

-- which variant has a name

name_at : {A : Type 0} (ns : List (String A)) (n : ℕ) (s : List ℕ) → option_map string_bytes (slice_get ns n) ≡ Some s → (n < length (map string_bytes ns)) × (slice_index_or (map string_bytes ns) n [] ≡ s)
name_at [] n s e = absurd (cc e)
name_at (x ∷ ns) zero s e = (omega arith, cc)
name_at (x ∷ ns) (suc n) s e = let h = name_at ns n s e in (omega (arith, h.0), h.1)

pub one_variant : {A : Type 0} (ns : List (String A)) (n m : ℕ) (s : List ℕ) → NamesDiffer ns → option_map string_bytes (slice_get ns n) ≡ Some s → option_map string_bytes (slice_get ns m) ≡ Some s → n ≡ m
one_variant ns n m s d e f = by_order (nat_lt n m) (nat_lt m n) refl refl
  where
    a : (n < length (map string_bytes ns)) × (slice_index_or (map string_bytes ns) n [] ≡ s)
    a = name_at ns n s e

    b : (m < length (map string_bytes ns)) × (slice_index_or (map string_bytes ns) m [] ≡ s)
    b = name_at ns m s f

    by_order : (x y : Bool) → nat_lt n m ≡ x → nat_lt m n ≡ y → n ≡ m
    by_order true y g h = absurd (d n m [] (ltb-true n m g) b.0 (a.1 ∙ sym b.1))
    by_order false true g h = absurd (d m n [] (ltb-true m n h) a.0 (b.1 ∙ sym a.1))
    by_order false false g h = omega (arith, ltb-false n m g, ltb-false m n h)

-- a type that is called one without fields, has none
fixed_fields : (k : IntegerType) → IsFixedNames k names.Empty → ⊥
fixed_fields integer.U32 t = t
fixed_fields integer.U64 t = t
fixed_fields _ t = t

empty_node : (o : Option Node) (m : Option Names) (has : ℕ → Value → Type 0) (v : Value) → PlaceHas has o v → TellsParts o m → is_empty_named m ≡ true → HasNoFields o
empty_node None m has v h t e = absurd h
empty_node (Some n) None has v h t e = absurd t
empty_node (Some (node.Struct is)) (Some names.Empty) has v h t e = t
empty_node (Some (node.LE k)) (Some names.Empty) has v h t e = absurd (fixed_fields k t)
empty_node (Some _) (Some names.Empty) has v h t e = absurd t
empty_node (Some n) (Some _) has v h t e = absurd (cc e)

pub no_fields_at : (schema : Schema) (d k : ℕ) (v : Value) → NamesTellParts schema → is_empty_named (names_at schema k) ≡ true → SchemaHas d schema.nodes.items k v → HasNoFields (node_at schema k)
unfolding SchemaHas
no_fields_at schema zero k v t e h = absurd h
no_fields_at schema (suc d) k v t e h = empty_node (node_at schema k) (names_at schema k) (SchemaHas d schema.nodes.items) v h (t k) e

-- what a variant without fields holds
pub empty_tree : (schema : Schema) (d k : ℕ) (v : Value) → NamesTellParts schema → is_empty_named (names_at schema k) ≡ true → SchemaHas d schema.nodes.items k v → tree_of v ≡ group end
unfolding SchemaHas
empty_tree schema zero k v t e h = absurd h
empty_tree schema (suc d) k v t e h = of_node (node_at schema k) refl (empty_node (node_at schema k) (names_at schema k) (SchemaHas d schema.nodes.items) v h (t k) e)
  where
    no_parts : (is : List ℕ) (vs : List Value) → is ≡ [] → FieldsHave (SchemaHas d schema.nodes.items) is vs → trees_in vs ≡ end
    no_parts [] [] x f = refl
    no_parts [] (y ∷ vs) x f = absurd f
    no_parts (i ∷ is) vs x f = absurd (cc x)

    of_top : (is : Vec ℕ Global) (u : Value-F Value) → out-Value v ≡ u → is.items ≡ [] → NodeHas (SchemaHas d schema.nodes.items) (node.Struct is) u → tree_of v ≡ group end
    of_top is (Value-F.Group w) f x y = group_tree v w f ∙ ap group (no_parts is.items w.items x y)
    of_top is _ f x y = absurd y

    of_node : (o : Option Node) → node_at schema k ≡ o → HasNoFields (node_at schema k) → tree_of v ≡ group end
    of_node (Some (node.Struct is)) f x = of_top is (out-Value v) refl (subst HasNoFields f x) (subst (λ o. PlaceHas (SchemaHas d schema.nodes.items) o v) f h)
    of_node None f x = absurd (subst HasNoFields f x)
    of_node (Some _) f x = absurd (subst HasNoFields f x)

-- keys without parts

no_truth : (has : ℕ → Value → Type 0) (n : Node) (b : Bool) → IsNumberNode n → NodeHas has n (Value-F.Bool b) → ⊥
no_truth has node.Bool b l h = l
no_truth has _ b l h = h

no_character : (has : ℕ → Value → Type 0) (n : Node) (c : ℕ) → IsNumberNode n → NodeHas has n (Value-F.Char c) → ⊥
no_character has node.Char c l h = l
no_character has _ c l h = h

no_text : (has : ℕ → Value → Type 0) (n : Node) (s : _) → IsNumberNode n → NodeHas has n (Value-F.Text s) → ⊥
no_text has node.Text s l h = l
no_text has (node.TextUpTo m) s l h = l
no_text has _ s l h = h

key_number : (has : ℕ → Value → Type 0) (n : Node) (s : List ℕ) (u : Value-F Value) → IsNumberNode n → NodeHas has n u → KeyMeansPlain s u → MeansNumber s u
key_number has n s (Value-F.Bool b) l h m = absurd (no_truth has n b l h)
key_number has n s (Value-F.Char c) l h m = absurd (no_character has n c l h)
key_number has n s (Value-F.Text t) l h m = absurd (no_text has n t l h)
key_number has n s _ l h m = m

truth_back : (b c : Bool) → truth_key b ≡ truth_key c → b ≡ c
truth_back true true e = refl
truth_back false false e = refl
truth_back true false e = absurd (cc e)
truth_back false true e = absurd (cc e)

key_leaf : (has is : ℕ → Value → Type 0) (n : Node) (t u : Value-F Value) → plain_key_node n ≡ true → NodeHas has n t → NodeHas is n u → ranged t ≡ true → KeyMeansPlain (plain_key t) u → level t ≡ level u
key_leaf has is node.Bool (Value-F.Bool b) (Value-F.Bool c) p h k r m = ap (λ z. byte (if z then 1 else 0)) (truth_back b c m)
key_leaf has is node.Bool (Value-F.Bool b) _ p h k r m = absurd k
key_leaf has is node.Bool _ u p h k r m = absurd h
key_leaf has is node.Char (Value-F.Char a) (Value-F.Char b) p h k r m = ap character (character_back a b m)
key_leaf has is node.Char (Value-F.Char a) _ p h k r m = absurd k
key_leaf has is node.Char _ u p h k r m = absurd h
key_leaf has is node.Text (Value-F.Text a) (Value-F.Text b) p h k r m = ap text_of (sym m)
key_leaf has is node.Text (Value-F.Text a) _ p h k r m = absurd k
key_leaf has is node.Text _ u p h k r m = absurd h
key_leaf has is (node.TextUpTo n) (Value-F.Text a) (Value-F.Text b) p h k r m = ap text_of (sym m)
key_leaf has is (node.TextUpTo n) (Value-F.Text a) _ p h k r m = absurd k
key_leaf has is (node.TextUpTo n) _ u p h k r m = absurd h
key_leaf has is node.Bytes t u p h k r m = absurd (cc p)
key_leaf has is (node.Option i) t u p h k r m = absurd (cc p)
key_leaf has is (node.List i) t u p h k r m = absurd (cc p)
key_leaf has is (node.ListUpTo n i) t u p h k r m = absurd (cc p)
key_leaf has is (node.Array n i) t u p h k r m = absurd (cc p)
key_leaf has is (node.Struct i) t u p h k r m = absurd (cc p)
key_leaf has is (node.Enum i) t u p h k r m = absurd (cc p)
key_leaf has is n t u p h k r m = number_back has is n t u tt h k r (key_number is n (plain_key t) u tt k m)

-- variants as keys

pub payload_at : (has : ℕ → Value → Type 0) (is : List ℕ) (n : ℕ) (v : Value) → PayloadHas has is n v → (k : ℕ) × (slice_get is n ≡ Some k) × has k v
payload_at has [] n v h = absurd h
payload_at has (i ∷ is) zero v h = (i, refl, h)
payload_at has (i ∷ is) (suc n) v h = payload_at has is n v h

pub empty_at : (schema : Schema) (is : List ℕ) (n k : ℕ) → are_empty_named schema is ≡ true → slice_get is n ≡ Some k → is_empty_named (names_at schema k) ≡ true
empty_at schema [] n k h e = absurd (cc e)
empty_at schema (i ∷ is) zero k h e = subst (λ z. is_empty_named (names_at schema z) ≡ true) (cc) (both_true (is_empty_named (names_at schema i)) (are_empty_named schema is) h).0
empty_at schema (i ∷ is) (suc n) k h e = empty_at schema is n k (both_true (is_empty_named (names_at schema i)) (are_empty_named schema is) h).1 e

pub name_within : {A : Type 0} (ns : List (String A)) (n : ℕ) → n < length ns → (s : List ℕ) × (option_map string_bytes (slice_get ns n) ≡ Some s)
name_within [] n l = absurd (omega (arith, l))
name_within (x ∷ ns) zero l = (string_bytes x, refl)
name_within (x ∷ ns) (suc n) l = name_within ns n (omega (arith, l))

pub payload_within : (has : ℕ → Value → Type 0) (is : List ℕ) (n : ℕ) (v : Value) → PayloadHas has is n v → n < length is
payload_within has [] n v h = absurd h
payload_within has (i ∷ is) zero v h = omega arith
payload_within has (i ∷ is) (suc n) v h = omega (arith, payload_within has is n v h)

pub variant_tree : (v : Value) (n : ℕ) (x : Box Value Global) → out-Value v ≡ Value-F.Variant n x → tree_of v ≡ group (part (number 32 n) (part (tree_of x.value) end))
variant_tree v n x e = search (rules, the_lemmas)

pub variant_range : (v : Value) (n : ℕ) (x : Box Value Global) → out-Value v ≡ Value-F.Variant n x → are_in_range v ≡ are_in_range x.value
variant_range v n x e = search (rules, the_lemmas)

-- a key's name is that of one variant
same_variant : (m : Option Names) (is : Vec ℕ Global) (a b : ℕ) → TellsParts (Some (node.Enum is)) m → a < length is.items → variant_named m b ≡ Some (variant_key (variant_named m a) a) → a ≡ b
same_variant (Some (names.Variants ns)) is a b t l e =
    let name = name_within ns.items a (omega (arith, l, t.0)) in
    one_variant ns.items a b name.0 t.1 name.1 (e ∙ ap (λ o. Some (variant_key o a)) name.1)
same_variant None is a b t l e = absurd t
same_variant (Some _) is a b t l e = absurd t

enum_key : (schema : Schema) (d f i : ℕ) (is : Vec ℕ Global) (v w : Value) (t u : Value-F Value) → NamesTellParts schema → node_at schema i ≡ Some (node.Enum is) → are_empty_named schema is.items ≡ true → out-Value v ≡ t → out-Value w ≡ u
    → NodeHas (SchemaHas d schema.nodes.items) (node.Enum is) t → NodeHas (SchemaHas f schema.nodes.items) (node.Enum is) u → IsNamed schema (names_at schema i) is.items (key_named (names_at schema i) t) u → AreOneTree v w
enum_key schema d f i is v w (Value-F.Variant a x) (Value-F.Variant b y) t n z e g h k m =
    let has = SchemaHas d schema.nodes.items in
    let p = payload_at has is.items a x.value h in
    let q = payload_at (SchemaHas f schema.nodes.items) is.items b y.value k in
    let same : a ≡ b = same_variant (names_at schema i) is a b (subst (λ o. TellsParts o (names_at schema i)) n (t i)) (payload_within has is.items a x.value h) m.0.0 in
    let one : tree_of x.value ≡ group end = empty_tree schema d p.0 x.value t (empty_at schema is.items a p.0 z p.1) p.2 in
    let two : tree_of y.value ≡ group end = empty_tree schema f q.0 y.value t (empty_at schema is.items b q.0 z q.1) q.2 in
    variant_tree v a x e ∙ (ap (λ l. group (part (number 32 l) (part (tree_of x.value) end))) same ∙ ap (λ l. group (part (number 32 b) (part l end))) (one ∙ sym two)) ∙ sym (variant_tree w b y g)
enum_key schema d f i is v w (Value-F.Variant a x) _ t n z e g h k m = absurd k
enum_key schema d f i is v w _ u t n z e g h k m = absurd h

-- keys through newtypes

pub plain_named : (m : Option Names) (has : ℕ → Value → Type 0) (n : Node) (t : Value-F Value) → plain_key_node n ≡ true → NodeHas has n t → key_named m t ≡ plain_key t
plain_named m has n (Value-F.Variant a x) p h = absurd (no_variant n p h)
  where
    no_variant : (o : Node) → plain_key_node o ≡ true → NodeHas has o (Value-F.Variant a x) → ⊥
    no_variant (node.Enum is) q k = cc q
    no_variant _ q k = k
plain_named m has n _ p h = refl

-- of a type that is no newtype
key_here : (schema : Schema) (d f i : ℕ) (v w : Value) (o : Option Node) (named : Option Names) → NamesTellParts schema → node_at schema i ≡ o → names_at schema i ≡ named → key_node schema o ≡ true → are_in_range v ≡ true
    → PlaceHas (SchemaHas d schema.nodes.items) o v → PlaceHas (SchemaHas f schema.nodes.items) o w → KeyMeansNode schema named o (key_named named (out-Value v)) (out-Value w) → AreOneTree v w
key_here schema d f i v w None named t n q z r h k m = absurd (cc z)
key_here schema d f i v w (Some n) None t o q z r h k m = absurd m
key_here schema d f i v w (Some (node.Enum is)) (Some named) t n q z r h k m =
    enum_key schema d f i is v w (out-Value v) (out-Value w) t n z refl refl h k (subst (λ y. IsNamed schema y is.items (key_named y (out-Value v)) (out-Value w)) (sym q) m)
key_here schema d f i v w (Some n) (Some named) t e q z r h k m =
    same_level v w (key_leaf (SchemaHas d schema.nodes.items) (SchemaHas f schema.nodes.items) n (out-Value v) (out-Value w) z h k (range_level v r)
    (subst (λ s. KeyMeansPlain s (out-Value w)) (plain_named (Some named) (SchemaHas d schema.nodes.items) n (out-Value v) z h) m))

pub no_fields_inside : (schema : Schema) (o : Option Node) → key_node schema o ≡ true → only_field o ≡ None
no_fields_inside schema (Some (node.Struct is)) z = absurd (cc z)
no_fields_inside schema None z = refl
no_fields_inside schema (Some _) z = refl

pub not_float : (b : Bool) (c : Bool) → (if b then false else c) ≡ true → c ≡ true
not_float true c e = absurd (cc e)
not_float false c e = e

pub only_one : (v x : Value) (w : Vec Value Global) → out-Value v ≡ Value-F.Group w → w.items ≡ x ∷ [] → only_part (out-Value v) ≡ Some x
only_one v x w e f = ap only_part e ∙ ap only_value f

one_tree : (v x : Value) (w : Vec Value Global) → out-Value v ≡ Value-F.Group w → w.items ≡ x ∷ [] → tree_of v ≡ group (part (tree_of x) end)
one_tree v x w e f = group_tree v w e ∙ ap (λ vs. group (trees_in vs)) f

pub one_range : (v x : Value) (w : Vec Value Global) → out-Value v ≡ Value-F.Group w → w.items ≡ x ∷ [] → are_in_range v ≡ true → are_in_range x ≡ true
one_range v x w e f r = (both_true (are_in_range x) true (sym (ap (λ vs. all_true (map are_in_range vs)) f) ∙ (sym (group_range v w e) ∙ r))).0

pub inside_field : (b : Bool) (o : Option ℕ) (k : ℕ) → (if b then o else None) ≡ Some k → o ≡ Some k
inside_field true o k e = e
inside_field false o k e = absurd (cc e)

key_step : (schema : Schema) (n d f i : ℕ) (v w : Value) → NamesTellParts schema
    → ((k : ℕ) (x y : Value) → key_within n schema k ≡ true → SchemaHas d schema.nodes.items k x → SchemaHas f schema.nodes.items k y → are_in_range x ≡ true
    → KeyMeans schema f k (key_at schema (inside_within n schema k x)) y → AreOneTree x y)
    → asked_by (key_within n schema) (key_type schema i) (inside_of schema i) ≡ true → PlaceHas (SchemaHas d schema.nodes.items) (node_at schema i) v → PlaceHas (SchemaHas f schema.nodes.items) (node_at schema i) w → are_in_range v ≡ true
    → KeyMeansBy (inside_of schema i) (λ k x. KeyMeans schema f k (key_at schema (inside_part (inside_within n schema) (i, v) (part_of schema i v))) x)
    (λ x. KeyMeansNode schema (names_at schema i) (node_at schema i) (key_at schema (inside_part (inside_within n schema) (i, v) (part_of schema i v))) (out-Value x)) w → AreOneTree v w
key_step schema n d f i v w t inner z h k r m = by_inside (inside_of schema i) refl z m
  where
    key : List ℕ
    key = key_at schema (inside_part (inside_within n schema) (i, v) (part_of schema i v))

    by_inside : (o : Option ℕ) → inside_of schema i ≡ o → asked_by (key_within n schema) (key_type schema i) o ≡ true
        → KeyMeansBy o (λ l x. KeyMeans schema f l key x) (λ x. KeyMeansNode schema (names_at schema i) (node_at schema i) key (out-Value x)) w → AreOneTree v w
    by_inside None e y q =
        let plain = not_float (is_float_named (names_at schema i)) (key_node schema (node_at schema i)) y in
        let here : part_of schema i v ≡ None = ap (λ l. typed_part l (only_part (out-Value v))) (no_fields_inside schema (node_at schema i) plain) in
        key_here schema d f i v w (node_at schema i) (names_at schema i) t refl refl plain r h k
        (subst (λ l. KeyMeansNode schema (names_at schema i) (node_at schema i) (key_at schema (inside_part (inside_within n schema) (i, v) l)) (out-Value w)) here q)
    by_inside (Some l) e y q =
        let struct = inside_struct (is_newtype_named (names_at schema i)) (node_at schema i) l e in
        let one = one_field (SchemaHas d schema.nodes.items) (node_at schema i) l v struct h in
        let two = one_field (SchemaHas f schema.nodes.items) (node_at schema i) l w struct k in
        let here : part_of schema i v ≡ Some (l, one.1) =
        ap (λ o. typed_part o (only_part (out-Value v))) (inside_field (is_newtype_named (names_at schema i)) (only_field (node_at schema i)) l e) ∙ ap (typed_part (Some l)) (only_one v one.1 one.0 one.2 one.3) in
        let same : q.0 ≡ two.1 = (let g : Some q.0 ≡ Some two.1 = sym q.1 ∙ only_one w two.1 two.0 two.2 two.3 in cc) in
        let read : KeyMeans schema f l (key_at schema (inside_within n schema l one.1)) two.1 =
        subst (λ o. KeyMeans schema f l (key_at schema (inside_part (inside_within n schema) (i, v) o)) two.1) here (subst (λ x. KeyMeans schema f l key x) same q.2) in
        let back : tree_of one.1 ≡ tree_of two.1 = inner l one.1 two.1 y one.4 two.4 (one_range v one.1 one.0 one.2 one.3 r) read in
        one_tree v one.1 one.0 one.2 one.3 ∙ (ap (λ x. group (part x end)) back ∙ sym (one_tree w two.1 two.0 two.2 two.3))

-- what is read of a printed key
pub key_back : (schema : Schema) (n d f i : ℕ) (v w : Value) → NamesTellParts schema → key_within n schema i ≡ true → SchemaHas d schema.nodes.items i v → SchemaHas f schema.nodes.items i w → are_in_range v ≡ true
    → KeyMeans schema f i (key_at schema (inside_within n schema i v)) w → AreOneTree v w
unfolding key_within inside_within SchemaHas KeyMeans
key_back schema zero d f i v w t z h k r m = absurd (cc z)
key_back schema (suc n) zero f i v w t z h k r m = absurd h
key_back schema (suc n) (suc d) zero i v w t z h k r m = absurd k
key_back schema (suc n) (suc d) (suc f) i v w t z h k r m = key_step schema n d f i v w t (λ l x y a b c e g. key_back schema n d f l x y t a b c e g) z h k r m

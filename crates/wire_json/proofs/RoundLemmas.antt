-- What is read from what is printed of a value has its tree.
use Rattle.std.specs.Prelude.{◌≡◌, ◌+◌, ◌*◌, ◌≤◌, ◌&&◌, ℕ, zero, suc, Bool, true, false, Option, Some, None, List, [], ◌∷◌, ◌++◌, length, map, nat_lt, codes, decimal, fold, Box}
use Rattle.std.specs.Global.{Global}
use Rattle.std.specs.List.{slice_get}
use Rattle.std.proofs.Common.{refl, sym, ap, ◌∙◌, subst, arith, rules, inl, inr, Vec}
use Rattle.std.proofs.lemmas.List.{append-nil}
use Rattle.hex.specs.Hex.{encode_lower}
use Rattle.json.specs.Json.{Json, value as json_value, null, number, object, no_members, member}
use Rattle.json.specs.Lex.{tokens}
use Rattle.json.specs.Token.{Token, end_object}
use Rattle.json.specs.Print.{print, print_from, separator, ends, escape_byte, ArePrintableOrBad}
use Rattle.json.specs.Tree.{json_tokens, depth}
use Rattle.json.proofs.Numbered.{ArePrintableOrBad-tokens, value-HasNumbers}
use Rattle.json.proofs.Printed.Tokens.{tokens-print, print_from-append}
use Rattle.json.proofs.Printed.Trees.{value-json_tokens, ArePrintable-json_tokens}
use Rattle.json.proofs.Unique.Spelling.{value-json_tokens_back}
use Rattle.postcard_tree.specs.Tree.{byte, group, part, end, sequence}
use Rattle.postcard_tree.specs.Tree.{number as wire_number}
use Rattle.schema_table.specs.declared.node.Node.{Node}
use Rattle.schema_table.specs.declared.node.Node.TheVariants as node
use Rattle.schema_table.specs.declared.schema.Names.{Names}
use Rattle.schema_table.specs.declared.schema.Names.TheVariants as names
use Rattle.schema_table.specs.declared.schema.Schema.{Schema}
use Rattle.schema_table.specs.Telling.{names_at, node_at, TellsParts, NamesTellParts}
use Rattle.schema_table.specs.declared.value.Value.{Value, out-Value, the_lemmas}
use Rattle.schema_table.specs.declared.value.Value.TheOpen.{Value-F}
use Rattle.schema_table.specs.Integers.{little_tree_of}
use Rattle.schema_table.specs.Schemas.{SchemaHas, NodeHas, PlaceHas, AtTop, OfU8, OfOption, OfList, OfGroup, OfVariant, EachHas, FieldsHave, PayloadHas}
use Rattle.schema_table.specs.Values.{tree_of, trees_in, AreOneTree}
use Rattle.wire_json.specs.InRange.{are_bytes, are_in_range, all_true}
use Rattle.schema_table.specs.Looks.{IsPresentBy, is_byte_node, is_empty_named, is_float_named, is_map_named, null_within, pair_node, first_is_key, key_text, variant_named}
use Rattle.wire_json.specs.Meant.{AreBytes, IsHex, KeyMeans, Means, MeansElements, MeansEnum, MeansFields, MeansFixed, MeansHeld, MeansLine, MeansList, MeansNamed, MeansNode, MeansOption, MeansPlain, MeansStruct, chosen, field_json, or_null}
use Rattle.schema_table.specs.Printed.{IsJsonOf, byte_before, bytes_in, two_in, two_values, Shows, ShowsAll, ShowsChosen, ShowsElements, ShowsHeld, ShowsList, ShowsMap, ShowsNamed, ShowsNode, ShowsOption, ShowsPair, ShowsStruct, ShowsVariant, ShowsEnum, ShowsFixed, ShowsInteger}
use Rattle.wire_json.specs.RoundTrip.{ReadsPrinted, line_inside}
use Rattle.wire_json.proofs.LeafLemmas.{level, ranged, same_level, range_level, both_true, hex_back, bytes_in_range, leaf_back, float_back}
use Rattle.wire_json.proofs.NullLemmas.{null_shown}
use Rattle.wire_json.proofs.KeyLemmas.{group_tree, group_range, list_tree, list_range, variant_tree, variant_range, empty_tree, one_variant, key_back}
use Rattle.wire_json.proofs.ParsedLemmas.{IsStruct, pair_struct, byte_node}
use Rattle.wire_json.proofs.PartsLemmas.{ReadsBack, items_back, members_back, tuple_back, fields_back}

-- a value of the kinds of the type at a place, whose integers are in range
abbrev pub HasKinds : Schema → ℕ → ℕ → Value → Type 0
HasKinds schema d i v = SchemaHas d schema.nodes.items i v × (are_in_range v ≡ true)

pub each_fits : (has : Value → Type 0) (vs : List Value) → EachHas has vs → all_true (map are_in_range vs) ≡ true → EachHas (λ v. has v × (are_in_range v ≡ true)) vs
each_fits has [] h r = tt
each_fits has (v ∷ vs) h r = let both = both_true (are_in_range v) (all_true (map are_in_range vs)) r in ((h.0, both.0), each_fits has vs h.1 both.1)

pub fields_fit : (has : ℕ → Value → Type 0) (is : List ℕ) (vs : List Value) → FieldsHave has is vs → all_true (map are_in_range vs) ≡ true → FieldsHave (λ i v. has i v × (are_in_range v ≡ true)) is vs
fields_fit has [] [] h r = tt
fields_fit has [] (v ∷ vs) h r = absurd h
fields_fit has (i ∷ is) [] h r = absurd h
fields_fit has (i ∷ is) (v ∷ vs) h r = let both = both_true (are_in_range v) (all_true (map are_in_range vs)) r in ((h.0, both.0), fields_fit has is vs h.1 both.1)

-- bytes

byte_top : (d : ℕ) (nodes : List Node) (k : ℕ) (v : Value) → slice_get nodes k ≡ Some node.U8 → SchemaHas d nodes k v → AtTop OfU8 v
unfolding SchemaHas
byte_top zero nodes k v e h = absurd h
byte_top (suc d) nodes k v e h = subst (λ o. PlaceHas (SchemaHas d nodes) o v) e h

pub byte_tops : (d : ℕ) (nodes : List Node) (k : ℕ) (vs : List Value) → slice_get nodes k ≡ Some node.U8 → EachHas (SchemaHas d nodes k) vs → EachHas (AtTop OfU8) vs
byte_tops d nodes k [] e h = tt
byte_tops d nodes k (v ∷ vs) e h = (byte_top d nodes k v e h.0, byte_tops d nodes k vs e h.1)

pub byte_of : (v : Value) → AtTop OfU8 v → (b : ℕ) × (out-Value v ≡ Value-F.U8 b)
byte_of v h = of_top (out-Value v) refl h
  where
    of_top : (t : Value-F Value) → out-Value v ≡ t → OfU8 t → (b : ℕ) × (out-Value v ≡ Value-F.U8 b)
    of_top (Value-F.U8 b) e x = (b, e)
    of_top _ e x = absurd x

pub bytes_fit : (vs : List Value) → EachHas (AtTop OfU8) vs → all_true (map are_in_range vs) ≡ true → are_bytes (bytes_in vs) ≡ true
bytes_fit [] h r = refl
bytes_fit (v ∷ vs) h r =
    let both = both_true (are_in_range v) (all_true (map are_in_range vs)) r in
    let b = byte_of v h.0 in
    let one : nat_lt b.0 256 ≡ true = sym (ap ranged b.1) ∙ range_level v both.0 in
    rw b.1 (rw one (bytes_fit vs h.1 both.1))

byte_trees : (vs ws : List Value) → EachHas (AtTop OfU8) vs → AreBytes (bytes_in vs) ws → trees_in vs ≡ trees_in ws
byte_trees [] [] h m = refl
byte_trees [] (w ∷ ws) h m = absurd m
byte_trees (v ∷ vs) [] h m = let b = byte_of v h.0 in absurd (subst (λ t. AreBytes (byte_before t (bytes_in vs)) []) b.1 m)
byte_trees (v ∷ vs) (w ∷ ws) h m =
    let b = byte_of v h.0 in
    let q : (out-Value w ≡ Value-F.U8 b.0) × AreBytes (bytes_in vs) ws = subst (λ t. AreBytes (byte_before t (bytes_in vs)) (w ∷ ws)) b.1 m in
    let first : tree_of v ≡ tree_of w = same_level v w (ap level (b.1 ∙ sym q.0)) in
    ap (λ t. part t (trees_in vs)) first ∙ ap (part (tree_of w)) (byte_trees vs ws h.1 q.1)

-- elements

hex_trees : (d k : ℕ) (nodes : List Node) (vs ws : List Value) → slice_get nodes k ≡ Some node.U8 → EachHas (SchemaHas d nodes k) vs → all_true (map are_in_range vs) ≡ true
    → (bs : List ℕ) × IsHex (encode_lower (bytes_in vs)) bs × AreBytes bs ws → trees_in vs ≡ trees_in ws
hex_trees d k nodes vs ws e h r m =
    let tops = byte_tops d nodes k vs e h in
    let same = hex_back (bytes_in vs) m.0 (bytes_in_range (bytes_in vs) (bytes_fit vs tops r)) m.1 in
    byte_trees vs ws tops (subst (λ bs. AreBytes bs ws) (sym same) m.2)

elements_back : (schema : Schema) (hex : Bool) (d f k : ℕ) (shows : Value → Json → Type 0) (means : Json → Value → Type 0) → ((v w : Value) (j : Json) → HasKinds schema d k v → SchemaHas f schema.nodes.items k w → shows v j → means j w → AreOneTree v w)
    → (vs ws : List Value) (j : Json) → EachHas (SchemaHas d schema.nodes.items k) vs → EachHas (SchemaHas f schema.nodes.items k) ws → all_true (map are_in_range vs) ≡ true
    → ShowsElements hex (node_at schema k) shows vs j → MeansElements (node_at schema k) means j ws → trees_in vs ≡ trees_in ws
elements_back schema hex d f k shows means back vs ws j h l r s m = by_hex (hex && is_byte_node (node_at schema k)) refl s
  where
    by_hex : (b : Bool) → (hex && is_byte_node (node_at schema k)) ≡ b → ShowsAll b shows vs j → trees_in vs ≡ trees_in ws
    by_hex true e x = hex_trees d k schema.nodes.items vs ws (byte_node (node_at schema k) (both_true hex (is_byte_node (node_at schema k)) e).1) h r (subst (λ z. MeansElements (node_at schema k) means z ws) x m).1
    by_hex false e x =
        items_back (λ v. SchemaHas d schema.nodes.items k v × (are_in_range v ≡ true)) (SchemaHas f schema.nodes.items k) shows means back vs ws x.0 (each_fits (SchemaHas d schema.nodes.items k) vs h r) l x.2
        (subst (λ z. MeansElements (node_at schema k) means z ws) x.1 m)

-- pairs

pub two_fields : (has : ℕ → Value → Type 0) (n : Option Node) (p : ℕ × ℕ) (v : Value) → IsStruct (p.0 ∷ p.1 ∷ []) n → PlaceHas has n v
    → (w : Vec Value Global) × (x : Value) × (y : Value) × (out-Value v ≡ Value-F.Group w) × (w.items ≡ x ∷ y ∷ []) × has p.0 x × has p.1 y
two_fields has n p v s h = group_of (out-Value v) refl (subst (λ o. PlaceHas has o v) s.1 h)
  where
    two_of : (vs : List Value) → FieldsHave has (p.0 ∷ p.1 ∷ []) vs → (x : Value) × (y : Value) × (vs ≡ x ∷ y ∷ []) × has p.0 x × has p.1 y
    two_of (x ∷ y ∷ []) f = (x, y, refl, f.0, f.1.0)
    two_of [] f = absurd f
    two_of (x ∷ []) f = absurd f.1
    two_of (x ∷ y ∷ z ∷ vs) f = absurd f.1.1

    group_of : (t : Value-F Value) → out-Value v ≡ t → NodeHas has (node.Struct s.0) (out-Value v)
        → (w : Vec Value Global) × (x : Value) × (y : Value) × (out-Value v ≡ Value-F.Group w) × (w.items ≡ x ∷ y ∷ []) × has p.0 x × has p.1 y
    group_of (Value-F.Group w) e f =
        let o = two_of w.items (subst (λ is. FieldsHave has is w.items) s.2 (subst (NodeHas has (node.Struct s.0)) e f)) in
        (w, o.0, o.1, e, o.2, o.3, o.4)
    group_of _ e f = absurd (subst (NodeHas has (node.Struct s.0)) e f)

pub two_range : (v x y : Value) (w : Vec Value Global) → out-Value v ≡ Value-F.Group w → w.items ≡ x ∷ y ∷ [] → are_in_range v ≡ true → (are_in_range x ≡ true) × (are_in_range y ≡ true)
two_range v x y w e f r =
    let all : all_true (map are_in_range (x ∷ y ∷ [])) ≡ true = sym (ap (λ vs. all_true (map are_in_range vs)) f) ∙ (sym (group_range v w e) ∙ r) in
    let both = both_true (are_in_range x) (all_true (map are_in_range (y ∷ []))) all in
    (both.0, (both_true (are_in_range y) true both.1).0)

two_tree : (v x y : Value) (w : Vec Value Global) → out-Value v ≡ Value-F.Group w → w.items ≡ x ∷ y ∷ [] → tree_of v ≡ group (part (tree_of x) (part (tree_of y) end))
two_tree v x y w e f = group_tree v w e ∙ ap (λ vs. group (trees_in vs)) f

pub two_seen : (v x y : Value) (w : Vec Value Global) → out-Value v ≡ Value-F.Group w → w.items ≡ x ∷ y ∷ [] → two_values (out-Value v) ≡ Some (x, y)
two_seen v x y w e f = ap two_values e ∙ ap two_in f

pair_step : (schema : Schema) (hex : Bool) (d e f i : ℕ) (v w : Value) (m : List ℕ × Json) → NamesTellParts schema
    → ((k : ℕ) (x y : Value) (j : Json) → HasKinds schema d k x → SchemaHas f schema.nodes.items k y → Shows hex schema e k x j → Means schema f k None j y → AreOneTree x y) → first_is_key schema (pair_node (node_at schema i)) ≡ true
    → PlaceHas (SchemaHas d schema.nodes.items) (node_at schema i) v → PlaceHas (SchemaHas f schema.nodes.items) (node_at schema i) w → are_in_range v ≡ true
    → ShowsPair schema i (Shows hex schema e) v m → MeansHeld (KeyMeans schema f) (λ k. Means schema f k None) (pair_node (node_at schema i)) (two_values (out-Value w)) m.0 m.1 → AreOneTree v w
pair_step schema hex d e f i v w m t back z h l r s g = by_pair (pair_node (node_at schema i)) refl z s g
  where
    by_pair : (o : Option (ℕ × ℕ)) → pair_node (node_at schema i) ≡ o → first_is_key schema o ≡ true → ShowsHeld schema (Shows hex schema e) o (two_values (out-Value v)) m
        → MeansHeld (KeyMeans schema f) (λ k. Means schema f k None) o (two_values (out-Value w)) m.0 m.1 → AreOneTree v w
    by_pair None x y a b = absurd (cc y)
    by_pair (Some p) x y a b =
        let struct = pair_struct (node_at schema i) p x in
        let one = two_fields (SchemaHas d schema.nodes.items) (node_at schema i) p v struct h in
        let two = two_fields (SchemaHas f schema.nodes.items) (node_at schema i) p w struct l in
        let shown : (m.0 ≡ key_text schema p.0 one.1) × Shows hex schema e p.1 one.2 m.1 = subst (λ u. ShowsHeld schema (Shows hex schema e) (Some p) u m) (two_seen v one.1 one.2 one.0 one.3 one.4) a in
        let read : KeyMeans schema f p.0 m.0 two.1 × Means schema f p.1 None m.1 two.2 =
        subst (λ u. MeansHeld (KeyMeans schema f) (λ k. Means schema f k None) (Some p) u m.0 m.1) (two_seen w two.1 two.2 two.0 two.3 two.4) b in
        let ranges = two_range v one.1 one.2 one.0 one.3 one.4 r in
        let first : tree_of one.1 ≡ tree_of two.1 = key_back schema (length schema.nodes.items) d f p.0 one.1 two.1 t y one.5 two.5 ranges.0 (subst (λ k. KeyMeans schema f p.0 k two.1) shown.0 read.0) in
        let second : tree_of one.2 ≡ tree_of two.2 = back p.1 one.2 two.2 m.1 (one.6, ranges.1) two.6 shown.1 read.1 in
        two_tree v one.1 one.2 one.0 one.3 one.4
        ∙ (ap (λ k. group (part k (part (tree_of one.2) end))) first ∙ (ap (λ k. group (part (tree_of two.1) (part k end))) second ∙ sym (two_tree w two.1 two.2 two.0 two.3 two.4)))

-- structs

no_fields : (has is : ℕ → Value → Type 0) (m : Names) (j : Json) (means : ℕ → Json → Value → Type 0) → ((n : ℕ) → field_json m n j ≡ None) → (types : List ℕ) (vs ws : List Value) → FieldsHave has types vs → FieldsHave is types ws
    → MeansFields m j means 0 types ws → trees_in vs ≡ trees_in ws
no_fields has is m j means e [] [] [] h k x = refl
no_fields has is m j means e [] [] (w ∷ ws) h k x = absurd k
no_fields has is m j means e [] (v ∷ vs) ws h k x = absurd h
no_fields has is m j means e (i ∷ types) vs [] h k x = absurd k
no_fields has is m j means e (i ∷ types) vs (w ∷ ws) h k x = absurd (let g : None ≡ Some x.0.0 = sym (e 0) ∙ x.0.1 in cc g)

newtype_back : (has is : ℕ → Value → Type 0) (shows : ℕ → Value → Json → Type 0) (means : ℕ → Json → Value → Type 0) → ReadsBack has is shows means → (types : List ℕ) (vs ws : List Value) (j : Json) → length types ≤ 1 → FieldsHave has types vs
    → FieldsHave is types ws → ShowsNamed (Some names.Newtype) types shows vs j → MeansFields names.Newtype j means 0 types ws → trees_in vs ≡ trees_in ws
newtype_back has is shows means back [] [] [] j l h k s m = refl
newtype_back has is shows means back [] [] (w ∷ ws) j l h k s m = absurd k
newtype_back has is shows means back [] (v ∷ vs) ws j l h k s m = absurd h
newtype_back has is shows means back (i ∷ []) (v ∷ []) (w ∷ []) j l h k s m =
    let same : m.0.0 ≡ j = (let g : Some j ≡ Some m.0.0 = m.0.1 in cc) in
    ap (λ t. part t end) (back i v w j h.0 k.0 s (subst (λ z. means i z w) same m.0.2))
newtype_back has is shows means back (i ∷ []) [] ws j l h k s m = absurd h
newtype_back has is shows means back (i ∷ []) (v ∷ x ∷ vs) ws j l h k s m = absurd h.1
newtype_back has is shows means back (i ∷ []) (v ∷ []) [] j l h k s m = absurd k
newtype_back has is shows means back (i ∷ []) (v ∷ []) (w ∷ x ∷ ws) j l h k s m = absurd k.1
newtype_back has is shows means back (i ∷ x ∷ types) vs ws j l h k s m = absurd (omega (arith, l))

struct_back : (has is : ℕ → Value → Type 0) (shows : ℕ → Value → Json → Type 0) (means : ℕ → Json → Value → Type 0) → ReadsBack has is shows means → (m : Option Names) (types : Vec ℕ Global) (vs ws : List Value) (j : Json)
    → TellsParts (Some (node.Struct types)) m → FieldsHave has types.items vs → FieldsHave is types.items ws → ShowsNamed m types.items shows vs j → MeansStruct m types.items means j ws → trees_in vs ≡ trees_in ws
struct_back has is shows means back None types vs ws j t h k s m = absurd m
struct_back has is shows means back (Some names.Newtype) types vs ws j t h k s m = newtype_back has is shows means back types.items vs ws j t h k s m.2
struct_back has is shows means back (Some names.Tuple) types vs ws j t h k s m =
    tuple_back has is shows means back 0 [] types.items vs ws s.0 refl h k s.2 (subst (λ z. MeansFields names.Tuple z means 0 types.items ws) s.1 m.2)
struct_back has is shows means back (Some (names.Fields ns)) types vs ws j t h k s m =
    fields_back has is shows means back ns 0 [] ns.items types.items vs ws s.0 (λ y. ap (slice_get ns.items) (omega arith)) t.0 t.1 h k s.2 (subst (λ z. MeansFields (names.Fields ns) z means 0 types.items ws) s.1 m.2)
struct_back has is shows means back (Some n) types vs ws j t h k s m = no_fields has is n j means (λ y. refl) types.items vs ws h k m.2

-- options

pub present_tree : (v : Value) (x : Box Value Global) → out-Value v ≡ Value-F.Present x → tree_of v ≡ group (part (byte 1) (part (tree_of x.value) end))
present_tree v x e = search (rules, the_lemmas)

pub present_range : (v : Value) (x : Box Value Global) → out-Value v ≡ Value-F.Present x → are_in_range v ≡ are_in_range x.value
present_range v x e = search (rules, the_lemmas)

pub present_null : (b : Bool) (shows : Json → Type 0) → (b ≡ false → shows null → ⊥) → IsPresentBy b shows null → ⊥
present_null true shows f h = cc h.1
present_null false shows f h = f refl h

present_back : (b : Bool) (shows means : Json → Type 0) (P : Type 0) (j : Json) → ((k : Json) → shows k → means k → P) → IsPresentBy b shows j → IsPresentBy b means j → P
present_back true shows means P j f h k =
    let g : object (member (codes "Some") h.0 no_members) ≡ object (member (codes "Some") k.0 no_members) = sym h.1 ∙ k.1 in
    let same : k.0 ≡ h.0 = cc in
    f h.0 h.2 (subst means same k.2)
present_back false shows means P j f h k = f j h k

option_step : (schema : Schema) (hex : Bool) (d e f k : ℕ) (v w : Value) (j : Json) (t u : Value-F Value) → d ≤ e
    → ((x y : Value) (z : Json) → HasKinds schema d k x → SchemaHas f schema.nodes.items k y → Shows hex schema e k x z → Means schema f k None z y → AreOneTree x y) → out-Value v ≡ t → out-Value w ≡ u → are_in_range v ≡ true
    → OfOption (SchemaHas d schema.nodes.items k) t → OfOption (SchemaHas f schema.nodes.items k) u → ShowsOption hex schema k (Shows hex schema e k) t j → MeansOption schema k (Means schema f k None) j u → AreOneTree v w
option_step schema hex d e f k v w j Value-F.Absent Value-F.Absent l back a b r h g s m = same_level v w (ap level (a ∙ sym b))
option_step schema hex d e f k v w j Value-F.Absent (Value-F.Present y) l back a b r h g s m = absurd (m.0 s)
option_step schema hex d e f k v w j (Value-F.Present x) Value-F.Absent l back a b r h g s m =
    absurd (present_null (null_within (length schema.nodes.items) schema k) (Shows hex schema e k x.value) (λ n c. null_shown hex schema (length schema.nodes.items) d e k x.value n l h c)
    (subst (IsPresentBy (null_within (length schema.nodes.items) schema k) (Shows hex schema e k x.value)) m s))
option_step schema hex d e f k v w j (Value-F.Present x) (Value-F.Present y) l back a b r h g s m =
    let same : AreOneTree x.value y.value = present_back (null_within (length schema.nodes.items) schema k) (Shows hex schema e k x.value) (λ z. Means schema f k None z y.value) (AreOneTree x.value y.value) j
    (λ z c n. back x.value y.value z (h, sym (present_range v x a) ∙ r) g c n) s m.1 in
    present_tree v x a ∙ (ap (λ z. group (part (byte 1) (part z end))) same ∙ sym (present_tree w y b))
option_step schema hex d e f k v w j Value-F.Absent _ l back a b r h g s m = absurd g
option_step schema hex d e f k v w j (Value-F.Present x) _ l back a b r h g s m = absurd g
option_step schema hex d e f k v w j _ u l back a b r h g s m = absurd h

-- variants

pub apart_names : (m : Option Names) (types : Vec ℕ Global) (a b : ℕ) (s : List ℕ) → TellsParts (Some (node.Enum types)) m → variant_named m a ≡ Some s → variant_named m b ≡ Some s → a ≡ b
apart_names (Some (names.Variants ns)) types a b s t e f = one_variant ns.items a b s t.1 e f
apart_names None types a b s t e f = absurd t
apart_names (Some _) types a b s t e f = absurd t

payload_of : (has : ℕ → Value → Type 0) (types : List ℕ) (n k : ℕ) (v : Value) → slice_get types n ≡ Some k → PayloadHas has types n v → has k v
payload_of has [] n k v e h = absurd h
payload_of has (i ∷ types) zero k v e h = subst (λ z. has z v) (cc) h
payload_of has (i ∷ types) (suc n) k v e h = payload_of has types n k v e h

-- what is read of a variant of this name and this type
variant_inner : (schema : Schema) (hex : Bool) (d e f k : ℕ) (b : Bool) (s : List ℕ) (x y : Value) (j : Json) → NamesTellParts schema
    → ((z : Json) → Shows hex schema e k x z → Means schema f k None z y → AreOneTree x y) → is_empty_named (names_at schema k) ≡ b → SchemaHas d schema.nodes.items k x → SchemaHas f schema.nodes.items k y
    → ShowsChosen b s (Shows hex schema e k x) j → ((o : Option Json) → chosen j ≡ Some (s, o) → Means schema f k None (or_null o) y) → AreOneTree x y
variant_inner schema hex d e f k true s x y j t back n h l q m = empty_tree schema d k x t n h ∙ sym (empty_tree schema f k y t n l)
variant_inner schema hex d e f k false s x y j t back n h l q m = back q.0 q.2 (m (Some q.0) (ap chosen q.1))

-- the name that stands in the JSON
chosen_name : (b : Bool) (s : List ℕ) (kind : Json → Type 0) (j : Json) → ShowsChosen b s kind j → (o : Option Json) × (chosen j ≡ Some (s, o))
chosen_name true s kind j h = (None, ap chosen h)
chosen_name false s kind j h = (Some h.0, ap chosen h.1)

same_second : (p q : List ℕ × Option Json) → Some p ≡ Some q → p.1 ≡ q.1
same_second p q e = let f : p ≡ q = cc in ap (λ z. z.1) f

same_held : (s : List ℕ) (p q : Option Json) (c : Option (List ℕ × Option Json)) → c ≡ Some (s, p) → c ≡ Some (s, q) → p ≡ q
same_held s p q c e f = same_second (s, p) (s, q) (sym e ∙ f)

enum_step : (schema : Schema) (hex : Bool) (d e f i : ℕ) (types : Vec ℕ Global) (v w : Value) (j : Json) (t u : Value-F Value) → NamesTellParts schema → node_at schema i ≡ Some (node.Enum types)
    → ((k : ℕ) (x y : Value) (z : Json) → HasKinds schema d k x → SchemaHas f schema.nodes.items k y → Shows hex schema e k x z → Means schema f k None z y → AreOneTree x y) → out-Value v ≡ t → out-Value w ≡ u → are_in_range v ≡ true
    → OfVariant (PayloadHas (SchemaHas d schema.nodes.items) types.items) t → OfVariant (PayloadHas (SchemaHas f schema.nodes.items) types.items) u
    → ShowsEnum hex schema i types.items (Shows hex schema e) t j → MeansEnum schema (names_at schema i) types.items (λ k. Means schema f k None) (chosen j) u → AreOneTree v w
enum_step schema hex d e f i types v w j (Value-F.Variant n x) (Value-F.Variant m y) t o back a b r h g s c = by_name (variant_named (names_at schema i) n) (slice_get types.items n) refl refl s
  where
    no_number : (l : List ℕ) → j ≡ number l → ⊥
    no_number l z = subst (λ k. MeansEnum schema (names_at schema i) types.items (λ k. Means schema f k None) (chosen k) (Value-F.Variant m y)) z c

    by_name : (name : Option (List ℕ)) (type : Option ℕ) → variant_named (names_at schema i) n ≡ name → slice_get types.items n ≡ type → ShowsVariant schema name type n (Shows hex schema e) x.value j → AreOneTree v w
    by_name None type z l k = absurd (no_number (decimal n) k)
    by_name (Some name) None z l k = absurd (no_number (decimal n) k)
    by_name (Some name) (Some type) z l k =
        let at = chosen_name (is_empty_named (names_at schema type)) name (Shows hex schema e type x.value) j k in
        let read : MeansNamed schema (names_at schema i) types.items (λ k. Means schema f k None) name at.0 (Value-F.Variant m y) =
        subst (λ p. MeansEnum schema (names_at schema i) types.items (λ k. Means schema f k None) p (Value-F.Variant m y)) at.1 c in
        let same : n ≡ m = apart_names (names_at schema i) types n m name (subst (λ p. TellsParts p (names_at schema i)) o (t i)) z read.0.0 in
        let type_is : read.1.0 ≡ type = (let p : Some read.1.0 ≡ Some type = sym read.1.1 ∙ (ap (slice_get types.items) (sym same) ∙ l) in cc) in
        let held = payload_of (SchemaHas d schema.nodes.items) types.items n type x.value l h in
        let other = payload_of (SchemaHas f schema.nodes.items) types.items m type y.value (ap (slice_get types.items) (sym same) ∙ l) g in
        let inside : Means schema f type None (or_null at.0) y.value = subst (λ k'. Means schema f k' None (or_null at.0) y.value) type_is read.1.2.1 in
        let inner : tree_of x.value ≡ tree_of y.value =
        variant_inner schema hex d e f type (is_empty_named (names_at schema type)) name x.value y.value j t
        (λ p. back type x.value y.value p (held, sym (variant_range v n x a) ∙ r) other) refl held other k
        (λ p u. subst (λ z'. Means schema f type None (or_null z') y.value) (same_held name at.0 p (chosen j) at.1 u) inside) in
        variant_tree v n x a ∙ (ap (λ l'. group (part (wire_number 32 l') (part (tree_of x.value) end))) same ∙ (ap (λ l'. group (part (wire_number 32 m) (part l' end))) inner ∙ sym (variant_tree w m y b)))
enum_step schema hex d e f i types v w j (Value-F.Variant n x) _ t o back a b r h g s c = absurd g
enum_step schema hex d e f i types v w j _ u t o back a b r h g s c = absurd h

-- lists

list_step : (schema : Schema) (hex : Bool) (d e f i k : ℕ) (keys : Bool) (v w : Value) (j : Json) (t u : Value-F Value)
    → ((x y : Value) (z : Json) → HasKinds schema d k x → SchemaHas f schema.nodes.items k y → Shows hex schema e k x z → Means schema f k None z y → AreOneTree x y)
    → ((x y : Value) (m : List ℕ × Json) → first_is_key schema (pair_node (node_at schema k)) ≡ true → HasKinds schema d k x → SchemaHas f schema.nodes.items k y → ShowsPair schema k (Shows hex schema e) x m → Means schema f k (Some m.0) m.1 y → AreOneTree x y)
    → out-Value v ≡ t → out-Value w ≡ u → are_in_range v ≡ true → OfList (EachHas (SchemaHas d schema.nodes.items k)) t → OfList (EachHas (SchemaHas f schema.nodes.items k)) u
    → ShowsList hex schema i k (Shows hex schema e) t j → OfList (MeansList keys (node_at schema k) (Means schema f k None) (λ s. Means schema f k (Some s)) j) u → AreOneTree v w
list_step schema hex d e f i k keys v w j (Value-F.List x) (Value-F.List y) back pairs a b r h g s m =
    list_tree v x a ∙ (ap sequence (by_map (is_map_named (names_at schema i) && first_is_key schema (pair_node (node_at schema k))) refl s) ∙ sym (list_tree w y b))
  where
    one : all_true (map are_in_range x.items) ≡ true
    one = sym (list_range v x a) ∙ r

    -- what isn't an object is read by its elements
    no_object : (c : Bool) (z : Json) → ShowsAll c (Shows hex schema e k) x.items z → MeansList keys (node_at schema k) (Means schema f k None) (λ l. Means schema f k (Some l)) z y.items → MeansElements (node_at schema k) (Means schema f k None) z y.items
    no_object true z n l = subst (λ o. MeansElements (node_at schema k) (Means schema f k None) o y.items) (sym n) (subst (λ o. MeansList keys (node_at schema k) (Means schema f k None) (λ p. Means schema f k (Some p)) o y.items) n l)
    no_object false z n l = subst (λ o. MeansElements (node_at schema k) (Means schema f k None) o y.items) (sym n.1) (subst (λ o. MeansList keys (node_at schema k) (Means schema f k None) (λ p. Means schema f k (Some p)) o y.items) n.1 l)

    by_map : (c : Bool) → (is_map_named (names_at schema i) && first_is_key schema (pair_node (node_at schema k))) ≡ c → ShowsMap c hex schema k (Shows hex schema e) x.items j → trees_in x.items ≡ trees_in y.items
    by_map true n l =
        members_back (λ z. SchemaHas d schema.nodes.items k z × (are_in_range z ≡ true)) (SchemaHas f schema.nodes.items k) (ShowsPair schema k (Shows hex schema e)) (λ p. Means schema f k (Some p))
        (λ c p o. pairs c p o (both_true (is_map_named (names_at schema i)) (first_is_key schema (pair_node (node_at schema k))) n).1) x.items y.items l.0
        (each_fits (SchemaHas d schema.nodes.items k) x.items h one) g l.2
        (subst (λ o. MeansList keys (node_at schema k) (Means schema f k None) (λ p. Means schema f k (Some p)) o y.items) l.1 m).1
    by_map false n l = elements_back schema hex d f k (Shows hex schema e k) (Means schema f k None) back x.items y.items j h g one l (no_object (hex && is_byte_node (node_at schema k)) j l m)
list_step schema hex d e f i k keys v w j (Value-F.List x) _ back pairs a b r h g s m = absurd g
list_step schema hex d e f i k keys v w j _ u back pairs a b r h g s m = absurd h

-- arrays and structs

group_back : (v w : Value) (x y : Vec Value Global) → out-Value v ≡ Value-F.Group x → out-Value w ≡ Value-F.Group y → trees_in x.items ≡ trees_in y.items → AreOneTree v w
group_back v w x y a b h = group_tree v x a ∙ (ap group h ∙ sym (group_tree w y b))

pub all_in_range : (v : Value) (x : Vec Value Global) → out-Value v ≡ Value-F.Group x → are_in_range v ≡ true → all_true (map are_in_range x.items) ≡ true
all_in_range v x a r = sym (group_range v x a) ∙ r

array_step : (schema : Schema) (hex : Bool) (d e f k : ℕ) (v w : Value) (j : Json) (t u : Value-F Value)
    → ((x y : Value) (z : Json) → HasKinds schema d k x → SchemaHas f schema.nodes.items k y → Shows hex schema e k x z → Means schema f k None z y → AreOneTree x y) → out-Value v ≡ t → out-Value w ≡ u → are_in_range v ≡ true
    → OfGroup (EachHas (SchemaHas d schema.nodes.items k)) t → OfGroup (EachHas (SchemaHas f schema.nodes.items k)) u → ShowsFixed hex schema k (Shows hex schema e k) t j → OfGroup (MeansElements (node_at schema k) (Means schema f k None) j) u → AreOneTree v w
array_step schema hex d e f k v w j (Value-F.Group x) (Value-F.Group y) back a b r h g s m =
    group_back v w x y a b (elements_back schema hex d f k (Shows hex schema e k) (Means schema f k None) back x.items y.items j h g (all_in_range v x a r) s m)
array_step schema hex d e f k v w j (Value-F.Group x) _ back a b r h g s m = absurd g
array_step schema hex d e f k v w j _ u back a b r h g s m = absurd h

struct_step : (schema : Schema) (hex : Bool) (d e f : ℕ) (types : Vec ℕ Global) (m : Option Names) (v w : Value) (j : Json) (t u : Value-F Value) → TellsParts (Some (node.Struct types)) m
    → ((k : ℕ) (x y : Value) (z : Json) → HasKinds schema d k x → SchemaHas f schema.nodes.items k y → Shows hex schema e k x z → Means schema f k None z y → AreOneTree x y) → out-Value v ≡ t → out-Value w ≡ u → are_in_range v ≡ true
    → OfGroup (FieldsHave (SchemaHas d schema.nodes.items) types.items) t → OfGroup (FieldsHave (SchemaHas f schema.nodes.items) types.items) u → ShowsStruct hex m types.items (Shows hex schema e) t j
    → OfGroup (MeansStruct m types.items (λ k. Means schema f k None) j) u → AreOneTree v w
struct_step schema hex d e f types m v w j (Value-F.Group x) (Value-F.Group y) t back a b r h g s n =
    group_back v w x y a b (struct_back (λ k z. SchemaHas d schema.nodes.items k z × (are_in_range z ≡ true)) (SchemaHas f schema.nodes.items) (Shows hex schema e) (λ k. Means schema f k None)
    (λ k z o l c p. back k z o l c p) m types x.items y.items j t (fields_fit (SchemaHas d schema.nodes.items) types.items x.items h (all_in_range v x a r)) g s n)
struct_step schema hex d e f types m v w j (Value-F.Group x) _ t back a b r h g s n = absurd g
struct_step schema hex d e f types m v w j _ u t back a b r h g s n = absurd h

-- integers as their bytes, and floats

fixed_step : (schema : Schema) (hex : Bool) (d f : ℕ) (k : _) (b : Bool) (v w : Value) (j : Json) (t u : Value-F Value) → out-Value v ≡ t → out-Value w ≡ u → ranged t ≡ true
    → NodeHas (SchemaHas d schema.nodes.items) (node.LE k) t → NodeHas (SchemaHas f schema.nodes.items) (node.LE k) u → ShowsInteger b hex t j → MeansFixed b j u → level t ≡ level u
fixed_step schema hex d f k true v w j (Value-F.LE i) (Value-F.LE l) a b r h g s m = ap little_tree_of (sym (float_back i l j (h ∙ sym g) r s m))
fixed_step schema hex d f k true v w j (Value-F.LE i) _ a b r h g s m = absurd g
fixed_step schema hex d f k true v w j _ u a b r h g s m = absurd h
fixed_step schema hex d f k false v w j t u a b r h g s m =
    leaf_back (SchemaHas d schema.nodes.items) (SchemaHas f schema.nodes.items) hex (node.LE k) t u tt h g r (subst (λ z. MeansPlain z u) s m)

-- values of a node

node_step : (schema : Schema) (hex : Bool) (d e f i : ℕ) (v w : Value) (j : Json) (o : Option Node) (named : Option Names) → NamesTellParts schema → d ≤ e
    → ((k : ℕ) (x y : Value) (z : Json) → HasKinds schema d k x → SchemaHas f schema.nodes.items k y → Shows hex schema e k x z → Means schema f k None z y → AreOneTree x y)
    → ((k : ℕ) (x y : Value) (m : List ℕ × Json) → first_is_key schema (pair_node (node_at schema k)) ≡ true → HasKinds schema d k x → SchemaHas f schema.nodes.items k y → ShowsPair schema k (Shows hex schema e) x m
    → Means schema f k (Some m.0) m.1 y → AreOneTree x y) → node_at schema i ≡ o → names_at schema i ≡ named → are_in_range v ≡ true → PlaceHas (SchemaHas d schema.nodes.items) o v → PlaceHas (SchemaHas f schema.nodes.items) o w
    → ShowsNode hex schema i (Shows hex schema e) o (out-Value v) j → MeansNode schema named (Means schema f) o j (out-Value w) → AreOneTree v w
node_step schema hex d e f i v w j None named t l back pairs n q r h g s m = absurd h
node_step schema hex d e f i v w j (Some o) None t l back pairs n q r h g s m = absurd m
node_step schema hex d e f i v w j (Some (node.Option k)) (Some named) t l back pairs n q r h g s m = option_step schema hex d e f k v w j (out-Value v) (out-Value w) l (back k) refl refl r h g s m
node_step schema hex d e f i v w j (Some (node.List k)) (Some named) t l back pairs n q r h g s m =
    list_step schema hex d e f i k (is_map_named (Some named) && first_is_key schema (pair_node (node_at schema k))) v w j (out-Value v) (out-Value w) (back k) (pairs k) refl refl r h g s m
node_step schema hex d e f i v w j (Some (node.ListUpTo p k)) (Some named) t l back pairs n q r h g s m =
    list_step schema hex d e f i k (is_map_named (Some named) && first_is_key schema (pair_node (node_at schema k))) v w j (out-Value v) (out-Value w) (back k) (pairs k) refl refl r h g s m
node_step schema hex d e f i v w j (Some (node.Array p k)) (Some named) t l back pairs n q r h g s m = array_step schema hex d e f k v w j (out-Value v) (out-Value w) (back k) refl refl r h g s m
node_step schema hex d e f i v w j (Some (node.Struct types)) (Some named) t l back pairs n q r h g s m =
    struct_step schema hex d e f types (names_at schema i) v w j (out-Value v) (out-Value w) (subst (λ o. TellsParts o (names_at schema i)) n (t i)) back refl refl r h g s
    (subst (λ z. OfGroup (MeansStruct z types.items (λ k. Means schema f k None) j) (out-Value w)) (sym q) m)
node_step schema hex d e f i v w j (Some (node.Enum types)) (Some named) t l back pairs n q r h g s m =
    enum_step schema hex d e f i types v w j (out-Value v) (out-Value w) t n back refl refl r h g s
    (subst (λ z. MeansEnum schema z types.items (λ k. Means schema f k None) (chosen j) (out-Value w)) (sym q) m)
node_step schema hex d e f i v w j (Some (node.LE k)) (Some named) t l back pairs n q r h g s m =
    same_level v w (fixed_step schema hex d f k (is_float_named (names_at schema i)) v w j (out-Value v) (out-Value w) refl refl (range_level v r) h g s
    (subst (λ z. MeansFixed (is_float_named z) j (out-Value w)) (sym q) m))
node_step schema hex d e f i v w j (Some o) (Some named) t l back pairs n q r h g s m =
    same_level v w (leaf_back (SchemaHas d schema.nodes.items) (SchemaHas f schema.nodes.items) hex o (out-Value v) (out-Value w) tt h g (range_level v r) (subst (λ z. MeansPlain z (out-Value w)) s m))

mutual
  unfolding SchemaHas Shows Means

  -- what is read from what is printed of a value, has its tree
  pub value_back : (schema : Schema) (hex : Bool) (d e f i : ℕ) (v w : Value) (j : Json) → NamesTellParts schema → d ≤ e → HasKinds schema d i v → SchemaHas f schema.nodes.items i w → Shows hex schema e i v j → Means schema f i None j w → AreOneTree v w
  value_back schema hex zero e f i v w j t l h g s m = absurd h.0
  value_back schema hex (suc d) zero f i v w j t l h g s m = absurd (omega (arith, l))
  value_back schema hex (suc d) (suc e) zero i v w j t l h g s m = absurd g
  value_back schema hex (suc d) (suc e) (suc f) i v w j t l h g s m =
      node_step schema hex d e f i v w j (node_at schema i) (names_at schema i) t (omega (arith, l)) (λ k x y z a b. value_back schema hex d e f k x y z t (omega (arith, l)) a b)
      (λ k x y n z a b. pair_back schema hex d e f k x y n t (omega (arith, l)) z a b) refl refl h.1 h.0 g s m

  pair_back : (schema : Schema) (hex : Bool) (d e f i : ℕ) (v w : Value) (m : List ℕ × Json) → NamesTellParts schema → d ≤ e → first_is_key schema (pair_node (node_at schema i)) ≡ true → HasKinds schema d i v → SchemaHas f schema.nodes.items i w
      → ShowsPair schema i (Shows hex schema e) v m → Means schema f i (Some m.0) m.1 w → AreOneTree v w
  pair_back schema hex zero e f i v w m t l z h g s n = absurd h.0
  pair_back schema hex (suc d) e zero i v w m t l z h g s n = absurd g
  pair_back schema hex (suc d) e (suc f) i v w m t l z h g s n =
      pair_step schema hex d e f i v w m t (λ k x y j a b. value_back schema hex d e f k x y j t (omega (arith, l)) a b) z h.0 g h.1 s n

-- texts

same_first : (p q : Json × List Token) → Some p ≡ Some q → p.0 ≡ q.0
same_first p q e = let f : p ≡ q = cc in ap (λ z. z.0) f

one_json : (j k : Json) → json_tokens j ≡ json_tokens k → j ≡ k
one_json j k e =
    let n : ℕ = depth j + depth k in
    let a : json_value n (json_tokens j ++ []) ≡ Some (j, []) = value-json_tokens j n [] (omega arith) in
    let b : json_value n (json_tokens k ++ []) ≡ Some (k, []) = value-json_tokens k n [] (omega arith) in
    same_first (j, []) (k, []) (sym a ∙ (ap (λ t. json_value n (t ++ [])) e ∙ b))

-- the JSON that is read from a text
pub read_json : (text : List ℕ) (j k : Json) (n : ℕ) → IsJsonOf text j → json_value n (tokens text) ≡ Some (k, []) → j ≡ k
read_json text j k n e f = one_json j k (sym e ∙ (value-json_tokens_back n (tokens text) [] k f ∙ append-nil (json_tokens k)))

pub printed_back : (schema : Schema) (i : ℕ) → NamesTellParts schema → ReadsPrinted schema i
printed_back schema i t hex d f v w text h g s bare m = by_line m.1.2
  where
    same : s.0 ≡ m.1.0
    same = read_json text s.0 m.1.0 (2 * f + 2) s.2 m.1.1

    by_line : MeansLine schema f i m.1.0 w → AreOneTree v w
    by_line (inl x) = absurd (bare s.0 x.0 s.2 (same ∙ x.1))
    by_line (inr x) = value_back schema hex d d f i v w s.0 t (omega arith) (h.0.2, h.1) g.2 s.3 (subst (λ j. Means schema f i None j w) (sym same) x.1)

closed : (b : Bool) → separator b end_object ≡ []
closed true = refl
closed false = refl

-- the object with a printed text
object_text : (j : Json) → print (json_tokens (object (member (codes "value") j no_members))) ≡ line_inside (print (json_tokens j))
unfolding print_from escape_byte
object_text j =
    let more = print_from-append false (json_tokens j) (end_object ∷ []) in
    ap (λ t. codes "{\"value\":" ++ t) (more ∙ ap (λ t. print (json_tokens j) ++ (t ++ codes "}")) (closed (fold (λ _ u. ends u) false (json_tokens j))))

-- the JSON of a receiver's line
pub line_json : (text : List ℕ) (j : Json) → text ≡ print (json_tokens j) → IsJsonOf text j → IsJsonOf (line_inside text) (object (member (codes "value") j no_members))
line_json text j e h =
    let printable = subst ArePrintableOrBad h (ArePrintableOrBad-tokens text) in
    let numbers = value-HasNumbers (depth j) (json_tokens j ++ []) [] j (subst ArePrintableOrBad (sym (append-nil (json_tokens j))) printable) (value-json_tokens j (depth j) [] (omega arith)) in
    ap (λ t. tokens (line_inside t)) e ∙ (ap tokens (sym (object_text j)) ∙ tokens-print (json_tokens (object (member (codes "value") j no_members))) (ArePrintable-json_tokens (object (member (codes "value") j no_members)) (numbers, tt)))

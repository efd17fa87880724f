-- What was refused isn't meant: values without parts, and the looks at JSON.
use Rattle.std.specs.Prelude.{◌≡◌, ◌≢◌, ◌+◌, ◌-◌, ◌&&◌, ◌==◌, Box, ◌%◌, ◌⊎◌, if◌then◌else◌, option_map, zero, suc, nat_lt, get_or, ◌<◌, ◌≤◌, ℕ, Option, Some, None, length, Result, Ok, Err, String, string_bytes, encode_utf8, List, [], ◌∷◌, ◌++◌, Bool, true, false}
use Rattle.std.specs.Borrow.{Bor}
use Rattle.std.specs.List.{slice_get}
use Rattle.std.specs.Global.{Global, Vec}
use Rattle.std.proofs.Common.{below_more, drop, inl, inr, refl, sym, ap, ◌∙◌, subst, arith, rules}
use Rattle.std.proofs.Math.Nat.{eq-or-lt_of_le}
use Rattle.std.proofs.lemmas.Bool.{cases_lt}
use Rattle.std.proofs.lemmas.List.{append-nil, drop_more, length-append}
use Rattle.std.proofs.Math.ListN.{drop_of_length-le}
use Rattle.std.proofs.lemmas.Str.{encode_same, length-encode, len_utf8_bounds}
use Rattle.schema_table.specs.declared.node.Node.{Node}
use Rattle.schema_table.specs.declared.node.Node.TheVariants as node
use Rattle.schema_table.specs.declared.schema.Names.{Names}
use Rattle.schema_table.specs.declared.schema.Names.TheVariants as names
use Rattle.schema_table.specs.declared.schema.Schema.{Schema}
use Rattle.schema_table.specs.Telling.{node_at}
use Rattle.schema_table.specs.declared.value.Value.{Value, Text, Bytes, Group, U8, Variant, out-Value, roll-Value, the_lemmas}
use Rattle.schema_table.specs.declared.value.Value.TheOpen.{Value-F}
use Rattle.schema_table.specs.Schemas.{AtTop, EachHas, FieldsHave, NodeHas, OfVariant, PayloadHas, SchemaHas, SchemaTakes, TakesPayload, OfBool, OfChar, OfText, OfBytes}
use Rattle.schema_table.specs.Values.{tree_of}
use Rattle.postcard_tree.specs.Reading.{TakesTextUpTo, TakesVariant}
use Rattle.postcard_tree.specs.Tree.{Tree, end, group, number as number_tree, part, text_of}
use Rattle.hex.specs.Hex.{◌>>=◌, decode_pairs, pair_value}
use Rattle.hex.specs.declared.error.FromHexError.{FromHexError}
use Rattle.hex.specs.declared.error.FromHexError.TheVariants.{OddLength}
use Rattle.json.specs.Json.{Json, null, boolean, number, string, array, object, Items, Members, no_members, member}
use Rattle.json.specs.Value.{value_view, items_view, members_view}
use Rattle.json.specs.declared.value.Value as json
use Rattle.json.specs.declared.value.Value.TheOpen.{Value-F as Parsed-F}
use Rattle.wire_json.specs.InRange.{AreAllBytes, Fits, InRange, IsByte, are_bytes, are_in_range}
use Rattle.schema_table.specs.Looks.{HasNoFields, is_byte_node, variant_named}
use Rattle.wire_json.specs.Meant.{AreNamedOnce, AreBytes, AreBytesOf, AreNamed, HasMember, HasOnlyFields, HasShape, IsHex, IsIndexOf, IsNamed, IsOneOf, MeansByte, MeansBytes, MeansPlain, count_items, count_members}
use Rattle.wire_json.specs.Parsed.{IsOfEnum, IsOfLeaf, IsOfType}
use Rattle.wire_json.specs.Refused.{NoneOf}
use Rattle.wire_json.proofs.ParsedLemmas.{top_by, tree-Text, tree-Variant, each_counted, at_place, byte_node, each_byte, named_at, of_struct}

-- JSON that was read, by what it stands for

view_null : value_view {A = Global} json.Null ≡ null
view_null = search (rules, json.the_lemmas)

view_bool : (b : Bool) → value_view {A = Global} (json.Bool b) ≡ boolean b
view_bool b = search (rules, json.the_lemmas)

view_number : (s : Bor (List ℕ)) → value_view {A = Global} (json.Number s) ≡ number s.now
view_number s = search (rules, json.the_lemmas)

view_string : (s : Bor (List ℕ)) → value_view {A = Global} (json.String s) ≡ string s.now
view_string s = search (rules, json.the_lemmas)

view_array : (v : Vec (json.Value Global)) → value_view {A = Global} (json.Array v) ≡ array (items_view v.items)
view_array v = search (rules, json.the_lemmas)

view_object : (v : Vec (Bor (List ℕ) × json.Value Global)) → value_view {A = Global} (json.Object v) ≡ object (members_view v.items)
view_object v = search (rules, json.the_lemmas)

rolled : (j : json.Value Global) → json.roll-Value Global (json.out-Value Global j) ≡ j
rolled j = search (rules, json.the_lemmas)

-- what was read, if it stands for this
abbrev pub Stands : json.Value Global → Json → Type 0
Stands j null = j ≡ json.Null
Stands j (boolean b) = j ≡ json.Bool b
Stands j (number s) = (t : Bor (List ℕ)) × (j ≡ json.Number t) × (t.now ≡ s)
Stands j (string s) = (t : Bor (List ℕ)) × (j ≡ json.String t) × (t.now ≡ s)
Stands j (array js) = (v : Vec (json.Value Global)) × (j ≡ json.Array v) × (items_view v.items ≡ js)
Stands j (object ms) = (v : Vec (Bor (List ℕ) × json.Value Global)) × (j ≡ json.Object v) × (members_view v.items ≡ ms)

stands_by : (j k : json.Value Global) (v : Json) → k ≡ j → value_view k ≡ v → Stands k v → Stands j (value_view j)
stands_by j k v e f h = subst (λ x. Stands x (value_view x)) e (subst (Stands k) (sym f) h)

stands_top : (top : Parsed-F Global (json.Value Global)) → Stands (json.roll-Value Global top) (value_view (json.roll-Value Global top))
stands_top Parsed-F.Null = stands_by (json.roll-Value Global Parsed-F.Null) json.Null null (search (rules, json.the_lemmas)) view_null refl
stands_top (Parsed-F.Bool b) = stands_by (json.roll-Value Global (Parsed-F.Bool b)) (json.Bool b) (boolean b) (search (rules, json.the_lemmas)) (view_bool b) refl
stands_top (Parsed-F.Number s) = stands_by (json.roll-Value Global (Parsed-F.Number s)) (json.Number s) (number s.now) (search (rules, json.the_lemmas)) (view_number s) (s, refl, refl)
stands_top (Parsed-F.String s) = stands_by (json.roll-Value Global (Parsed-F.String s)) (json.String s) (string s.now) (search (rules, json.the_lemmas)) (view_string s) (s, refl, refl)
stands_top (Parsed-F.Array v) = stands_by (json.roll-Value Global (Parsed-F.Array v)) (json.Array v) (array (items_view v.items)) (search (rules, json.the_lemmas)) (view_array v) (v, refl, refl)
stands_top (Parsed-F.Object v) = stands_by (json.roll-Value Global (Parsed-F.Object v)) (json.Object v) (object (members_view v.items)) (search (rules, json.the_lemmas)) (view_object v) (v, refl, refl)

pub stands : (j : json.Value Global) → Stands j (value_view j)
stands j = subst (λ k. Stands k (value_view k)) (rolled j) (stands_top (json.out-Value Global j))

pub stands_as : (j : json.Value Global) (k : Json) → value_view j ≡ k → Stands j k
stands_as j k e = subst (Stands j) e (stands j)

-- values without parts

pub none_top : (n : Node) (means : Value-F Value → Type 0) → ((top : Value-F Value) → NodeHas (SchemaHas 0 []) n top → means top → ⊥) → NoneOf (InRange (IsOfLeaf n)) (AtTop means)
none_top n means f v of m = f (out-Value v) (of.0 0 []).1 m

bool_json : (j : Json) (top : Value-F Value) → OfBool top → MeansPlain j top → (b : Bool) × (j ≡ boolean b)
bool_json (boolean b) top of m = (b, refl)
bool_json j (Value-F.Bool b) of m = absurd m
bool_json j top of m = absurd of

pub no_bool : (j : json.Value Global) → ((b : Bool) → j ≢ json.Bool b) → NoneOf (InRange (IsOfLeaf node.Bool)) (AtTop (MeansPlain (value_view j)))
no_bool j f = none_top node.Bool (MeansPlain (value_view j)) (λ top of m. let k = bool_json (value_view j) top of m in f k.0 (stands_as j (boolean k.0) k.1))

char_json : (j : Json) (top : Value-F Value) → OfChar top → MeansPlain j top → (s : List ℕ) × (j ≡ string s)
char_json (string s) top of m = (s, refl)
char_json (number s) (Value-F.Char c) of m = absurd m
char_json j (Value-F.Char c) of m = absurd m
char_json j top of m = absurd of

text_json : (j : Json) (top : Value-F Value) → OfText top → MeansPlain j top → (s : List ℕ) × (j ≡ string s)
text_json (string s) top of m = (s, refl)
text_json (number s) (Value-F.Text c) of m = absurd m
text_json j (Value-F.Text c) of m = absurd m
text_json j top of m = absurd of

no_string : (j : json.Value Global) (k : (s : List ℕ) × (value_view j ≡ string s)) → ((s : Bor (List ℕ)) → j ≢ json.String s) → ⊥
no_string j k f = let e = stands_as j (string k.0) k.1 in f e.0 e.1

pub no_char : (j : json.Value Global) → ((s : Bor (List ℕ)) → j ≢ json.String s) → NoneOf (InRange (IsOfLeaf node.Char)) (AtTop (MeansPlain (value_view j)))
no_char j f = none_top node.Char (MeansPlain (value_view j)) (λ top of m. no_string j (char_json (value_view j) top of m) f)

pub no_text : (j : json.Value Global) → ((s : Bor (List ℕ)) → j ≢ json.String s) → NoneOf (InRange (IsOfLeaf node.Text)) (AtTop (MeansPlain (value_view j)))
no_text j f = none_top node.Text (MeansPlain (value_view j)) (λ top of m. no_string j (text_json (value_view j) top of m) f)

pub no_short_text : (n : ℕ) (j : json.Value Global) → ((s : Bor (List ℕ)) → j ≢ json.String s) → NoneOf (InRange (IsOfLeaf (node.TextUpTo n))) (AtTop (MeansPlain (value_view j)))
no_short_text n j f = none_top (node.TextUpTo n) (MeansPlain (value_view j)) (λ top of m. no_string j (text_json (value_view j) top of m) f)

-- a text that is too long

text_value : (t : String Global) → roll-Value (Value-F.Text t) ≡ Text t
text_value t = search (rules, the_lemmas)

pub value_rolled : (v : Value) → roll-Value (out-Value v) ≡ v
value_rolled v = search (rules, the_lemmas)

has_up_to : (n : ℕ) (t : String Global) → TakesTextUpTo n (tree_of (Text t)) → length (string_bytes t) ≤ n
has_up_to n t h = let k : TakesTextUpTo n (text_of (string_bytes t)) = subst (TakesTextUpTo n) (tree-Text t) h in omega (arith, k.1, each_counted (string_bytes t))

too_long : (n : ℕ) (s : List ℕ) (top : Value-F Value) → n < length s → OfText top → MeansPlain (string s) top → TakesTextUpTo n (tree_of (roll-Value top)) → ⊥
too_long n s (Value-F.Text t) l of m h =
    let k : TakesTextUpTo n (tree_of (Text t)) = subst (λ v. TakesTextUpTo n (tree_of v)) (text_value t) h in
    let e : length (string_bytes t) ≡ length s = ap length m in
    absurd (omega (arith, has_up_to n t k, e, l))
too_long n s top l of m h = absurd of

pub long_text : (n : ℕ) (s : List ℕ) → n < length s → NoneOf (InRange (IsOfLeaf (node.TextUpTo n))) (AtTop (MeansPlain (string s)))
long_text n s l v of m = too_long n s (out-Value v) l (of.0 0 []).1 m (subst (λ w. TakesTextUpTo n (tree_of w)) (sym (value_rolled v)) (of.0 0 []).0)

-- a text that isn't one character

char_spelled : (s : List ℕ) (top : Value-F Value) → OfChar top → MeansPlain (string s) top → (c : ℕ) × (s ≡ encode_utf8 c)
char_spelled s (Value-F.Char c) of m = (c, m)
char_spelled s top of m = absurd of

pub no_character : (s : List ℕ) → ((c : ℕ) → s ≢ encode_utf8 c) → NoneOf (InRange (IsOfLeaf node.Char)) (AtTop (MeansPlain (string s)))
no_character s f = none_top node.Char (MeansPlain (string s)) (λ top of m. let k = char_spelled s top of m in f k.0 k.1)

pub not_empty : (s : List ℕ) → length s ≡ 0 → (c : ℕ) → s ≢ encode_utf8 c
not_empty s l c e = let k : length s ≡ length (encode_utf8 c) = ap length e in absurd (omega (arith, l, k, length-encode c, (len_utf8_bounds c).0))

pub not_one_character : (s more rest : List ℕ) (a b c : ℕ) → s ≡ encode_utf8 a ++ more → more ≡ encode_utf8 b ++ rest → s ≢ encode_utf8 c
not_one_character s more rest a b c e f g =
    let same : encode_utf8 c ++ [] ≡ encode_utf8 a ++ more = append-nil (encode_utf8 c) ∙ (sym g ∙ e) in
    let none : [] ≡ more = (encode_same c a [] more same).1 in
    let k : length more ≡ length (encode_utf8 b ++ rest) = ap length f in
    absurd (omega (arith, k, ap length none, length-append (encode_utf8 b) rest, length-encode b, (len_utf8_bounds b).0))

-- arrays and objects

members_one : (ms : List (Bor (List ℕ) × json.Value Global)) (s : List ℕ) (k : Json) → members_view ms ≡ member s k no_members → length ms ≡ 1
members_one [] s k e = absurd (cc e)
members_one (m ∷ []) s k e = refl
members_one (m ∷ n ∷ ms) s k e = absurd (cc e)

pub object_seen : (j : json.Value Global) (v : Vec (Bor (List ℕ) × json.Value Global)) → j ≡ json.Object v → value_view j ≡ object (members_view v.items)
object_seen j v e = ap value_view e ∙ view_object v

pub array_seen : (j : json.Value Global) (v : Vec (json.Value Global)) → j ≡ json.Array v → value_view j ≡ array (items_view v.items)
array_seen j v e = ap value_view e ∙ view_array v

pub one_member : (j : json.Value Global) (v : Vec (Bor (List ℕ) × json.Value Global)) (s : List ℕ) (k : Json) → j ≡ json.Object v → value_view j ≡ object (member s k no_members) → length v.items ≡ 1
one_member j v s k e f = let h : object (members_view v.items) ≡ object (member s k no_members) = sym (object_seen j v e) ∙ f in members_one v.items s k (cc h)

-- bytes

both : (a b : Bool) → (a && b) ≡ true → (a ≡ true) × (b ≡ true)
both true b e = (refl, e)
both false b e = absurd (cc e)

kth_byte : (js : List (json.Value Global)) (i : ℕ) (d : json.Value Global) (bs : List ℕ) → i < length js → AreAllBytes bs → MeansBytes (items_view js) bs → (b : ℕ) × IsByte b × MeansByte (value_view (get_or js i d)) b
kth_byte [] i d bs l h m = absurd (omega (arith, l))
kth_byte (j ∷ js) i d [] l h m = absurd m
kth_byte (j ∷ js) zero d (b ∷ bs) l h m = (b, (both (nat_lt b 256) (are_bytes bs) h).0, m.0)
kth_byte (j ∷ js) (suc i) d (b ∷ bs) l h m = kth_byte js i d bs (omega (arith, l)) (both (nat_lt b 256) (are_bytes bs) h).1 m.1

pub no_bytes_at : (js : List (json.Value Global)) (i : ℕ) (x : json.Value Global) → i < length js → x ≡ get_or js i x → NoneOf IsByte (MeansByte (value_view x)) → NoneOf AreAllBytes (MeansBytes (items_view js))
no_bytes_at js i x l e f bs h m = let k = kth_byte js i x bs l h m in f k.0 k.1 (subst (λ y. MeansByte (value_view y) k.0) (sym e) k.2)

range_bytes : (w : Vec ℕ) → are_in_range (Bytes w) ≡ are_bytes w.items
range_bytes w = search (rules, the_lemmas)

bytes_value : (w : Vec ℕ) → roll-Value (Value-F.Bytes w) ≡ Bytes w
bytes_value w = search (rules, the_lemmas)

bytes_meant : (j : Json) (w : Vec ℕ) → MeansPlain j (Value-F.Bytes w) → AreBytesOf j w.items
bytes_meant null w m = m
bytes_meant (boolean b) w m = m
bytes_meant (number s) w m = m
bytes_meant (string s) w m = m
bytes_meant (array js) w m = m
bytes_meant (object ms) w m = m

bytes_top : (j : Json) (top : Value-F Value) → OfBytes top → MeansPlain j top → are_in_range (roll-Value top) ≡ true → (bs : List ℕ) × AreAllBytes bs × AreBytesOf j bs
bytes_top j (Value-F.Bytes w) of m h = (w.items, sym (range_bytes w) ∙ (sym (ap are_in_range (bytes_value w)) ∙ h), bytes_meant j w m)
bytes_top j top of m h = absurd of

pub no_bytes : (j : Json) → NoneOf AreAllBytes (AreBytesOf j) → NoneOf (InRange (IsOfLeaf node.Bytes)) (AtTop (MeansPlain j))
no_bytes j f v of m = let k = bytes_top j (out-Value v) (of.0 0 []).1 m (subst (λ w. are_in_range w ≡ true) (sym (value_rolled v)) of.1) in f k.0 k.1 k.2

-- values of types of a table

pub no_depth : (schema : Schema) (depth place : ℕ) (v : Value) → depth ≡ 0 → Fits schema depth place v → ⊥
unfolding SchemaTakes
no_depth schema zero place v e h = h.0.0
no_depth schema (suc depth) place v e h = absurd (omega (arith, e))

none_have : (has : ℕ → Value → Type 0) (is : List ℕ) (vs : List Value) → length is ≡ 0 → vs ≡ [] → FieldsHave has is vs
none_have has [] vs l e = subst (FieldsHave has []) (sym e) tt
none_have has (i ∷ is) vs l e = absurd (omega (arith, l))

pub empty_struct : (schema : Schema) (depth place : ℕ) (fields : Vec ℕ) (v : Vec Value) → depth ≢ 0 → node_at schema place ≡ Some (node.Struct fields) → length fields.items ≡ 0 → v.items ≡ [] → IsOfType depth schema.nodes.items place (Group v)
empty_struct schema depth place fields v d e l f =
    at_place depth schema.nodes.items place (node.Struct fields) (Group v) d e
    (of_struct (depth - 1) schema.nodes.items fields.items v (none_have (IsOfType (depth - 1) schema.nodes.items) fields.items v.items l f))

-- shapes of structs

count_view : (vs : List (json.Value Global)) → count_items (items_view vs) ≡ length vs
count_view [] = refl
count_view (v ∷ vs) = omega (arith, count_view vs)

pub tuple_shape : (named : Names) (n : ℕ) (j : json.Value Global) (v : Vec (json.Value Global)) → named ≡ names.Tuple → j ≡ json.Array v → length v.items ≡ n → HasShape named n (value_view j)
tuple_shape named n j v e f l = subst (λ m. HasShape m n (value_view j)) (sym e) (subst (HasShape names.Tuple n) (sym (array_seen j v f)) (count_view v.items ∙ l))

none_view : (ms : List (Bor (List ℕ) × json.Value Global)) → length ms ≡ 0 → members_view ms ≡ no_members
none_view [] l = refl
none_view (m ∷ ms) l = absurd (omega (arith, l))

pub fields_shape : (named : Names) (ns : Vec (String Global)) (n : ℕ) (j : json.Value Global) (v : Vec (Bor (List ℕ) × json.Value Global)) → named ≡ names.Fields ns → j ≡ json.Object v → (n ≡ 0 → length v.items ≡ 0) → HasShape named n (value_view j)
fields_shape named ns n j v e f l = subst (λ m. HasShape m n (value_view j)) (sym e) (subst (HasShape (names.Fields ns) n) (sym (object_seen j v f)) (λ z. none_view v.items (l z)))

misfit_tuple : (n : ℕ) (j : Json) → ((js : Items) → j ≡ array js → count_items js ≢ n) → HasShape names.Tuple n j → ⊥
misfit_tuple n (array js) f h = f js refl h
misfit_tuple n null f h = h
misfit_tuple n (boolean b) f h = h
misfit_tuple n (number s) f h = h
misfit_tuple n (string s) f h = h
misfit_tuple n (object ms) f h = h

misfit_fields : (ns : Vec (String Global)) (n : ℕ) (j : Json) → ((ms : Members) → j ≡ object ms → (n ≡ 0 → ms ≡ no_members) → ⊥) → HasShape (names.Fields ns) n j → ⊥
misfit_fields ns n (object ms) f h = f ms refl h
misfit_fields ns n null f h = h
misfit_fields ns n (boolean b) f h = h
misfit_fields ns n (number s) f h = h
misfit_fields ns n (string s) f h = h
misfit_fields ns n (array js) f h = h

-- without fields, or without names for them
pub misfit_plain : (named : Names) (n : ℕ) (j : json.Value Global) → named ≢ names.Newtype → named ≢ names.Tuple → ((ns : Vec (String Global)) → named ≢ names.Fields ns) → (named ≡ names.Unit → j ≢ json.Null) → (named ≡ names.Empty → j ≢ json.Null)
    → HasShape named n (value_view j) → ⊥
misfit_plain names.Newtype n j a b c d e h = a refl
misfit_plain names.Tuple n j a b c d e h = b refl
misfit_plain (names.Fields ns) n j a b c d e h = c ns refl
misfit_plain names.Unit n j a b c d e h = d refl (stands_as j null h)
misfit_plain names.Empty n j a b c d e h = e refl (stands_as j null h)
misfit_plain _ n j a b c d e h = h

pub tuple_miscounted : (named : Names) (n : ℕ) (j : json.Value Global) (v : Vec (json.Value Global)) → named ≡ names.Tuple → j ≡ json.Array v → length v.items ≢ n → HasShape named n (value_view j) → ⊥
tuple_miscounted named n j v e f l h =
    misfit_tuple n (value_view j) (λ js g k. let same : array js ≡ array (items_view v.items) = sym g ∙ array_seen j v f in
    let counted : count_items js ≡ count_items (items_view v.items) = ap count_items (cc same) in
    l (sym (count_view v.items) ∙ (sym counted ∙ k))) (subst (λ m. HasShape m n (value_view j)) e h)

pub tuple_no_array : (named : Names) (n : ℕ) (j : json.Value Global) → named ≡ names.Tuple → ((v : Vec (json.Value Global)) → j ≢ json.Array v) → HasShape named n (value_view j) → ⊥
tuple_no_array named n j e f h = misfit_tuple n (value_view j) (λ js g k. let s = stands_as j (array js) g in f s.0 s.1) (subst (λ m. HasShape m n (value_view j)) e h)

view_none : (ms : List (Bor (List ℕ) × json.Value Global)) → members_view ms ≡ no_members → length ms ≡ 0
view_none [] e = refl
view_none (m ∷ ms) e = absurd (cc e)

pub fields_left : (named : Names) (ns : Vec (String Global)) (n : ℕ) (j : json.Value Global) (v : Vec (Bor (List ℕ) × json.Value Global)) → named ≡ names.Fields ns → j ≡ json.Object v → n ≡ 0 → length v.items ≢ 0 → HasShape named n (value_view j) → ⊥
fields_left named ns n j v e f z l h =
    misfit_fields ns n (value_view j) (λ ms g k. let same : object ms ≡ object (members_view v.items) = sym g ∙ object_seen j v f in
    l (view_none v.items (cc (same, k z)))) (subst (λ m. HasShape m n (value_view j)) e h)

pub fields_no_object : (named : Names) (ns : Vec (String Global)) (n : ℕ) (j : json.Value Global) → named ≡ names.Fields ns → ((v : Vec (Bor (List ℕ) × json.Value Global)) → j ≢ json.Object v) → HasShape named n (value_view j) → ⊥
fields_no_object named ns n j e f h = misfit_fields ns n (value_view j) (λ ms g k. let s = stands_as j (object ms) g in f s.0 s.1) (subst (λ m. HasShape m n (value_view j)) e h)

-- names

pub one_of_here : (s : List ℕ) (ns : List (String Global)) (i : ℕ) (n : String Global) → i < length ns → n ≡ get_or ns i n → string_bytes n ≡ s → IsOneOf s ns
one_of_here s [] i n l e f = absurd (omega (arith, l))
one_of_here s (m ∷ ns) zero n l e f = inl (ap string_bytes (sym e) ∙ f)
one_of_here s (m ∷ ns) (suc i) n l e f = inr (one_of_here s ns i n (omega (arith, l)) e f)

one_of_rest : (s : List ℕ) (n : String Global) (ns : List (String Global)) → string_bytes n ≢ s → IsOneOf s (n ∷ ns) → IsOneOf s ns
one_of_rest s n ns f (inl e) = absurd (f e)
one_of_rest s n ns f (inr h) = h

-- none of the first i names is it
pub one_of_more : (s : List ℕ) (ns : List (String Global)) (i : ℕ) (n : String Global) → i < length ns → n ≡ get_or ns i n → string_bytes n ≢ s → (IsOneOf s ns → IsOneOf s (drop i ns)) → IsOneOf s ns → IsOneOf s (drop (i + 1) ns)
one_of_more s ns i n l e f h k =
    let same : drop i ns ≡ n ∷ drop (i + 1) ns = drop_more ns i n l ∙ ap (λ m. m ∷ drop (i + 1) ns) (sym e) in
    one_of_rest s n (drop (i + 1) ns) f (subst (IsOneOf s) same (h k))

-- the names of members

pub member_here : (s : List ℕ) (ms : List (Bor (List ℕ) × json.Value Global)) (i : ℕ) (m : Bor (List ℕ) × json.Value Global) → i < length ms → m ≡ get_or ms i m → m.0.now ≡ s → HasMember s (members_view ms)
member_here s [] i m l e f = absurd (omega (arith, l))
member_here s (n ∷ ms) zero m l e f = inl (ap (λ x. x.0.now) (sym e) ∙ f)
member_here s (n ∷ ms) (suc i) m l e f = inr (member_here s ms i m (omega (arith, l)) e f)

member_rest : (s t : List ℕ) (k : Json) (ms : Members) → t ≢ s → HasMember s (member t k ms) → HasMember s ms
member_rest s t k ms f (inl e) = absurd (f e)
member_rest s t k ms f (inr h) = h

pub member_more : (s : List ℕ) (ms : List (Bor (List ℕ) × json.Value Global)) (i : ℕ) (m : Bor (List ℕ) × json.Value Global) → i < length ms → m ≡ get_or ms i m → m.0.now ≢ s
    → (HasMember s (members_view ms) → HasMember s (members_view (drop i ms))) → HasMember s (members_view ms) → HasMember s (members_view (drop (i + 1) ms))
member_more s ms i m l e f h k =
    let same : drop i ms ≡ m ∷ drop (i + 1) ms = drop_more ms i m l ∙ ap (λ n. n ∷ drop (i + 1) ms) (sym e) in
    member_rest s m.0.now (value_view m.1) (members_view (drop (i + 1) ms)) f (subst (λ x. HasMember s (members_view x)) same (h k))

-- bytes as values

no_hex : (s bs : List ℕ) → length s ≡ 0 → IsHex s bs → bs ≡ []
unfolding decode_pairs
no_hex [] bs l h = cc h
no_hex (c ∷ s) bs l h = absurd (omega (arith, l))

pair_decoded : (odd : Bool) (r : Result ℕ FromHexError) (q : Result (List ℕ) FromHexError) → (if odd then Err OddLength else (r >>= (λ b. q >>= (λ bs. Ok (b ∷ bs))))) ≢ Ok []
pair_decoded true r q e = absurd (cc e)
pair_decoded false (Err x) q e = absurd (cc e)
pair_decoded false (Ok b) (Err x) e = absurd (cc e)
pair_decoded false (Ok b) (Ok bs) e = absurd (cc e)

some_hex : (s : List ℕ) → IsHex s [] → length s ≡ 0
unfolding decode_pairs
some_hex [] h = refl
some_hex (c ∷ []) h = absurd (cc h)
some_hex (c ∷ d ∷ s) h = absurd (pair_decoded (length (c ∷ d ∷ s) % 2 == 1) (pair_value c d 0) (decode_pairs 2 s) h)

pub no_digits : (schema : Schema) (depth place : ℕ) (s bs : List ℕ) (vs : List Value) → depth ≡ 0 → length s ≢ 0 → EachHas (Fits schema depth place) vs → IsHex s bs → AreBytes bs vs → ⊥
no_digits schema depth place s [] [] d l fit h m = l (some_hex s h)
no_digits schema depth place s [] (v ∷ vs) d l fit h m = m
no_digits schema depth place s (b ∷ bs) [] d l fit h m = m
no_digits schema depth place s (b ∷ bs) (v ∷ vs) d l fit h m = no_depth schema depth place v d fit.0

byte_value : (b : ℕ) → roll-Value (Value-F.U8 b) ≡ U8 b
byte_value b = search (rules, the_lemmas)

byte_range : (b : ℕ) → are_in_range (U8 b) ≡ nat_lt b 256
byte_range b = search (rules, the_lemmas)

pub and_true : (a b : Bool) → a ≡ true → b ≡ true → (a && b) ≡ true
and_true a b e f = rw e f

pub bytes_fit : (schema : Schema) (depth place : ℕ) (bs : List ℕ) (vs : List Value) → EachHas (Fits schema depth place) vs → AreBytes bs vs → AreAllBytes bs
bytes_fit schema depth place [] [] fit m = refl
bytes_fit schema depth place [] (v ∷ vs) fit m = absurd m
bytes_fit schema depth place (b ∷ bs) [] fit m = absurd m
bytes_fit schema depth place (b ∷ bs) (v ∷ vs) fit m =
    let same : v ≡ U8 b = sym (value_rolled v) ∙ (ap roll-Value m.0 ∙ byte_value b) in
    let here : nat_lt b 256 ≡ true = sym (byte_range b) ∙ (sym (ap are_in_range same) ∙ fit.0.1) in
    and_true (nat_lt b 256) (are_bytes bs) here (bytes_fit schema depth place bs vs fit.1 m.1)

pub digits_of_type : (schema : Schema) (depth place : ℕ) (s bs : List ℕ) (vs : List Value) → is_byte_node (node_at schema place) ≡ true → (depth ≡ 0 → length s ≡ 0) → IsHex s bs → AreBytes bs vs → EachHas (IsOfLeaf node.U8) vs
    → EachHas (IsOfType depth schema.nodes.items place) vs
digits_of_type schema depth place s bs [] e d h m of = tt
digits_of_type schema zero place s bs (v ∷ vs) e d h m of = absurd (subst (λ x. AreBytes x (v ∷ vs)) (no_hex s bs (d refl) h) m)
digits_of_type schema (suc depth) place s bs (v ∷ vs) e d h m of = each_byte (suc depth) schema.nodes.items place (v ∷ vs) (λ z. omega (arith, z)) (byte_node (node_at schema place) e) of

-- variants by their names

pub not_named : (named : Names) (v : Vec (String Global)) (n : ℕ) (s : String Global) (w : List ℕ) → named ≡ names.Variants v → slice_get v.items n ≡ Some s → string_bytes s ≢ w → variant_named (Some named) n ≢ Some w
not_named named v n s w e f g h = let k : Some (string_bytes s) ≡ Some w = sym (named_at named v n s (string_bytes s) e f refl) ∙ h in g (cc k)

past_end : (ns : List (String Global)) (n : ℕ) → length ns ≤ n → slice_get ns n ≡ None
past_end [] n l = refl
past_end (m ∷ ns) zero l = absurd (omega (arith, l))
past_end (m ∷ ns) (suc n) l = past_end ns n (omega (arith, l))

pub unnamed : (named : Names) (v : Vec (String Global)) (n : ℕ) (w : List ℕ) → named ≡ names.Variants v → length v.items ≤ n → variant_named (Some named) n ≢ Some w
unnamed named v n w e l h =
    let none : variant_named (Some named) n ≡ None = ap (λ m. variant_named (Some m) n) e ∙ ap (option_map string_bytes) (past_end v.items n l) in
    absurd (cc (none, h))

-- what holds of each number so far, and of the next
pub below_next : (P : ℕ → Type 0) (i j : ℕ) → j ≡ i + 1 → ((m : ℕ) → m < i → P m) → P i → (m : ℕ) → m < j → P m
below_next P i j e h k m l = below_more P i h k m (omega (arith, e, l))

-- the same, if the numbers end there
pub none_below : (P : ℕ → Type 0) (i n k : ℕ) → (i + 1 < k → ⊥) → ((m : ℕ) → m < i → P m) → P i → n < k → P n
none_below P i n k f h here l = below_more P i h here n (omega (arith, f, l))

-- variants without fields, by a key

at_index : (is : List ℕ) (n : ℕ) → n < length is → slice_get is n ≡ Some (get_or is n 0)
at_index [] n l = absurd (omega (arith, l))
at_index (i ∷ is) zero l = refl
at_index (i ∷ is) (suc n) l = at_index is n (omega (arith, l))

pub named_key : (schema : Schema) (named : Option Names) (is s : List ℕ) (n : ℕ) (v : Box Value Global) → IsIndexOf named s n → n < length is → HasNoFields (node_at schema (get_or is n 0)) → AtTop (IsNamed schema named is s) (Variant n v)
named_key schema named is s n v h l k = top_by (IsNamed schema named is s) (Variant n v) (Value-F.Variant n v) (search (rules, the_lemmas)) (h, (get_or is n 0, at_index is n l, k))

pub first_index : (named : Option Names) (s : List ℕ) (m n : ℕ) → IsIndexOf named s m → IsIndexOf named s n → m ≡ n
first_index named s m n h k = go (cases_lt m n)
  where
    last : (n ≡ m) ⊎ (n < m) → m ≡ n
    last (inl e) = sym e
    last (inr l) = absurd (h.1 n l k.0)

    go : (m < n) ⊎ (n ≤ m) → m ≡ n
    go (inl l) = absurd (k.1 m l h.0)
    go (inr l) = last (eq-or-lt_of_le l)

payload_takes : (takes : ℕ → Tree → Type 0) (is : List ℕ) (n k : ℕ) (t : Tree) → slice_get is n ≡ Some k → TakesPayload takes is n t → takes k t
payload_takes takes [] n k t e h = absurd h
payload_takes takes (i ∷ is) zero k t e h = let same : i ≡ k = cc e in subst (λ x. takes x t) same h
payload_takes takes (i ∷ is) (suc n) k t e h = payload_takes takes is n k t e h

payload_of : (has : ℕ → Value → Type 0) (is : List ℕ) (n k : ℕ) (v : Value) → slice_get is n ≡ Some k → PayloadHas has is n v → has k v
payload_of has [] n k v e h = absurd h
payload_of has (i ∷ is) zero k v e h = let same : i ≡ k = cc e in subst (λ x. has x v) same h
payload_of has (i ∷ is) (suc n) k v e h = payload_of has is n k v e h

pub variant_value : (n : ℕ) (w : Box Value Global) → roll-Value (Value-F.Variant n w) ≡ Variant n w
variant_value n w = search (rules, the_lemmas)

variant_range : (n : ℕ) (w : Box Value Global) → are_in_range (Variant n w) ≡ are_in_range w.value
variant_range n w = search (rules, the_lemmas)

-- what a variant of an enum holds is of its type
pub held_fits : (schema : Schema) (depth : ℕ) (is : List ℕ) (n k : ℕ) (w : Box Value Global) → InRange (IsOfEnum depth schema.nodes.items is) (Variant n w) → slice_get is n ≡ Some k → Fits schema depth k w.value
held_fits schema depth is n k w h e =
    let nodes = schema.nodes.items in
    let opened : out-Value (Variant n w) ≡ Value-F.Variant n w = search (rules, the_lemmas) in
    let takes : TakesVariant (TakesPayload (SchemaTakes depth nodes) is) (group (part (number_tree 32 n) (part (tree_of w.value) end))) = subst (TakesVariant (TakesPayload (SchemaTakes depth nodes) is)) (tree-Variant n w) h.0.0 in
    let has : PayloadHas (SchemaHas depth nodes) is n w.value = subst (OfVariant (PayloadHas (SchemaHas depth nodes) is)) opened h.0.1 in
    ((payload_takes (SchemaTakes depth nodes) is n k (tree_of w.value) e takes.2, refl, payload_of (SchemaHas depth nodes) is n k w.value e has), sym (variant_range n w) ∙ h.1)

-- none is meant, since none of its parts could be
named_top : (schema : Schema) (named : Option Names) (is s : List ℕ) (kind : Value → Type 0) (top : Value-F Value) → IsNamed schema named is s top → kind (roll-Value top)
    → (n : ℕ) × (w : Box Value Global) × kind (Variant n w) × IsNamed schema named is s (Value-F.Variant n w)
named_top schema named is s kind (Value-F.Variant n w) m h = (n, w, subst kind (variant_value n w) h, m)
named_top schema named is s kind top m h = absurd m

pub no_named : (schema : Schema) (named : Option Names) (is s : List ℕ) (kind : Value → Type 0) → ((n : ℕ) (w : Box Value Global) → kind (Variant n w) → IsNamed schema named is s (Value-F.Variant n w) → ⊥) → NoneOf kind (AtTop (IsNamed schema named is s))
no_named schema named is s kind f v of m = let k = named_top schema named is s kind (out-Value v) m (subst kind (sym (value_rolled v)) of) in f k.0 k.1 k.2 k.3

pub no_empty_variant : (schema : Schema) (depth : ℕ) (named : Option Names) (is s : List ℕ) (n : ℕ) → IsIndexOf named s n → n < length is → NoneOf (Fits schema depth (get_or is n 0)) (λ v. HasNoFields (node_at schema (get_or is n 0)))
    → NoneOf (InRange (IsOfEnum depth schema.nodes.items is)) (AtTop (IsNamed schema named is s))
no_empty_variant schema depth named is s n h l f =
    no_named schema named is s (InRange (IsOfEnum depth schema.nodes.items is)) (λ m w of k.
    let same : m ≡ n = first_index named s m n k.0 h in
    let at : slice_get is m ≡ Some (get_or is n 0) = ap (slice_get is) same ∙ at_index is n l in
    let place : k.1.0 ≡ get_or is n 0 = cc (k.1.1, at) in
    f w.value (held_fits schema depth is m (get_or is n 0) w of at) (subst (λ i. HasNoFields (node_at schema i)) place k.1.2))

-- members of a struct

count_named : (ms : List (Bor (List ℕ) × json.Value Global)) → count_members (members_view ms) ≡ length ms
count_named [] = refl
count_named (m ∷ ms) = omega (arith, count_named ms)

pub as_many : (named : Names) (ns : Vec (String Global)) (j : json.Value Global) (v : Vec (Bor (List ℕ) × json.Value Global)) → named ≡ names.Fields ns → j ≡ json.Object v → length v.items ≡ length ns.items → HasOnlyFields named (value_view j)
as_many named ns j v e f l = subst (λ m. HasOnlyFields m (value_view j)) (sym e) (subst (HasOnlyFields (names.Fields ns)) (sym (object_seen j v f)) (inl (count_named v.items ∙ l)))

pub named_all : (ns : List (String Global)) (ms : List (Bor (List ℕ) × json.Value Global)) (i : ℕ) → length ms ≤ i → (AreNamed ns (members_view (drop i ms)) → AreNamed ns (members_view ms)) → AreNamed ns (members_view ms)
named_all ns ms i l h = h (subst (λ x. AreNamed ns (members_view x)) (sym (drop_of_length-le ms l)) tt)

pub unknown_member : (ns : List (String Global)) (ms : List (Bor (List ℕ) × json.Value Global)) (i : ℕ) (m : Bor (List ℕ) × json.Value Global) → i < length ms → m ≡ get_or ms i m → (IsOneOf m.0.now ns → ⊥) → AreNamed ns (members_view ms) → ⊥
unknown_member ns [] i m l e f h = absurd (omega (arith, l))
unknown_member ns (n ∷ ms) zero m l e f h = f (subst (λ x. IsOneOf x.0.now ns) (sym e) h.0)
unknown_member ns (n ∷ ms) (suc i) m l e f h = unknown_member ns ms i m (omega (arith, l)) e f h.1

only_by : (ns : Vec (String Global)) (ms : List (Bor (List ℕ) × json.Value Global)) → length ms ≢ length ns.items → (AreNamed ns.items (members_view ms) → AreNamedOnce (members_view ms) → ⊥) → HasOnlyFields (names.Fields ns) (object (members_view ms)) → ⊥
only_by ns ms l f (inl e) = absurd (l (sym (count_named ms) ∙ e))
only_by ns ms l f (inr h) = f h.0 h.1

pub not_only : (named : Names) (ns : Vec (String Global)) (j : json.Value Global) (v : Vec (Bor (List ℕ) × json.Value Global)) → named ≡ names.Fields ns → j ≡ json.Object v → length v.items ≢ length ns.items
    → (AreNamed ns.items (members_view v.items) → AreNamedOnce (members_view v.items) → ⊥) → HasOnlyFields named (value_view j) → ⊥
not_only named ns j v e f l g h = only_by ns v.items l g (subst (HasOnlyFields (names.Fields ns)) (object_seen j v f) (subst (λ m. HasOnlyFields m (value_view j)) e h))

pub named_apart : (named : Names) (ns : Vec (String Global)) (j : json.Value Global) (v : Vec (Bor (List ℕ) × json.Value Global)) → named ≡ names.Fields ns → j ≡ json.Object v → AreNamed ns.items (members_view v.items) → AreNamedOnce (members_view v.items)
    → HasOnlyFields named (value_view j)
named_apart named ns j v e f g h = subst (λ m. HasOnlyFields m (value_view j)) (sym e) (subst (HasOnlyFields (names.Fields ns)) (sym (object_seen j v f)) (inr (g, h)))

-- When the parts that are read are those that were printed: by what holds of each.
use Rattle.std.specs.Prelude.{◌≡◌, ◌≢◌, ◌+◌, ◌<◌, ℕ, suc, List, [], ◌∷◌, ◌++◌, length, map, zip, Bool, true, false, Option, Some, None, option_and_then, String, string_bytes}
use Rattle.std.specs.Global.{Global}
use Rattle.std.specs.List.{AllZip, slice_get, slice_index_or}
use Rattle.std.specs.Str.{bytes_eq}
use Rattle.std.proofs.Common.{refl, sym, ap, ◌∙◌, subst, arith, append_assoc, length-append, Vec}
use Rattle.std.proofs.lemmas.Slice.Eq.{bytes_eq-Decides}
use Rattle.json.specs.Json.{Json, array, object}
use Rattle.json.specs.Find.{get_member, get_item}
use Rattle.json.specs.Value.{items_of}
use Rattle.postcard_tree.specs.Tree.{part}
use Rattle.schema_table.specs.declared.schema.Names.TheVariants as names
use Rattle.schema_table.specs.Telling.{NamesDiffer}
use Rattle.schema_table.specs.declared.value.Value.{Value}
use Rattle.schema_table.specs.Values.{tree_of, trees_in, AreOneTree}
use Rattle.schema_table.specs.Schemas.{EachHas, FieldsHave}
use Rattle.wire_json.specs.Meant.{MeansItems, MeansMembers, MeansFields, field_json}
use Rattle.schema_table.specs.Printed.{members_by, called, ShowsField, ShowsPart}

-- what is read of a type at a place from what shows a value of it, has its tree
abbrev pub ReadsBack : (ℕ → Value → Type 0) → (ℕ → Value → Type 0) → (ℕ → Value → Json → Type 0) → (ℕ → Json → Value → Type 0) → Type 0
ReadsBack has is shows means = (i : ℕ) (v w : Value) (j : Json) → has i v → is i w → shows i v j → means i j w → AreOneTree v w

-- elements

pub items_back : (has is : Value → Type 0) (shows : Value → Json → Type 0) (means : Json → Value → Type 0) → ((v w : Value) (j : Json) → has v → is w → shows v j → means j w → AreOneTree v w)
    → (vs ws : List Value) (js : List Json) → EachHas has vs → EachHas is ws → AllZip shows vs js → MeansItems means (items_of js) ws → trees_in vs ≡ trees_in ws
items_back has is shows means back [] [] js h k a m = refl
items_back has is shows means back [] (w ∷ ws) [] h k a m = absurd m
items_back has is shows means back [] (w ∷ ws) (j ∷ js) h k a m = absurd a
items_back has is shows means back (v ∷ vs) ws [] h k a m = absurd a
items_back has is shows means back (v ∷ vs) [] (j ∷ js) h k a m = absurd m
items_back has is shows means back (v ∷ vs) (w ∷ ws) (j ∷ js) h k a m =
    let first : tree_of v ≡ tree_of w = back v w j h.0 k.0 a.0 m.0 in
    let rest = items_back has is shows means back vs ws js h.1 k.1 a.1 m.1 in
    ap (λ t. part t (trees_in vs)) first ∙ ap (part (tree_of w)) rest

-- members

pub members_back : (has is : Value → Type 0) (shows : Value → List ℕ × Json → Type 0) (means : List ℕ → Json → Value → Type 0) → ((v w : Value) (m : List ℕ × Json) → has v → is w → shows v m → means m.0 m.1 w → AreOneTree v w)
    → (vs ws : List Value) (ms : List (List ℕ × Json)) → EachHas has vs → EachHas is ws → AllZip shows vs ms → MeansMembers means (members_by ms) ws → trees_in vs ≡ trees_in ws
members_back has is shows means back [] [] ms h k a m = refl
members_back has is shows means back [] (w ∷ ws) [] h k a m = absurd m
members_back has is shows means back [] (w ∷ ws) (j ∷ js) h k a m = absurd a
members_back has is shows means back (v ∷ vs) ws [] h k a m = absurd a
members_back has is shows means back (v ∷ vs) [] (j ∷ js) h k a m = absurd m
members_back has is shows means back (v ∷ vs) (w ∷ ws) (j ∷ js) h k a m =
    let first : tree_of v ≡ tree_of w = back v w j h.0 k.0 a.0 m.0 in
    let rest = members_back has is shows means back vs ws js h.1 k.1 a.1 m.1 in
    ap (λ t. part t (trees_in vs)) first ∙ ap (part (tree_of w)) rest

-- elements of a tuple

pub item_at : (js : List Json) (j : Json) (more : List Json) → get_item (length js) (items_of (js ++ j ∷ more)) ≡ Some j
item_at [] j more = refl
item_at (k ∷ js) j more = item_at js j more

same_json : (o : Option Json) (j k : Json) → o ≡ Some j → o ≡ Some k → j ≡ k
same_json o j k e f = let g : Some j ≡ Some k = sym e ∙ f in cc

pub tuple_back : (has is : ℕ → Value → Type 0) (shows : ℕ → Value → Json → Type 0) (means : ℕ → Json → Value → Type 0) → ReadsBack has is shows means
    → (n : ℕ) (before : List Json) (types : List ℕ) (vs ws : List Value) (js : List Json) → n ≡ length before → FieldsHave has types vs → FieldsHave is types ws → AllZip (ShowsPart shows) (zip types vs) js
    → MeansFields names.Tuple (array (items_of (before ++ js))) means n types ws → trees_in vs ≡ trees_in ws
tuple_back has is shows means back n before [] [] [] js e h k a m = refl
tuple_back has is shows means back n before [] [] (w ∷ ws) js e h k a m = absurd k
tuple_back has is shows means back n before [] (v ∷ vs) ws js e h k a m = absurd h
tuple_back has is shows means back n before (i ∷ types) [] ws js e h k a m = absurd h
tuple_back has is shows means back n before (i ∷ types) (v ∷ vs) [] js e h k a m = absurd k
tuple_back has is shows means back n before (i ∷ types) (v ∷ vs) (w ∷ ws) [] e h k a m = absurd a
tuple_back has is shows means back n before (i ∷ types) (v ∷ vs) (w ∷ ws) (j ∷ js) e h k a m =
    let one = m.0 in
    let at_n : get_item n (items_of (before ++ j ∷ js)) ≡ Some j = subst (λ z. get_item z (items_of (before ++ j ∷ js)) ≡ Some j) (sym e) (item_at before j js) in
    let same : one.0 ≡ j = same_json (get_item n (items_of (before ++ j ∷ js))) one.0 j one.1 at_n in
    let first : tree_of v ≡ tree_of w = back i v w j h.0 k.0 a.0 (subst (λ z. means i z w) same one.2) in
    let rest = tuple_back has is shows means back (n + 1) (before ++ j ∷ []) types vs ws js (omega (arith, e, length-append before (j ∷ []))) h.1 k.1 a.1
    (subst (λ z. MeansFields names.Tuple (array (items_of z)) means (n + 1) types ws) (sym (append_assoc before (j ∷ []) js)) m.1) in
    ap (λ t. part t (trees_in vs)) first ∙ ap (part (tree_of w)) rest

-- fields, by their names

-- no member has this name
abbrev pub HasNone : List ℕ → List (List ℕ × Json) → Type 0
HasNone s [] = Unit {0}
HasNone s (m ∷ ms) = (m.0 ≢ s) × HasNone s ms

other_name : (s t : List ℕ) → s ≢ t → bytes_eq s t ≡ false
other_name s t f = by_case (bytes_eq s t) refl
  where
    by_case : (b : Bool) → bytes_eq s t ≡ b → b ≡ false
    by_case true e = absurd (f ((bytes_eq-Decides s t).0 e))
    by_case false e = refl

none_found : (s : List ℕ) (ms : List (List ℕ × Json)) → HasNone s ms → get_member s (members_by ms) ≡ None
none_found s [] h = refl
none_found s (m ∷ ms) h = rw (none_found s ms h.1) (rw (other_name m.0 s h.0) refl)

-- the last of its name is found
pub member_found : (before : List (List ℕ × Json)) (s : List ℕ) (m : List ℕ × Json) (ms : List (List ℕ × Json)) → m.0 ≡ s → HasNone s ms → get_member s (members_by (before ++ m ∷ ms)) ≡ Some m.1
member_found [] s m ms e h = rw (none_found s ms h) (rw ((bytes_eq-Decides m.0 s).1 e) refl)
member_found (p ∷ before) s m ms e h = rw (member_found before s m ms e h) refl

pub apart_rest : {A : Type 0} (n : String A) (ns : List (String A)) → NamesDiffer (n ∷ ns) → NamesDiffer ns
apart_rest n ns h i j d l m = h (suc i) (suc j) d (omega (arith, l)) (omega (arith, m))

-- no later one has the name of the first
pub named_apart : {A : Type 0} (has : ℕ → Value → Type 0) (shows : ℕ → Value → Json → Type 0) (s : List ℕ) (ns : List (String A)) (types : List ℕ) (vs : List Value) (ms : List (List ℕ × Json)) → length ns ≡ length types
    → ((k : ℕ) → k < length (map string_bytes ns) → slice_index_or (map string_bytes ns) k [] ≢ s) → FieldsHave has types vs → AllZip (ShowsField shows) (called ns (zip types vs)) ms → HasNone s ms
named_apart has shows s ns [] [] [] e f h a = tt
named_apart has shows s ns [] [] (m ∷ ms) e f h a = absurd a
named_apart has shows s ns [] (v ∷ vs) ms e f h a = absurd h
named_apart has shows s ns (i ∷ types) [] ms e f h a = absurd h
named_apart has shows s [] (i ∷ types) (v ∷ vs) ms e f h a = absurd (omega (arith, e))
named_apart has shows s (n ∷ ns) (i ∷ types) (v ∷ vs) [] e f h a = absurd a
named_apart has shows s (n ∷ ns) (i ∷ types) (v ∷ vs) (m ∷ ms) e f h a =
    (λ g. f 0 (omega arith) (sym a.0.0 ∙ g), named_apart has shows s ns types vs ms (omega (arith, e)) (λ k l. f (suc k) (omega (arith, l))) h.1 a.1)

pub fields_back : (has is : ℕ → Value → Type 0) (shows : ℕ → Value → Json → Type 0) (means : ℕ → Json → Value → Type 0) → ReadsBack has is shows means
    → (all : Vec (String Global) Global) (n : ℕ) (before : List (List ℕ × Json)) (ns : List (String Global)) (types : List ℕ) (vs ws : List Value) (ms : List (List ℕ × Json)) → ((k : ℕ) → slice_get all.items (n + k) ≡ slice_get ns k)
    → length ns ≡ length types → NamesDiffer ns → FieldsHave has types vs → FieldsHave is types ws → AllZip (ShowsField shows) (called ns (zip types vs)) ms
    → MeansFields (names.Fields all) (object (members_by (before ++ ms))) means n types ws → trees_in vs ≡ trees_in ws
fields_back has is shows means back all n before ns [] [] [] ms f e d h k a m = refl
fields_back has is shows means back all n before ns [] [] (w ∷ ws) ms f e d h k a m = absurd k
fields_back has is shows means back all n before ns [] (v ∷ vs) ws ms f e d h k a m = absurd h
fields_back has is shows means back all n before ns (i ∷ types) [] ws ms f e d h k a m = absurd h
fields_back has is shows means back all n before ns (i ∷ types) (v ∷ vs) [] ms f e d h k a m = absurd k
fields_back has is shows means back all n before [] (i ∷ types) (v ∷ vs) (w ∷ ws) ms f e d h k a m = absurd (omega (arith, e))
fields_back has is shows means back all n before (s ∷ ns) (i ∷ types) (v ∷ vs) (w ∷ ws) [] f e d h k a m = absurd a
fields_back has is shows means back all n before (s ∷ ns) (i ∷ types) (v ∷ vs) (w ∷ ws) (x ∷ ms) f e d h k a m =
    let one = m.0 in
    let object_of = members_by (before ++ x ∷ ms) in
    let first_is : slice_get all.items n ≡ Some s = subst (λ z. slice_get all.items z ≡ Some s) (omega arith) (f 0) in
    let later = named_apart has shows (string_bytes s) ns types vs ms (omega (arith, e)) (λ y l g. d 0 (suc y) [] (omega arith) (omega (arith, l)) (sym g)) h.1 a.1 in
    let at_n : field_json (names.Fields all) n (object object_of) ≡ Some x.1 = ap (option_and_then (λ z. get_member (string_bytes z) object_of)) first_is ∙ member_found before (string_bytes s) x ms a.0.0 later in
    let same : one.0 ≡ x.1 = same_json (field_json (names.Fields all) n (object object_of)) one.0 x.1 one.1 at_n in
    let first : tree_of v ≡ tree_of w = back i v w x.1 h.0 k.0 a.0.1 (subst (λ z. means i z w) same one.2) in
    let rest = fields_back has is shows means back all (n + 1) (before ++ x ∷ []) ns types vs ws ms (λ y. subst (λ z. slice_get all.items z ≡ slice_get ns y) (omega arith) (f (suc y)))
    (omega (arith, e)) (apart_rest s ns d) h.1 k.1 a.1
    (subst (λ z. MeansFields (names.Fields all) (object (members_by z)) means (n + 1) types ws) (sym (append_assoc before (x ∷ []) ms)) m.1) in
    ap (λ t. part t (trees_in vs)) first ∙ ap (part (tree_of w)) rest

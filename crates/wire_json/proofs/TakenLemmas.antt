-- What is printed of a value means it.
use Rattle.std.specs.Prelude.{◌≡◌, ◌+◌, ◌*◌, ◌<◌, ◌≤◌, ◌^◌, ◌&&◌, ℕ, zero, suc, Bool, true, false, Option, Some, None, option_and_then, List, [], ◌∷◌, ◌++◌, length, map, zip, String, string_bytes, codes}
use Rattle.std.specs.Global.{Global}
use Rattle.std.specs.List.{AllZip, slice_get}
use Rattle.std.specs.Str.{IsUtf8}
use Rattle.std.proofs.Common.{refl, sym, ap, ◌∙◌, subst, arith, inl, inr, append_assoc, length-append, Vec}
use Rattle.std.proofs.lemmas.List.{append-nil}
use Rattle.std.proofs.lemmas.Str.{IsUtf8-append}
use Rattle.hex.proofs.HexLemmas.{decode_of-encode_lower}
use Rattle.json.specs.Find.{get_item, get_member}
use Rattle.json.specs.Json.{Json, value as json_value, null, number, string, array, object, no_members, member}
use Rattle.json.specs.Lex.{tokens}
use Rattle.json.specs.Tree.{json_tokens, depth}
use Rattle.json.specs.Value.{items_of}
use Rattle.json.proofs.Printed.Trees.{value-json_tokens}
use Rattle.json.proofs.Printed.Utf8.{IsUtf8-are_ascii}
use Rattle.schema_table.specs.declared.integer.IntegerType.{IntegerType}
use Rattle.schema_table.specs.declared.node.Node.{Node}
use Rattle.schema_table.specs.declared.node.Node.TheVariants as node
use Rattle.schema_table.specs.declared.schema.Names.{Names}
use Rattle.schema_table.specs.declared.schema.Names.TheVariants as names
use Rattle.schema_table.specs.declared.schema.Schema.{Schema}
use Rattle.schema_table.specs.Telling.{names_at, node_at, IsFixedNames, NamesDiffer, TellsParts, NamesTellParts}
use Rattle.schema_table.specs.declared.integer.Integer.{Integer}
use Rattle.schema_table.specs.declared.integer.Integer.TheVariants as integers
use Rattle.schema_table.specs.declared.value.Value.{Value, out-Value}
use Rattle.schema_table.specs.declared.value.Value.TheOpen.{Value-F}
use Rattle.schema_table.specs.Schemas.{SchemaHas, NodeHas, PlaceHas, AtTop, OfU8, OfOption, OfList, OfGroup, OfVariant, EachHas, FieldsHave, PayloadHas}
use Rattle.schema_table.specs.Values.{AreOneTree}
use Rattle.wire_json.specs.InRange.{Fits, is_in_range, are_bytes, are_in_range, all_true}
use Rattle.schema_table.specs.Looks.{HasNoFields, IsPresentBy, is_byte_node, is_empty_named, is_float_named, is_map_named, is_newtype_named, are_empty_named, null_within, pair_node, first_is_key, variant_named, plain_key_node, key_node, key_type, key_within, asked_by, inside_of, only_field, only_part, typed_part, part_of, inside_part, inside_within, key_at, key_named, key_text, plain_key, integer_key, variant_key}
use Rattle.wire_json.specs.Meant.{AreBytes, AreBytesOf, IsIndexOf, IsInteger, IsNamed, KeyMeans, KeyMeansBy, KeyMeansNode, KeyMeansPlain, MayHold, Means, MeansBytes, MeansElements, MeansEnum, MeansFields, MeansFixed, MeansHeld, MeansHolding, MeansItems, MeansLine, MeansList, MeansMembers, MeansNode, MeansNumber, MeansOption, MeansPlain, MeansStruct, chosen, count_items, count_members, field_json}
use Rattle.schema_table.specs.Printed.{IsJsonOf, byte_before, byte_items, bytes_in, bytes_json, called, integer_json, members_by, plain_json, two_values, Shows, ShowsAll, ShowsChosen, ShowsElements, ShowsEnum, ShowsField, ShowsFixed, ShowsHeld, ShowsInteger, ShowsList, ShowsMap, ShowsNamed, ShowsNode, ShowsOption, ShowsPair, ShowsPart, ShowsStruct, ShowsVariant}
use Rattle.wire_json.specs.Refused.{IsNumberNode}
use Rattle.wire_json.specs.RoundTrip.{ReadsLine, TakesPrinted, TakesLine, line_inside}
use Rattle.wire_json.proofs.DeeperLemmas.{fits_deeper, shown_nests}
use Rattle.wire_json.proofs.LeafLemmas.{ranged, range_level, small, small_sign, IsLeaf, both_true, bytes_in_range}
use Rattle.wire_json.proofs.KeyLemmas.{no_fields_at, name_within, payload_at, payload_within, empty_at, plain_named, no_fields_inside, not_float, only_one, one_range, inside_field, variant_range, list_range}
use Rattle.wire_json.proofs.NullLemmas.{null_shown, one_field}
use Rattle.wire_json.proofs.ParsedLemmas.{inside_struct, pair_struct, byte_node}
use Rattle.wire_json.proofs.PartsLemmas.{item_at, member_found, apart_rest, named_apart}
use Rattle.wire_json.proofs.RoundLemmas.{HasKinds, each_fits, fields_fit, byte_tops, byte_of, bytes_fit, two_fields, two_range, two_seen, present_range, present_null, apart_names, all_in_range, value_back, read_json, line_json}
use Rattle.wire_json.proofs.FloatLemmas.{shown_float}
use Rattle.wire_json.proofs.ShownNumbers.{unsigned_shown, signed_shown, decimal_json, signed_json}

-- numbers

integer_shown : (i : Integer) → is_in_range i ≡ true → IsInteger (integer_key i) i
integer_shown (integers.U16 n) r = unsigned_shown n (small n (2 ^ 16) (omega arith) r)
integer_shown (integers.U32 n) r = unsigned_shown n (small n (2 ^ 32) (omega arith) r)
integer_shown (integers.U64 n) r = unsigned_shown n (small n (2 ^ 64) (omega arith) r)
integer_shown (integers.U128 n) r = unsigned_shown n (small n (2 ^ 128) (omega arith) r)
integer_shown (integers.I16 z) r = signed_shown z (small_sign z (2 ^ 15) (omega arith) r)
integer_shown (integers.I32 z) r = signed_shown z (small_sign z (2 ^ 31) (omega arith) r)
integer_shown (integers.I64 z) r = signed_shown z (small_sign z (2 ^ 63) (omega arith) r)
integer_shown (integers.I128 z) r = signed_shown z (small_sign z (2 ^ 127) (omega arith) r)

number_shown : (has : ℕ → Value → Type 0) (n : Node) (t : Value-F Value) → IsNumberNode n → NodeHas has n t → ranged t ≡ true → MeansNumber (plain_key t) t
number_shown has node.U8 (Value-F.U8 a) l h r = unsigned_shown a (small a (2 ^ 8) (omega arith) r)
number_shown has node.U8 _ l h r = absurd h
number_shown has node.U16 (Value-F.U16 a) l h r = unsigned_shown a (small a (2 ^ 16) (omega arith) r)
number_shown has node.U16 _ l h r = absurd h
number_shown has node.U32 (Value-F.U32 a) l h r = unsigned_shown a (small a (2 ^ 32) (omega arith) r)
number_shown has node.U32 _ l h r = absurd h
number_shown has node.U64 (Value-F.U64 a) l h r = unsigned_shown a (small a (2 ^ 64) (omega arith) r)
number_shown has node.U64 _ l h r = absurd h
number_shown has node.U128 (Value-F.U128 a) l h r = unsigned_shown a (small a (2 ^ 128) (omega arith) r)
number_shown has node.U128 _ l h r = absurd h
number_shown has node.I8 (Value-F.I8 a) l h r = signed_shown a (small_sign a (2 ^ 7) (omega arith) r)
number_shown has node.I8 _ l h r = absurd h
number_shown has node.I16 (Value-F.I16 a) l h r = signed_shown a (small_sign a (2 ^ 15) (omega arith) r)
number_shown has node.I16 _ l h r = absurd h
number_shown has node.I32 (Value-F.I32 a) l h r = signed_shown a (small_sign a (2 ^ 31) (omega arith) r)
number_shown has node.I32 _ l h r = absurd h
number_shown has node.I64 (Value-F.I64 a) l h r = signed_shown a (small_sign a (2 ^ 63) (omega arith) r)
number_shown has node.I64 _ l h r = absurd h
number_shown has node.I128 (Value-F.I128 a) l h r = signed_shown a (small_sign a (2 ^ 127) (omega arith) r)
number_shown has node.I128 _ l h r = absurd h
number_shown has (node.LE n) (Value-F.LE i) l h r = integer_shown i r
number_shown has (node.LE n) _ l h r = absurd h
number_shown has (node.BE n) (Value-F.BE i) l h r = integer_shown i r
number_shown has (node.BE n) _ l h r = absurd h
number_shown has _ t l h r = absurd l

-- its JSON is the number of its digits
integer_number : (i : Integer) → is_in_range i ≡ true → integer_json i ≡ number (integer_key i)
integer_number (integers.U128 n) r = decimal_json n (small n (2 ^ 128) (omega arith) r)
integer_number (integers.I128 z) r = signed_json z (small_sign z (2 ^ 127) (omega arith) r)
integer_number _ r = refl

-- bytes

numbers_shown : (bs : List ℕ) → are_bytes bs ≡ true → MeansBytes (byte_items bs) bs
numbers_shown [] r = tt
numbers_shown (b ∷ bs) r = let both = both_true _ (are_bytes bs) r in (unsigned_shown b (small b 256 (omega arith) both.0), numbers_shown bs both.1)

bytes_shown : (hex : Bool) (bs : List ℕ) → are_bytes bs ≡ true → AreBytesOf (bytes_json hex bs) bs
bytes_shown true bs r = decode_of-encode_lower bs (bytes_in_range bs r)
bytes_shown false bs r = numbers_shown bs r

of_bytes : (j : Json) (v : Vec ℕ Global) → AreBytesOf j v.items → MeansPlain j (Value-F.Bytes v)
of_bytes (array js) v h = h
of_bytes (string s) v h = h
of_bytes _ v h = absurd h

-- values without parts

leaf_shown : (has : ℕ → Value → Type 0) (hex : Bool) (n : Node) (t : Value-F Value) → IsLeaf n → NodeHas has n t → ranged t ≡ true → MeansPlain (plain_json hex t) t
leaf_shown has hex node.Bool (Value-F.Bool b) l h r = refl
leaf_shown has hex node.Bool _ l h r = absurd h
leaf_shown has hex node.U128 (Value-F.U128 a) l h r = subst (λ j. MeansPlain j (Value-F.U128 a)) (sym (decimal_json a (small a (2 ^ 128) (omega arith) r))) (number_shown has node.U128 (Value-F.U128 a) tt h r)
leaf_shown has hex node.U128 _ l h r = absurd h
leaf_shown has hex node.I128 (Value-F.I128 a) l h r = subst (λ j. MeansPlain j (Value-F.I128 a)) (sym (signed_json a (small_sign a (2 ^ 127) (omega arith) r))) (number_shown has node.I128 (Value-F.I128 a) tt h r)
leaf_shown has hex node.I128 _ l h r = absurd h
leaf_shown has hex (node.LE n) (Value-F.LE i) l h r = subst (λ j. MeansPlain j (Value-F.LE i)) (sym (integer_number i r)) (integer_shown i r)
leaf_shown has hex (node.LE n) _ l h r = absurd h
leaf_shown has hex (node.BE n) (Value-F.BE i) l h r = subst (λ j. MeansPlain j (Value-F.BE i)) (sym (integer_number i r)) (integer_shown i r)
leaf_shown has hex (node.BE n) _ l h r = absurd h
leaf_shown has hex node.Char (Value-F.Char c) l h r = refl
leaf_shown has hex node.Char _ l h r = absurd h
leaf_shown has hex node.Text (Value-F.Text s) l h r = refl
leaf_shown has hex node.Text _ l h r = absurd h
leaf_shown has hex (node.TextUpTo n) (Value-F.Text s) l h r = refl
leaf_shown has hex (node.TextUpTo n) _ l h r = absurd h
leaf_shown has hex node.Bytes (Value-F.Bytes v) l h r = of_bytes (bytes_json hex v.items) v (bytes_shown hex v.items r)
leaf_shown has hex node.Bytes _ l h r = absurd h
leaf_shown has hex node.U8 (Value-F.U8 a) l h r = number_shown has node.U8 (Value-F.U8 a) tt h r
leaf_shown has hex node.U8 _ l h r = absurd h
leaf_shown has hex node.U16 (Value-F.U16 a) l h r = number_shown has node.U16 (Value-F.U16 a) tt h r
leaf_shown has hex node.U16 _ l h r = absurd h
leaf_shown has hex node.U32 (Value-F.U32 a) l h r = number_shown has node.U32 (Value-F.U32 a) tt h r
leaf_shown has hex node.U32 _ l h r = absurd h
leaf_shown has hex node.U64 (Value-F.U64 a) l h r = number_shown has node.U64 (Value-F.U64 a) tt h r
leaf_shown has hex node.U64 _ l h r = absurd h
leaf_shown has hex node.I8 (Value-F.I8 a) l h r = number_shown has node.I8 (Value-F.I8 a) tt h r
leaf_shown has hex node.I8 _ l h r = absurd h
leaf_shown has hex node.I16 (Value-F.I16 a) l h r = number_shown has node.I16 (Value-F.I16 a) tt h r
leaf_shown has hex node.I16 _ l h r = absurd h
leaf_shown has hex node.I32 (Value-F.I32 a) l h r = number_shown has node.I32 (Value-F.I32 a) tt h r
leaf_shown has hex node.I32 _ l h r = absurd h
leaf_shown has hex node.I64 (Value-F.I64 a) l h r = number_shown has node.I64 (Value-F.I64 a) tt h r
leaf_shown has hex node.I64 _ l h r = absurd h
leaf_shown has hex _ t l h r = absurd l

-- floats

fixed_shown : (has : ℕ → Value → Type 0) (hex : Bool) (k : IntegerType) (named : Option Names) (t : Value-F Value) (j : Json) → TellsParts (Some (node.LE k)) named → NodeHas has (node.LE k) t → ranged t ≡ true
    → ShowsInteger (is_float_named named) hex t j → MeansFixed (is_float_named named) j t
fixed_shown has hex k None t j p h r s = absurd p
fixed_shown has hex k (Some names.Float) (Value-F.LE i) j p h r s = shown_float i j (subst (λ z. IsFixedNames z names.Float) (sym h) p) r s
fixed_shown has hex k (Some names.Float) _ j p h r s = absurd h
fixed_shown has hex k (Some _) t j p h r s = subst (λ z. MeansPlain z t) (sym s) (leaf_shown has hex (node.LE k) t tt h r)

-- elements

items_shown : (has : Value → Type 0) (shows : Value → Json → Type 0) (means : Json → Value → Type 0) → ((v : Value) (j : Json) → has v → shows v j → means j v) → (vs : List Value) (js : List Json) → EachHas has vs → AllZip shows vs js
    → MeansItems means (items_of js) vs
items_shown has shows means each [] [] h a = tt
items_shown has shows means each [] (j ∷ js) h a = absurd a
items_shown has shows means each (v ∷ vs) [] h a = absurd a
items_shown has shows means each (v ∷ vs) (j ∷ js) h a = (each v j h.0 a.0, items_shown has shows means each vs js h.1 a.1)

members_shown : (has : Value → Type 0) (shows : Value → List ℕ × Json → Type 0) (means : List ℕ → Json → Value → Type 0) → ((v : Value) (m : List ℕ × Json) → has v → shows v m → means m.0 m.1 v)
    → (vs : List Value) (ms : List (List ℕ × Json)) → EachHas has vs → AllZip shows vs ms → MeansMembers means (members_by ms) vs
members_shown has shows means each [] [] h a = tt
members_shown has shows means each [] (m ∷ ms) h a = absurd a
members_shown has shows means each (v ∷ vs) [] h a = absurd a
members_shown has shows means each (v ∷ vs) (m ∷ ms) h a = (each v m h.0 a.0, members_shown has shows means each vs ms h.1 a.1)

bytes_in_shown : (vs : List Value) → EachHas (AtTop OfU8) vs → AreBytes (bytes_in vs) vs
bytes_in_shown [] h = tt
bytes_in_shown (v ∷ vs) h = let b = byte_of v h.0 in subst (λ t. AreBytes (byte_before t (bytes_in vs)) (v ∷ vs)) (sym b.1) (b.1, bytes_in_shown vs h.1)

elements_shown : (schema : Schema) (hex : Bool) (d k : ℕ) (shows : Value → Json → Type 0) (means : Json → Value → Type 0) → ((v : Value) (j : Json) → HasKinds schema d k v → shows v j → means j v)
    → (vs : List Value) (j : Json) → EachHas (SchemaHas d schema.nodes.items k) vs → all_true (map are_in_range vs) ≡ true → ShowsElements hex (node_at schema k) shows vs j → MeansElements (node_at schema k) means j vs
elements_shown schema hex d k shows means each vs j h r s = by_hex (hex && is_byte_node (node_at schema k)) refl s
  where
    by_hex : (b : Bool) → (hex && is_byte_node (node_at schema k)) ≡ b → ShowsAll b shows vs j → MeansElements (node_at schema k) means j vs
    by_hex true e x =
        let byte = (both_true hex (is_byte_node (node_at schema k)) e).1 in
        let tops = byte_tops d schema.nodes.items k vs (byte_node (node_at schema k) byte) h in
        subst (λ z. MeansElements (node_at schema k) means z vs) (sym x)
        (byte, (bytes_in vs, decode_of-encode_lower (bytes_in vs) (bytes_in_range (bytes_in vs) (bytes_fit vs tops r)), bytes_in_shown vs tops))
    by_hex false e x = subst (λ z. MeansElements (node_at schema k) means z vs) (sym x.1)
        (items_shown (λ v. SchemaHas d schema.nodes.items k v × (are_in_range v ≡ true)) shows means each vs x.0 (each_fits (SchemaHas d schema.nodes.items k) vs h r) x.2)

-- what isn't an object is a list by its elements
by_elements : (keys : Bool) (n : Option Node) (means : Json → Value → Type 0) (pair : List ℕ → Json → Value → Type 0) (j : Json) (vs : List Value) → MeansElements n means j vs → MeansList keys n means pair j vs
by_elements keys n means pair (object ms) vs h = absurd h
by_elements keys n means pair _ vs h = h

-- each value inside means what is shown of it
abbrev Inside : Schema → Bool → ℕ → ℕ → ℕ → ℕ → Type 0
Inside schema hex d e f k = (x : Value) (z : Json) → HasKinds schema d k x → Shows hex schema e k x z → Means schema f k None z x

-- options

present_shown : (b : Bool) (shows means : Json → Type 0) → ((k : Json) → shows k → means k) → (j : Json) → IsPresentBy b shows j → IsPresentBy b means j
present_shown true shows means f j h = (h.0, h.1, f h.0 h.2)
present_shown false shows means f j h = f j h

option_shown : (schema : Schema) (hex : Bool) (d e f k : ℕ) (v : Value) (j : Json) (t : Value-F Value) → d ≤ e → Inside schema hex d e f k → out-Value v ≡ t → are_in_range v ≡ true → OfOption (SchemaHas d schema.nodes.items k) t
    → ShowsOption hex schema k (Shows hex schema e k) t j → MeansOption schema k (Means schema f k None) j t
option_shown schema hex d e f k v j Value-F.Absent l each a r h s = s
option_shown schema hex d e f k v j (Value-F.Present x) l each a r h s =
    let named = null_within (length schema.nodes.items) schema k in (
      λ m. present_null named (Shows hex schema e k x.value) (λ n c. null_shown hex schema (length schema.nodes.items) d e k x.value n l h c) (subst (IsPresentBy named (Shows hex schema e k x.value)) m s),
      present_shown named (Shows hex schema e k x.value) (λ z. Means schema f k None z x.value) (λ z c. each x.value z (h, sym (present_range v x a) ∙ r) c) j s,
    )
option_shown schema hex d e f k v j _ l each a r h s = absurd h

-- lists

list_shown : (schema : Schema) (hex : Bool) (d e f i k : ℕ) (keys : Bool) (v : Value) (j : Json) (t : Value-F Value) → (is_map_named (names_at schema i) && first_is_key schema (pair_node (node_at schema k))) ≡ keys → Inside schema hex d e f k
    → ((x : Value) (m : List ℕ × Json) → first_is_key schema (pair_node (node_at schema k)) ≡ true → HasKinds schema d k x → ShowsPair schema k (Shows hex schema e) x m → Means schema f k (Some m.0) m.1 x)
    → out-Value v ≡ t → are_in_range v ≡ true → OfList (EachHas (SchemaHas d schema.nodes.items k)) t → ShowsList hex schema i k (Shows hex schema e) t j
    → OfList (MeansList keys (node_at schema k) (Means schema f k None) (λ s. Means schema f k (Some s)) j) t
list_shown schema hex d e f i k keys v j (Value-F.List x) q each pairs a r h s = by_map keys q (subst (λ b. ShowsMap b hex schema k (Shows hex schema e) x.items j) q s)
  where
    all : all_true (map are_in_range x.items) ≡ true
    all = sym (list_range v x a) ∙ r

    by_map : (b : Bool) → (is_map_named (names_at schema i) && first_is_key schema (pair_node (node_at schema k))) ≡ b → ShowsMap b hex schema k (Shows hex schema e) x.items j
        → MeansList b (node_at schema k) (Means schema f k None) (λ s. Means schema f k (Some s)) j x.items
    by_map true c m =
        let key = (both_true (is_map_named (names_at schema i)) (first_is_key schema (pair_node (node_at schema k))) c).1 in
        subst (λ z. MeansList true (node_at schema k) (Means schema f k None) (λ s. Means schema f k (Some s)) z x.items) (sym m.1) (
          refl,
          members_shown (λ z. SchemaHas d schema.nodes.items k z × (are_in_range z ≡ true)) (ShowsPair schema k (Shows hex schema e)) (λ s. Means schema f k (Some s)) (λ z p o n. pairs z p key o n) x.items m.0
              (each_fits (SchemaHas d schema.nodes.items k) x.items h all) m.2,
        )
    by_map false c m = by_elements false (node_at schema k) (Means schema f k None) (λ s. Means schema f k (Some s)) j x.items
        (elements_shown schema hex d k (Shows hex schema e k) (Means schema f k None) each x.items j h all m)
list_shown schema hex d e f i k keys v j _ q each pairs a r h s = absurd h

array_shown : (schema : Schema) (hex : Bool) (d e f k : ℕ) (v : Value) (j : Json) (t : Value-F Value) → Inside schema hex d e f k → out-Value v ≡ t → are_in_range v ≡ true → OfGroup (EachHas (SchemaHas d schema.nodes.items k)) t
    → ShowsFixed hex schema k (Shows hex schema e k) t j → OfGroup (MeansElements (node_at schema k) (Means schema f k None) j) t
array_shown schema hex d e f k v j (Value-F.Group x) each a r h s = elements_shown schema hex d k (Shows hex schema e k) (Means schema f k None) each x.items j h (all_in_range v x a r) s
array_shown schema hex d e f k v j _ each a r h s = absurd h

-- structs

-- what shows a value of a type at a place, means it
abbrev MeansShown : (ℕ → Value → Type 0) → (ℕ → Value → Json → Type 0) → (ℕ → Json → Value → Type 0) → Type 0
MeansShown has shows means = (i : ℕ) (v : Value) (j : Json) → has i v → shows i v j → means i j v

elements_counted : (has : ℕ → Value → Type 0) (shows : ℕ → Value → Json → Type 0) (types : List ℕ) (vs : List Value) (js : List Json) → FieldsHave has types vs → AllZip (ShowsPart shows) (zip types vs) js → count_items (items_of js) ≡ length types
elements_counted has shows [] [] [] h a = refl
elements_counted has shows [] [] (j ∷ js) h a = absurd a
elements_counted has shows [] (v ∷ vs) js h a = absurd h
elements_counted has shows (i ∷ types) [] js h a = absurd h
elements_counted has shows (i ∷ types) (v ∷ vs) [] h a = absurd a
elements_counted has shows (i ∷ types) (v ∷ vs) (j ∷ js) h a = omega (arith, elements_counted has shows types vs js h.1 a.1)

tuple_shown : (has : ℕ → Value → Type 0) (shows : ℕ → Value → Json → Type 0) (means : ℕ → Json → Value → Type 0) → MeansShown has shows means
    → (n : ℕ) (before : List Json) (types : List ℕ) (vs : List Value) (js : List Json) → n ≡ length before → FieldsHave has types vs → AllZip (ShowsPart shows) (zip types vs) js
    → MeansFields names.Tuple (array (items_of (before ++ js))) means n types vs
tuple_shown has shows means each n before [] [] js e h a = tt
tuple_shown has shows means each n before [] (v ∷ vs) js e h a = absurd h
tuple_shown has shows means each n before (i ∷ types) [] js e h a = absurd h
tuple_shown has shows means each n before (i ∷ types) (v ∷ vs) [] e h a = absurd a
tuple_shown has shows means each n before (i ∷ types) (v ∷ vs) (j ∷ js) e h a =
    let at_n : get_item n (items_of (before ++ j ∷ js)) ≡ Some j = subst (λ z. get_item z (items_of (before ++ j ∷ js)) ≡ Some j) (sym e) (item_at before j js) in (
      (j, at_n, each i v j h.0 a.0),
      subst (λ z. MeansFields names.Tuple (array (items_of z)) means (n + 1) types vs) (append_assoc before (j ∷ []) js)
          (tuple_shown has shows means each (n + 1) (before ++ j ∷ []) types vs js (omega (arith, e, length-append before (j ∷ []))) h.1 a.1),
    )

members_counted : {A : Type 0} (has : ℕ → Value → Type 0) (shows : ℕ → Value → Json → Type 0) (ns : List (String A)) (types : List ℕ) (vs : List Value) (ms : List (List ℕ × Json)) → FieldsHave has types vs
    → AllZip (ShowsField shows) (called ns (zip types vs)) ms → count_members (members_by ms) ≡ length types
members_counted has shows ns [] [] [] h a = refl
members_counted has shows ns [] [] (m ∷ ms) h a = absurd a
members_counted has shows ns [] (v ∷ vs) ms h a = absurd h
members_counted has shows ns (i ∷ types) [] ms h a = absurd h
members_counted has shows ns (i ∷ types) (v ∷ vs) [] h a = absurd a
members_counted has shows [] (i ∷ types) (v ∷ vs) (m ∷ ms) h a = omega (arith, members_counted has shows [] types vs ms h.1 a.1)
members_counted has shows (n ∷ ns) (i ∷ types) (v ∷ vs) (m ∷ ms) h a = omega (arith, members_counted has shows ns types vs ms h.1 a.1)

none_counted : (ms : List (List ℕ × Json)) → count_members (members_by ms) ≡ 0 → members_by ms ≡ no_members
none_counted [] e = refl
none_counted (m ∷ ms) e = absurd (omega (arith, e))

fields_shown : (has : ℕ → Value → Type 0) (shows : ℕ → Value → Json → Type 0) (means : ℕ → Json → Value → Type 0) → MeansShown has shows means
    → (all : Vec (String Global) Global) (n : ℕ) (before : List (List ℕ × Json)) (ns : List (String Global)) (types : List ℕ) (vs : List Value) (ms : List (List ℕ × Json)) → ((k : ℕ) → slice_get all.items (n + k) ≡ slice_get ns k)
    → length ns ≡ length types → NamesDiffer ns → FieldsHave has types vs → AllZip (ShowsField shows) (called ns (zip types vs)) ms
    → MeansFields (names.Fields all) (object (members_by (before ++ ms))) means n types vs
fields_shown has shows means each all n before ns [] [] ms f e d h a = tt
fields_shown has shows means each all n before ns [] (v ∷ vs) ms f e d h a = absurd h
fields_shown has shows means each all n before ns (i ∷ types) [] ms f e d h a = absurd h
fields_shown has shows means each all n before [] (i ∷ types) (v ∷ vs) ms f e d h a = absurd (omega (arith, e))
fields_shown has shows means each all n before (s ∷ ns) (i ∷ types) (v ∷ vs) [] f e d h a = absurd a
fields_shown has shows means each all n before (s ∷ ns) (i ∷ types) (v ∷ vs) (x ∷ ms) f e d h a =
    let first_is : slice_get all.items n ≡ Some s = subst (λ z. slice_get all.items z ≡ Some s) (omega arith) (f 0) in
    let later = named_apart has shows (string_bytes s) ns types vs ms (omega (arith, e)) (λ y l g. d 0 (suc y) [] (omega arith) (omega (arith, l)) (sym g)) h.1 a.1 in
    let at_n : field_json (names.Fields all) n (object (members_by (before ++ x ∷ ms))) ≡ Some x.1 =
    ap (option_and_then (λ z. get_member (string_bytes z) (members_by (before ++ x ∷ ms)))) first_is ∙ member_found before (string_bytes s) x ms a.0.0 later in (
      (x.1, at_n, each i v x.1 h.0 a.0.1),
      subst (λ z. MeansFields (names.Fields all) (object (members_by z)) means (n + 1) types vs) (append_assoc before (x ∷ []) ms)
          (fields_shown has shows means each all (n + 1) (before ++ x ∷ []) ns types vs ms (λ y. subst (λ z. slice_get all.items z ≡ slice_get ns y) (omega arith) (f (suc y))) (omega (arith, e)) (apart_rest s ns d) h.1 a.1),
    )

newtype_shown : (has : ℕ → Value → Type 0) (shows : ℕ → Value → Json → Type 0) (means : ℕ → Json → Value → Type 0) → MeansShown has shows means → (types : List ℕ) (vs : List Value) (j : Json) → length types ≤ 1 → FieldsHave has types vs
    → ShowsNamed (Some names.Newtype) types shows vs j → MeansFields names.Newtype j means 0 types vs
newtype_shown has shows means each [] [] j l h s = tt
newtype_shown has shows means each [] (v ∷ vs) j l h s = absurd h
newtype_shown has shows means each (i ∷ []) [] j l h s = absurd h
newtype_shown has shows means each (i ∷ []) (v ∷ []) j l h s = ((j, refl, each i v j h.0 s), tt)
newtype_shown has shows means each (i ∷ []) (v ∷ x ∷ vs) j l h s = absurd h.1
newtype_shown has shows means each (i ∷ k ∷ types) vs j l h s = absurd (omega (arith, l))

none_shown : (has : ℕ → Value → Type 0) (m : Names) (j : Json) (means : ℕ → Json → Value → Type 0) (types : List ℕ) (vs : List Value) → types ≡ [] → FieldsHave has types vs → MeansFields m j means 0 types vs
none_shown has m j means [] [] e h = tt
none_shown has m j means [] (v ∷ vs) e h = absurd h
none_shown has m j means (i ∷ types) vs e h = absurd (cc e)

struct_shown : (has : ℕ → Value → Type 0) (shows : ℕ → Value → Json → Type 0) (means : ℕ → Json → Value → Type 0) → MeansShown has shows means → (m : Option Names) (types : Vec ℕ Global) (vs : List Value) (j : Json)
    → TellsParts (Some (node.Struct types)) m → FieldsHave has types.items vs → ShowsNamed m types.items shows vs j → MeansStruct m types.items means j vs
struct_shown has shows means each None types vs j t h s = absurd t
struct_shown has shows means each (Some names.Newtype) types vs j t h s = (tt, tt, newtype_shown has shows means each types.items vs j t h s)
struct_shown has shows means each (Some names.Unit) types vs j t h s = (s, tt, none_shown has names.Unit j means types.items vs t h)
struct_shown has shows means each (Some names.Empty) types vs j t h s = (s, tt, none_shown has names.Empty j means types.items vs t h)
struct_shown has shows means each (Some names.Tuple) types vs j t h s = subst (λ z. MeansStruct (Some names.Tuple) types.items means z vs) (sym s.1)
    (elements_counted has shows types.items vs s.0 h s.2, tt, tuple_shown has shows means each 0 [] types.items vs s.0 refl h s.2)
struct_shown has shows means each (Some (names.Fields ns)) types vs j t h s =
    let counted = members_counted has shows ns.items types.items vs s.0 h s.2 in
    subst (λ z. MeansStruct (Some (names.Fields ns)) types.items means z vs) (sym s.1)
    (λ z. none_counted s.0 (counted ∙ z), inl (counted ∙ sym t.0), fields_shown has shows means each ns 0 [] ns.items types.items vs s.0 (λ y. ap (slice_get ns.items) (omega arith)) t.0 t.1 h s.2)
struct_shown has shows means each (Some _) types vs j t h s = absurd t

group_shown : (schema : Schema) (hex : Bool) (d e f : ℕ) (types : Vec ℕ Global) (m : Option Names) (v : Value) (j : Json) (t : Value-F Value) → TellsParts (Some (node.Struct types)) m → ((k : ℕ) → Inside schema hex d e f k)
    → out-Value v ≡ t → are_in_range v ≡ true → OfGroup (FieldsHave (SchemaHas d schema.nodes.items) types.items) t → ShowsStruct hex m types.items (Shows hex schema e) t j
    → OfGroup (MeansStruct m types.items (λ k. Means schema f k None) j) t
group_shown schema hex d e f types m v j (Value-F.Group x) t each a r h s =
    struct_shown (λ k z. SchemaHas d schema.nodes.items k z × (are_in_range z ≡ true)) (Shows hex schema e) (λ k. Means schema f k None) (λ k z o n c. each k z o n c) m types x.items j t
    (fields_fit (SchemaHas d schema.nodes.items) types.items x.items h (all_in_range v x a r)) s
group_shown schema hex d e f types m v j _ t each a r h s = absurd h

-- variants

-- what a variant without fields holds, is meant by `null`
empty_group : (is : List ℕ) (has : ℕ → Value → Type 0) (means : ℕ → Json → Value → Type 0) (t : Value-F Value) → is ≡ [] → OfGroup (FieldsHave has is) t → OfGroup (MeansStruct (Some names.Empty) is means null) t
empty_group is has means (Value-F.Group w) e h = (refl, tt, none_shown has names.Empty null means is w.items e h)
empty_group is has means _ e h = absurd h

empty_means : (schema : Schema) (o : Option Node) (m : Option Names) (has : ℕ → Value → Type 0) (means : ℕ → Option (List ℕ) → Json → Value → Type 0) (v : Value) → HasNoFields o → PlaceHas has o v → is_empty_named m ≡ true
    → MeansNode schema m means o null (out-Value v)
empty_means schema None m has means v n h e = absurd h
empty_means schema (Some o) None has means v n h e = absurd (cc e)
empty_means schema (Some (node.Struct is)) (Some names.Empty) has means v n h e = empty_group is.items has (λ i. means i None) (out-Value v) n h
empty_means schema (Some _) (Some names.Empty) has means v n h e = absurd n
empty_means schema (Some o) (Some _) has means v n h e = absurd (cc e)

empty_shown : (schema : Schema) (d f k : ℕ) (v : Value) → NamesTellParts schema → is_empty_named (names_at schema k) ≡ true → d ≤ f → SchemaHas d schema.nodes.items k v → Means schema f k None null v
unfolding SchemaHas Means
empty_shown schema zero f k v t e l h = absurd h
empty_shown schema (suc d) zero k v t e l h = absurd (omega (arith, l))
empty_shown schema (suc d) (suc f) k v t e l h = empty_means schema (node_at schema k) (names_at schema k) (SchemaHas d schema.nodes.items) (Means schema f) v (no_fields_at schema (suc d) k v t e h) h e

variant_name : (m : Option Names) (types : Vec ℕ Global) (n : ℕ) → TellsParts (Some (node.Enum types)) m → n < length types.items → (s : List ℕ) × (variant_named m n ≡ Some s)
variant_name (Some (names.Variants ns)) types n t l = name_within ns.items n (omega (arith, l, t.0))
variant_name None types n t l = absurd t
variant_name (Some _) types n t l = absurd t

-- a variant is the first of its name
first_named : (m : Option Names) (types : Vec ℕ Global) (n : ℕ) (s : List ℕ) → TellsParts (Some (node.Enum types)) m → variant_named m n ≡ Some s → IsIndexOf m s n
first_named m types n s t e = (e, λ k l q. omega (arith, l, apart_names m types k n s t q e))

enum_shown : (schema : Schema) (hex : Bool) (d e f i : ℕ) (types : Vec ℕ Global) (v : Value) (j : Json) (t : Value-F Value) → NamesTellParts schema → d ≤ f → node_at schema i ≡ Some (node.Enum types) → ((k : ℕ) → Inside schema hex d e f k)
    → out-Value v ≡ t → are_in_range v ≡ true → OfVariant (PayloadHas (SchemaHas d schema.nodes.items) types.items) t → ShowsEnum hex schema i types.items (Shows hex schema e) t j
    → MeansEnum schema (names_at schema i) types.items (λ k. Means schema f k None) (chosen j) t
enum_shown schema hex d e f i types v j (Value-F.Variant n x) t l o each a r h s =
    let has = SchemaHas d schema.nodes.items in
    let tells = subst (λ z. TellsParts z (names_at schema i)) o (t i) in
    let held = payload_at has types.items n x.value h in
    let name = variant_name (names_at schema i) types n tells (payload_within has types.items n x.value h) in
    let shown : ShowsVariant schema (Some name.0) (Some held.0) n (Shows hex schema e) x.value j =
    subst (λ z. ShowsVariant schema (Some name.0) z n (Shows hex schema e) x.value j) held.1 (subst (λ z. ShowsVariant schema z (slice_get types.items n) n (Shows hex schema e) x.value j) name.1 s) in
    by_fields held.0 name.0 (is_empty_named (names_at schema held.0)) refl (first_named (names_at schema i) types n name.0 tells name.1) held.1 held.2 shown
  where
    of_chosen : (k : ℕ) (s : List ℕ) (p : Option Json) → IsIndexOf (names_at schema i) s n → slice_get types.items n ≡ Some k → MeansHolding schema (λ k. Means schema f k None) k p x.value → chosen j ≡ Some (s, p)
        → MeansEnum schema (names_at schema i) types.items (λ k. Means schema f k None) (chosen j) (Value-F.Variant n x)
    of_chosen k s p index type holding q = subst (λ z. MeansEnum schema (names_at schema i) types.items (λ k. Means schema f k None) z (Value-F.Variant n x)) (sym q) (index, (k, type, holding))

    by_fields : (k : ℕ) (s : List ℕ) (b : Bool) → is_empty_named (names_at schema k) ≡ b → IsIndexOf (names_at schema i) s n → slice_get types.items n ≡ Some k → SchemaHas d schema.nodes.items k x.value
        → ShowsChosen b s (Shows hex schema e k x.value) j → MeansEnum schema (names_at schema i) types.items (λ k. Means schema f k None) (chosen j) (Value-F.Variant n x)
    by_fields k s true c index type has z = of_chosen k s None index type (subst (λ b. MayHold b None) (sym c) tt, empty_shown schema d f k x.value t c l has) (ap chosen z)
    by_fields k s false c index type has z =
        of_chosen k s (Some z.0) index type (subst (λ b. MayHold b (Some z.0)) (sym c) tt, each k x.value z.0 (has, sym (variant_range v n x a) ∙ r) z.2) (ap chosen z.1)
enum_shown schema hex d e f i types v j _ t l o each a r h s = absurd h

-- keys

key_leaf_shown : (has : ℕ → Value → Type 0) (n : Node) (t : Value-F Value) → plain_key_node n ≡ true → NodeHas has n t → ranged t ≡ true → KeyMeansPlain (plain_key t) t
key_leaf_shown has node.Bool (Value-F.Bool b) p h r = refl
key_leaf_shown has node.Bool _ p h r = absurd h
key_leaf_shown has node.Char (Value-F.Char c) p h r = refl
key_leaf_shown has node.Char _ p h r = absurd h
key_leaf_shown has node.Text (Value-F.Text s) p h r = refl
key_leaf_shown has node.Text _ p h r = absurd h
key_leaf_shown has (node.TextUpTo m) (Value-F.Text s) p h r = refl
key_leaf_shown has (node.TextUpTo m) _ p h r = absurd h
key_leaf_shown has node.Bytes t p h r = absurd (cc p)
key_leaf_shown has (node.Option i) t p h r = absurd (cc p)
key_leaf_shown has (node.List i) t p h r = absurd (cc p)
key_leaf_shown has (node.ListUpTo m i) t p h r = absurd (cc p)
key_leaf_shown has (node.Array m i) t p h r = absurd (cc p)
key_leaf_shown has (node.Struct is) t p h r = absurd (cc p)
key_leaf_shown has (node.Enum is) t p h r = absurd (cc p)
key_leaf_shown has n t p h r = of_number t n tt h (number_shown has n t tt h r)
  where
    of_number : (u : Value-F Value) (m : Node) → IsNumberNode m → NodeHas has m u → MeansNumber (plain_key u) u → KeyMeansPlain (plain_key u) u
    of_number (Value-F.Bool b) m l k x = absurd x
    of_number (Value-F.Char c) m l k x = absurd x
    of_number (Value-F.Text c) m l k x = absurd x
    of_number _ m l k x = x

enum_key_shown : (schema : Schema) (d : ℕ) (m : Option Names) (types : Vec ℕ Global) (t : Value-F Value) → NamesTellParts schema → TellsParts (Some (node.Enum types)) m → are_empty_named schema types.items ≡ true
    → OfVariant (PayloadHas (SchemaHas d schema.nodes.items) types.items) t → IsNamed schema m types.items (key_named m t) t
enum_key_shown schema d m types (Value-F.Variant n x) t p z h =
    let has = SchemaHas d schema.nodes.items in
    let held = payload_at has types.items n x.value h in
    let name = variant_name m types n p (payload_within has types.items n x.value h) in
    let empty = empty_at schema types.items n held.0 z held.1 in
    let index = first_named m types n name.0 p name.1 in
    let key : variant_key (variant_named m n) n ≡ name.0 = ap (λ o. variant_key o n) name.1 in
    (subst (λ s. IsIndexOf m s n) (sym key) index, (held.0, held.1, no_fields_at schema d held.0 x.value t empty held.2))
enum_key_shown schema d m types _ t p z h = absurd h

key_here_shown : (schema : Schema) (d : ℕ) (v : Value) (o : Option Node) (m : Option Names) → NamesTellParts schema → TellsParts o m → key_node schema o ≡ true → are_in_range v ≡ true → PlaceHas (SchemaHas d schema.nodes.items) o v
    → KeyMeansNode schema m o (key_named m (out-Value v)) (out-Value v)
key_here_shown schema d v None m t p z r h = absurd h
key_here_shown schema d v (Some o) None t p z r h = absurd p
key_here_shown schema d v (Some (node.Enum types)) (Some m) t p z r h = enum_key_shown schema d (Some m) types (out-Value v) t p z h
key_here_shown schema d v (Some n) (Some m) t p z r h =
    subst (λ s. KeyMeansPlain s (out-Value v)) (sym (plain_named (Some m) (SchemaHas d schema.nodes.items) n (out-Value v) z h)) (key_leaf_shown (SchemaHas d schema.nodes.items) n (out-Value v) z h (range_level v r))

key_step_shown : (schema : Schema) (n d f i : ℕ) (v : Value) → NamesTellParts schema
    → ((k : ℕ) (x : Value) → key_within n schema k ≡ true → SchemaHas d schema.nodes.items k x → are_in_range x ≡ true → KeyMeans schema f k (key_at schema (inside_within n schema k x)) x)
    → asked_by (key_within n schema) (key_type schema i) (inside_of schema i) ≡ true → PlaceHas (SchemaHas d schema.nodes.items) (node_at schema i) v → are_in_range v ≡ true
    → KeyMeansBy (inside_of schema i) (λ k x. KeyMeans schema f k (key_at schema (inside_part (inside_within n schema) (i, v) (part_of schema i v))) x)
    (λ x. KeyMeansNode schema (names_at schema i) (node_at schema i) (key_at schema (inside_part (inside_within n schema) (i, v) (part_of schema i v))) (out-Value x)) v
key_step_shown schema n d f i v t inner z h r = by_inside (inside_of schema i) refl z
  where
    key : List ℕ
    key = key_at schema (inside_part (inside_within n schema) (i, v) (part_of schema i v))

    by_inside : (o : Option ℕ) → inside_of schema i ≡ o → asked_by (key_within n schema) (key_type schema i) o ≡ true
        → KeyMeansBy o (λ l x. KeyMeans schema f l key x) (λ x. KeyMeansNode schema (names_at schema i) (node_at schema i) key (out-Value x)) v
    by_inside None e y =
        let plain = not_float (is_float_named (names_at schema i)) (key_node schema (node_at schema i)) y in
        let here : part_of schema i v ≡ None = ap (λ l. typed_part l (only_part (out-Value v))) (no_fields_inside schema (node_at schema i) plain) in
        subst (λ l. KeyMeansNode schema (names_at schema i) (node_at schema i) (key_at schema (inside_part (inside_within n schema) (i, v) l)) (out-Value v)) (sym here)
        (key_here_shown schema d v (node_at schema i) (names_at schema i) t (t i) plain r h)
    by_inside (Some l) e y =
        let struct = inside_struct (is_newtype_named (names_at schema i)) (node_at schema i) l e in
        let one = one_field (SchemaHas d schema.nodes.items) (node_at schema i) l v struct h in
        let here : part_of schema i v ≡ Some (l, one.1) =
        ap (λ o. typed_part o (only_part (out-Value v))) (inside_field (is_newtype_named (names_at schema i)) (only_field (node_at schema i)) l e) ∙ ap (typed_part (Some l)) (only_one v one.1 one.0 one.2 one.3) in (
          one.1,
          only_one v one.1 one.0 one.2 one.3,
          subst (λ o. KeyMeans schema f l (key_at schema (inside_part (inside_within n schema) (i, v) o)) one.1) (sym here)
              (inner l one.1 y one.4 (one_range v one.1 one.0 one.2 one.3 r)),
        )

-- a value that can be a key, is meant by its key
pub key_shown : (schema : Schema) (n d f i : ℕ) (v : Value) → NamesTellParts schema → key_within n schema i ≡ true → d ≤ f → SchemaHas d schema.nodes.items i v → are_in_range v ≡ true
    → KeyMeans schema f i (key_at schema (inside_within n schema i v)) v
unfolding key_within inside_within SchemaHas KeyMeans
key_shown schema zero d f i v t z l h r = absurd (cc z)
key_shown schema (suc n) zero f i v t z l h r = absurd h
key_shown schema (suc n) (suc d) zero i v t z l h r = absurd (omega (arith, l))
key_shown schema (suc n) (suc d) (suc f) i v t z l h r = key_step_shown schema n d f i v t (λ k x a b c. key_shown schema n d f k x t a (omega (arith, l)) b c) z h r

-- pairs

pair_step_shown : (schema : Schema) (hex : Bool) (d e f i : ℕ) (v : Value) (m : List ℕ × Json) → NamesTellParts schema → d ≤ f → ((k : ℕ) → Inside schema hex d e f k) → first_is_key schema (pair_node (node_at schema i)) ≡ true
    → PlaceHas (SchemaHas d schema.nodes.items) (node_at schema i) v → are_in_range v ≡ true → ShowsPair schema i (Shows hex schema e) v m
    → MeansHeld (KeyMeans schema f) (λ k. Means schema f k None) (pair_node (node_at schema i)) (two_values (out-Value v)) m.0 m.1
pair_step_shown schema hex d e f i v m t l each z h r s = by_pair (pair_node (node_at schema i)) refl z s
  where
    by_pair : (o : Option (ℕ × ℕ)) → pair_node (node_at schema i) ≡ o → first_is_key schema o ≡ true → ShowsHeld schema (Shows hex schema e) o (two_values (out-Value v)) m
        → MeansHeld (KeyMeans schema f) (λ k. Means schema f k None) o (two_values (out-Value v)) m.0 m.1
    by_pair None x y a = absurd (cc y)
    by_pair (Some p) x y a =
        let struct = pair_struct (node_at schema i) p x in
        let one = two_fields (SchemaHas d schema.nodes.items) (node_at schema i) p v struct h in
        let seen = two_seen v one.1 one.2 one.0 one.3 one.4 in
        let shown : (m.0 ≡ key_text schema p.0 one.1) × Shows hex schema e p.1 one.2 m.1 = subst (λ u. ShowsHeld schema (Shows hex schema e) (Some p) u m) seen a in
        let ranges = two_range v one.1 one.2 one.0 one.3 one.4 r in
        subst (λ u. MeansHeld (KeyMeans schema f) (λ k. Means schema f k None) (Some p) u m.0 m.1) (sym seen)
        (subst (λ k. KeyMeans schema f p.0 k one.1) (sym shown.0) (key_shown schema (length schema.nodes.items) d f p.0 one.1 t y l one.5 ranges.0), each p.1 one.2 m.1 (one.6, ranges.1) shown.1)

-- values of a node

node_shown : (schema : Schema) (hex : Bool) (d e f i : ℕ) (v : Value) (j : Json) (o : Option Node) (named : Option Names) → NamesTellParts schema → d ≤ e → d ≤ f → ((k : ℕ) → Inside schema hex d e f k)
    → ((k : ℕ) (x : Value) (m : List ℕ × Json) → first_is_key schema (pair_node (node_at schema k)) ≡ true → HasKinds schema d k x → ShowsPair schema k (Shows hex schema e) x m → Means schema f k (Some m.0) m.1 x)
    → node_at schema i ≡ o → names_at schema i ≡ named → are_in_range v ≡ true → PlaceHas (SchemaHas d schema.nodes.items) o v → ShowsNode hex schema i (Shows hex schema e) o (out-Value v) j
    → MeansNode schema named (Means schema f) o j (out-Value v)
node_shown schema hex d e f i v j None named t l m each pairs n q r h s = absurd h
node_shown schema hex d e f i v j (Some o) None t l m each pairs n q r h s = absurd (subst (λ z. TellsParts (Some o) z) q (subst (λ z. TellsParts z (names_at schema i)) n (t i)))
node_shown schema hex d e f i v j (Some (node.Option k)) (Some named) t l m each pairs n q r h s = option_shown schema hex d e f k v j (out-Value v) l (each k) refl r h s
node_shown schema hex d e f i v j (Some (node.List k)) (Some named) t l m each pairs n q r h s =
    list_shown schema hex d e f i k (is_map_named (Some named) && first_is_key schema (pair_node (node_at schema k))) v j (out-Value v) (ap (λ z. is_map_named z && first_is_key schema (pair_node (node_at schema k))) q) (each k) (pairs k) refl r h s
node_shown schema hex d e f i v j (Some (node.ListUpTo p k)) (Some named) t l m each pairs n q r h s =
    list_shown schema hex d e f i k (is_map_named (Some named) && first_is_key schema (pair_node (node_at schema k))) v j (out-Value v) (ap (λ z. is_map_named z && first_is_key schema (pair_node (node_at schema k))) q) (each k) (pairs k) refl r h s
node_shown schema hex d e f i v j (Some (node.Array p k)) (Some named) t l m each pairs n q r h s = array_shown schema hex d e f k v j (out-Value v) (each k) refl r h s
node_shown schema hex d e f i v j (Some (node.Struct types)) (Some named) t l m each pairs n q r h s =
    group_shown schema hex d e f types (Some named) v j (out-Value v) (subst (λ z. TellsParts (Some (node.Struct types)) z) q (subst (λ z. TellsParts z (names_at schema i)) n (t i))) each refl r h
    (subst (λ z. ShowsStruct hex z types.items (Shows hex schema e) (out-Value v) j) q s)
node_shown schema hex d e f i v j (Some (node.Enum types)) (Some named) t l m each pairs n q r h s =
    subst (λ z. MeansEnum schema z types.items (λ k. Means schema f k None) (chosen j) (out-Value v)) q (enum_shown schema hex d e f i types v j (out-Value v) t m n each refl r h s)
node_shown schema hex d e f i v j (Some (node.LE k)) (Some named) t l m each pairs n q r h s =
    fixed_shown (SchemaHas d schema.nodes.items) hex k (Some named) (out-Value v) j (subst (λ z. TellsParts (Some (node.LE k)) z) q (subst (λ z. TellsParts z (names_at schema i)) n (t i))) h (range_level v r)
    (subst (λ z. ShowsInteger (is_float_named z) hex (out-Value v) j) q s)
node_shown schema hex d e f i v j (Some o) (Some named) t l m each pairs n q r h s =
    subst (λ z. MeansPlain z (out-Value v)) (sym s) (leaf_shown (SchemaHas d schema.nodes.items) hex o (out-Value v) tt h (range_level v r))

mutual
  unfolding SchemaHas Shows Means

  -- what is shown of a value means it
  pub value_shown : (schema : Schema) (hex : Bool) (d e f i : ℕ) (v : Value) (j : Json) → NamesTellParts schema → d ≤ e → d ≤ f → HasKinds schema d i v → Shows hex schema e i v j → Means schema f i None j v
  value_shown schema hex zero e f i v j t l m h s = absurd h.0
  value_shown schema hex (suc d) zero f i v j t l m h s = absurd (omega (arith, l))
  value_shown schema hex (suc d) (suc e) zero i v j t l m h s = absurd (omega (arith, m))
  value_shown schema hex (suc d) (suc e) (suc f) i v j t l m h s =
      node_shown schema hex d e f i v j (node_at schema i) (names_at schema i) t (omega (arith, l)) (omega (arith, m)) (λ k x z a b. value_shown schema hex d e f k x z t (omega (arith, l)) (omega (arith, m)) a b)
      (λ k x p z a b. pair_shown schema hex d e f k x p t (omega (arith, l)) (omega (arith, m)) z a b) refl refl h.1 h.0 s

  pub pair_shown : (schema : Schema) (hex : Bool) (d e f i : ℕ) (v : Value) (m : List ℕ × Json) → NamesTellParts schema → d ≤ e → d ≤ f → first_is_key schema (pair_node (node_at schema i)) ≡ true → HasKinds schema d i v
      → ShowsPair schema i (Shows hex schema e) v m → Means schema f i (Some m.0) m.1 v
  pair_shown schema hex zero e f i v m t l n z h s = absurd h.0
  pair_shown schema hex (suc d) e zero i v m t l n z h s = absurd (omega (arith, n))
  pair_shown schema hex (suc d) e (suc f) i v m t l n z h s =
      pair_step_shown schema hex d e f i v m t (omega (arith, n)) (λ k x j a b. value_shown schema hex d e f k x j t (omega (arith, l)) (omega (arith, n)) a b) z h.0 h.1 s

-- texts

-- the JSON of a text is read, if it nests in so many brackets at most
json_read : (text : List ℕ) (j : Json) (n : ℕ) → IsJsonOf text j → depth j ≤ n → json_value n (tokens text) ≡ Some (j, [])
json_read text j n h l = ap (json_value n) (h ∙ sym (append-nil (json_tokens j))) ∙ value-json_tokens j n [] l

line_utf8 : (text : List ℕ) → IsUtf8 text → IsUtf8 (line_inside text)
line_utf8 text u = IsUtf8-append (codes "{\"value\":") (text ++ codes "}") (IsUtf8-are_ascii (codes "{\"value\":") refl) (IsUtf8-append text (codes "}") u (IsUtf8-are_ascii (codes "}") refl))

-- what is printed of a value that fits its type, means it to each greater depth
fit_shown : (schema : Schema) (hex : Bool) (d f i : ℕ) (v : Value) (j : Json) → NamesTellParts schema → d ≤ f → Fits schema d i v → Shows hex schema d i v j → Means schema f i None j v
fit_shown schema hex d f i v j t l h s = value_shown schema hex d d f i v j t (omega arith) l (h.0.2, h.1) s

pub printed_taken : (schema : Schema) (i : ℕ) → NamesTellParts schema → TakesPrinted schema i
printed_taken schema i t hex d f v text h l s bare =
    let nests = shown_nests hex schema d i v s.0 s.3 in
    (s.4, (s.0, json_read text s.0 (2 * f + 2) s.2 (omega (arith, nests, l)), inr (λ k e. absurd (bare s.0 k s.2 e), fit_shown schema hex d f i v s.0 t l h s.3)))

pub line_taken : (schema : Schema) (i : ℕ) → NamesTellParts schema → TakesLine schema i
line_taken schema i t hex d f v text h l s =
    let nests = shown_nests hex schema d i v s.0 s.3 in
    let line : Json = object (member (codes "value") s.0 no_members) in
    let read : json_value (2 * f + 2) (tokens (line_inside text)) ≡ Some (line, []) = json_read (line_inside text) line (2 * f + 2) (line_json text s.0 s.1 s.2) (omega (arith, nests, l)) in
    (line_utf8 text s.4, (line, read, inl (s.0, refl, fit_shown schema hex d f i v s.0 t l h s.3)))

pub line_back : (schema : Schema) (i : ℕ) → NamesTellParts schema → ReadsLine schema i
line_back schema i t hex d f v w text h g l s m = by_line m.1.2
  where
    same : object (member (codes "value") s.0 no_members) ≡ m.1.0
    same = read_json (line_inside text) (object (member (codes "value") s.0 no_members)) m.1.0 (2 * f + 2) (line_json text s.0 s.1 s.2) m.1.1

    by_line : MeansLine schema f i m.1.0 w → AreOneTree v w
    by_line (inl x) =
        let inside : object (member (codes "value") x.0 no_members) ≡ object (member (codes "value") s.0 no_members) = sym x.1 ∙ sym same in
        let one : x.0 ≡ s.0 = cc in
        value_back schema hex d d f i v w s.0 t (omega arith) (h.0.2, h.1) g.2 s.3 (subst (λ j. Means schema f i None j w) one x.2)
    by_line (inr x) = absurd (x.0 s.0 (sym same) v (fits_deeper schema d f i v l h) (fit_shown schema hex d f i v s.0 t l h s.3))

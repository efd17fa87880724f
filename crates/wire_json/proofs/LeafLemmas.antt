-- What is read from a printed value without parts.
use Rattle.std.specs.Prelude.{◌≡◌, ◌⊎◌, ◌<◌, ◌≤◌, ◌^◌, ◌+◌, ◌*◌, ◌&&◌, ℕ, ℤ, zero, suc, Bool, true, false, Option, Some, None, List, [], ◌∷◌, ◌++◌, nat_lt, decimal, encode_utf8, if◌then◌else◌, from_bits, Ok}
use Rattle.std.specs.Fmt.{signed_decimal}
use Rattle.std.specs.Float.{Format, binary32, binary64, float_is_finite}
use Rattle.std.specs.Int.{Width, w8, w32, w64, cast_unsigned, to_be_bytes, from_be_bytes}
use Rattle.std.specs.Int.Signed.{mag}
use Rattle.std.specs.Str.{encode_utf8_all as encodes}
use Rattle.std.proofs.Common.{refl, sym, ap, ◌∙◌, subst, arith, inl, inr}
use Rattle.std.proofs.lemmas.Bool.{ltb-true}
use Rattle.std.proofs.lemmas.List.{append-nil}
use Rattle.std.proofs.lemmas.Nat.{from_be_bytes-to_be_bytes_4, from_be_bytes-to_be_bytes_8}
use Rattle.std.proofs.lemmas.Str.{cons_from_encodes}
use Rattle.fast_float.specs.Parse.{parse_float}
use Rattle.hex.specs.Hex.{encode_lower, decode_of, IsBytes}
use Rattle.hex.proofs.HexLemmas.{decode_of-encode_lower, decode_of-same}
use Rattle.json.specs.Json.{Json, number, string, array}
use Rattle.json.specs.Word.{after_number}
use Rattle.postcard_tree.specs.Tree.{Tree, byte, character, text_of, zigzag}
use Rattle.postcard_tree.specs.Tree.{number as wire_number}
use Rattle.schema_table.specs.declared.node.Node.{Node}
use Rattle.schema_table.specs.declared.node.Node.TheVariants as node
use Rattle.schema_table.specs.declared.integer.Integer.{Integer}
use Rattle.schema_table.specs.declared.integer.Integer.TheVariants as integers
use Rattle.schema_table.specs.declared.value.Value.{Value, out-Value, fold_out-Value, map-Value}
use Rattle.schema_table.specs.declared.value.Value.TheOpen.{Value-F}
use Rattle.schema_table.specs.Integers.{type_of, little_tree_of, big_tree_of}
use Rattle.schema_table.specs.Schemas.{NodeHas}
use Rattle.schema_table.specs.Values.{tree_of, tree_step, AreOneTree}
use Rattle.schema_table.specs.Floats.{ShowsFinite, word_of}
use Rattle.wire_json.specs.Floats.{IsNanOf}
use Rattle.wire_json.specs.InRange.{is_in_range, are_bytes, range_step, are_in_range}
use Rattle.schema_table.specs.Looks.{integer_key, plain_key}
use Rattle.wire_json.specs.Meant.{IsInteger, MeansNumber, MeansBytes, AreBytesOf, MeansPlain, MeansFloat}
use Rattle.schema_table.specs.Printed.{digits_by, integer_json, byte_items, bytes_json, plain_json, ShowsFloat}
use Rattle.wire_json.specs.Refused.{IsNumberNode}
use Rattle.wire_json.proofs.NumeralLemmas.{unsigned_back, signed_back}
use Rattle.wire_json.proofs.WordLemmas.{word_back, bits_back}
use lib.Ieee.{top}

-- one level

-- the tree of a value by its top
abbrev pub level : Value-F Value → Tree
level t = tree_step (map-Value Value Tree tree_of t)

-- whether its integers are in range
abbrev pub ranged : Value-F Value → Bool
ranged t = range_step (map-Value Value Bool are_in_range t)

pub same_level : (v w : Value) → level (out-Value v) ≡ level (out-Value w) → AreOneTree v w
same_level v w h = fold_out-Value Tree tree_step v ∙ h ∙ sym (fold_out-Value Tree tree_step w)

pub range_level : (v : Value) → are_in_range v ≡ true → ranged (out-Value v) ≡ true
range_level v h = sym (fold_out-Value Bool range_step v) ∙ h

-- numbers

-- below 10 ^ 64, as those of 128 bits are
pub small : (n k : ℕ) → k ≤ 2 ^ 128 → nat_lt n k ≡ true → n < 10 ^ 64
small n k l h = omega (arith, l, ltb-true n k h)

pub small_sign : (z : ℤ) (k : ℕ) → k ≤ 2 ^ 128 → nat_lt (mag z) k ≡ true → mag z + 1 < 10 ^ 64
small_sign z k l h = omega (arith, l, ltb-true (mag z) k h)

-- what is read of an integer's digits
integer_back : (i l : Integer) → type_of i ≡ type_of l → is_in_range i ≡ true → IsInteger (integer_key i) l → l ≡ i
integer_back (integers.U16 n) (integers.U16 m) e r h = ap integers.U16 (unsigned_back n m (small n (2 ^ 16) (omega arith) r) h)
integer_back (integers.U16 n) _ e r h = absurd (cc e)
integer_back (integers.U32 n) (integers.U32 m) e r h = ap integers.U32 (unsigned_back n m (small n (2 ^ 32) (omega arith) r) h)
integer_back (integers.U32 n) _ e r h = absurd (cc e)
integer_back (integers.U64 n) (integers.U64 m) e r h = ap integers.U64 (unsigned_back n m (small n (2 ^ 64) (omega arith) r) h)
integer_back (integers.U64 n) _ e r h = absurd (cc e)
integer_back (integers.U128 n) (integers.U128 m) e r h = ap integers.U128 (unsigned_back n m (small n (2 ^ 128) (omega arith) r) h)
integer_back (integers.U128 n) _ e r h = absurd (cc e)
integer_back (integers.I16 z) (integers.I16 y) e r h = ap integers.I16 (signed_back z y (small_sign z (2 ^ 15) (omega arith) r) h)
integer_back (integers.I16 z) _ e r h = absurd (cc e)
integer_back (integers.I32 z) (integers.I32 y) e r h = ap integers.I32 (signed_back z y (small_sign z (2 ^ 31) (omega arith) r) h)
integer_back (integers.I32 z) _ e r h = absurd (cc e)
integer_back (integers.I64 z) (integers.I64 y) e r h = ap integers.I64 (signed_back z y (small_sign z (2 ^ 63) (omega arith) r) h)
integer_back (integers.I64 z) _ e r h = absurd (cc e)
integer_back (integers.I128 z) (integers.I128 y) e r h = ap integers.I128 (signed_back z y (small_sign z (2 ^ 127) (omega arith) r) h)
integer_back (integers.I128 z) _ e r h = absurd (cc e)

-- what is read of a number's digits
pub number_back : (has is : ℕ → Value → Type 0) (n : Node) (t u : Value-F Value) → IsNumberNode n → NodeHas has n t → NodeHas is n u → ranged t ≡ true → MeansNumber (plain_key t) u → level t ≡ level u
number_back has is node.U8 (Value-F.U8 a) (Value-F.U8 b) l h k r m = ap byte (sym (unsigned_back a b (small a (2 ^ 8) (omega arith) r) m))
number_back has is node.U8 (Value-F.U8 a) _ l h k r m = absurd k
number_back has is node.U8 _ u l h k r m = absurd h
number_back has is node.U16 (Value-F.U16 a) (Value-F.U16 b) l h k r m = ap (wire_number 16) (sym (unsigned_back a b (small a (2 ^ 16) (omega arith) r) m))
number_back has is node.U16 (Value-F.U16 a) _ l h k r m = absurd k
number_back has is node.U16 _ u l h k r m = absurd h
number_back has is node.U32 (Value-F.U32 a) (Value-F.U32 b) l h k r m = ap (wire_number 32) (sym (unsigned_back a b (small a (2 ^ 32) (omega arith) r) m))
number_back has is node.U32 (Value-F.U32 a) _ l h k r m = absurd k
number_back has is node.U32 _ u l h k r m = absurd h
number_back has is node.U64 (Value-F.U64 a) (Value-F.U64 b) l h k r m = ap (wire_number 64) (sym (unsigned_back a b (small a (2 ^ 64) (omega arith) r) m))
number_back has is node.U64 (Value-F.U64 a) _ l h k r m = absurd k
number_back has is node.U64 _ u l h k r m = absurd h
number_back has is node.U128 (Value-F.U128 a) (Value-F.U128 b) l h k r m = ap (wire_number 128) (sym (unsigned_back a b (small a (2 ^ 128) (omega arith) r) m))
number_back has is node.U128 (Value-F.U128 a) _ l h k r m = absurd k
number_back has is node.U128 _ u l h k r m = absurd h
number_back has is node.I8 (Value-F.I8 a) (Value-F.I8 b) l h k r m = ap (λ z. byte (cast_unsigned w8 z)) (sym (signed_back a b (small_sign a (2 ^ 7) (omega arith) r) m))
number_back has is node.I8 (Value-F.I8 a) _ l h k r m = absurd k
number_back has is node.I8 _ u l h k r m = absurd h
number_back has is node.I16 (Value-F.I16 a) (Value-F.I16 b) l h k r m = ap (λ z. wire_number 16 (zigzag z)) (sym (signed_back a b (small_sign a (2 ^ 15) (omega arith) r) m))
number_back has is node.I16 (Value-F.I16 a) _ l h k r m = absurd k
number_back has is node.I16 _ u l h k r m = absurd h
number_back has is node.I32 (Value-F.I32 a) (Value-F.I32 b) l h k r m = ap (λ z. wire_number 32 (zigzag z)) (sym (signed_back a b (small_sign a (2 ^ 31) (omega arith) r) m))
number_back has is node.I32 (Value-F.I32 a) _ l h k r m = absurd k
number_back has is node.I32 _ u l h k r m = absurd h
number_back has is node.I64 (Value-F.I64 a) (Value-F.I64 b) l h k r m = ap (λ z. wire_number 64 (zigzag z)) (sym (signed_back a b (small_sign a (2 ^ 63) (omega arith) r) m))
number_back has is node.I64 (Value-F.I64 a) _ l h k r m = absurd k
number_back has is node.I64 _ u l h k r m = absurd h
number_back has is node.I128 (Value-F.I128 a) (Value-F.I128 b) l h k r m = ap (λ z. wire_number 128 (zigzag z)) (sym (signed_back a b (small_sign a (2 ^ 127) (omega arith) r) m))
number_back has is node.I128 (Value-F.I128 a) _ l h k r m = absurd k
number_back has is node.I128 _ u l h k r m = absurd h
number_back has is (node.LE n) (Value-F.LE a) (Value-F.LE b) l h k r m = ap little_tree_of (sym (integer_back a b (h ∙ sym k) r m))
number_back has is (node.LE n) (Value-F.LE a) _ l h k r m = absurd k
number_back has is (node.LE n) _ u l h k r m = absurd h
number_back has is (node.BE n) (Value-F.BE a) (Value-F.BE b) l h k r m = ap big_tree_of (sym (integer_back a b (h ∙ sym k) r m))
number_back has is (node.BE n) (Value-F.BE a) _ l h k r m = absurd k
number_back has is (node.BE n) _ u l h k r m = absurd h
number_back has is _ t u l h k r m = absurd l

digits_number : (o : Option (List ℕ)) (s : List ℕ) (u : Value-F Value) → ((t : List ℕ) → MeansPlain (string t) u → ⊥) → MeansPlain (digits_by o s) u → MeansNumber s u
digits_number None s u f h = absurd (f s h)
digits_number (Some []) s u f h = h
digits_number (Some (c ∷ cs)) s u f h = absurd (f s h)

-- an integer's JSON is its digits
integer_digits : (i : Integer) (u : Value-F Value) → ((t : List ℕ) → MeansPlain (string t) u → ⊥) → MeansPlain (integer_json i) u → MeansNumber (integer_key i) u
integer_digits (integers.U128 n) u f h = digits_number (after_number (decimal n)) (decimal n) u f h
integer_digits (integers.I128 z) u f h = digits_number (after_number (signed_decimal z)) (signed_decimal z) u f h
integer_digits _ u f h = h

-- characters

pub character_back : (c d : ℕ) → encode_utf8 c ≡ encode_utf8 d → c ≡ d
character_back c d e =
    let k : encodes (c ∷ []) ≡ encode_utf8 d ++ [] = append-nil (encode_utf8 c) ∙ (e ∙ sym (append-nil (encode_utf8 d))) in
    let m = cons_from_encodes (c ∷ []) [] d k in
    let q : c ∷ [] ≡ d ∷ m.0 = m.1 in
    cc

-- bytes

pub both_true : (a b : Bool) → (a && b) ≡ true → (a ≡ true) × (b ≡ true)
both_true true b h = (refl, h)
both_true false b h = absurd (cc h)

pub bytes_in_range : (bs : List ℕ) → are_bytes bs ≡ true → IsBytes bs
bytes_in_range [] h i = omega arith
bytes_in_range (b ∷ bs) h zero = ltb-true b 256 (both_true (nat_lt b 256) (are_bytes bs) h).0
bytes_in_range (b ∷ bs) h (suc i) = bytes_in_range bs (both_true (nat_lt b 256) (are_bytes bs) h).1 i

pub hex_back : (bs cs : List ℕ) → IsBytes bs → decode_of (encode_lower bs) ≡ Ok cs → bs ≡ cs
hex_back bs cs h e = decode_of-same (encode_lower bs) bs cs (decode_of-encode_lower bs h) e

numbers_back : (bs cs : List ℕ) → are_bytes bs ≡ true → MeansBytes (byte_items bs) cs → bs ≡ cs
numbers_back [] [] h m = refl
numbers_back [] (c ∷ cs) h m = absurd m
numbers_back (b ∷ bs) [] h m = absurd m
numbers_back (b ∷ bs) (c ∷ cs) h m =
    let both = both_true (nat_lt b 256) (are_bytes bs) h in
    let first : c ≡ b = unsigned_back b c (small b 256 (omega arith) both.0) m.0 in
    ap (λ z. z ∷ bs) (sym first) ∙ ap (λ zs. c ∷ zs) (numbers_back bs cs both.1 m.1)

bytes_back : (hex : Bool) (bs cs : List ℕ) → are_bytes bs ≡ true → AreBytesOf (bytes_json hex bs) cs → bs ≡ cs
bytes_back true bs cs h m = hex_back bs cs (bytes_in_range bs h) m
bytes_back false bs cs h m = numbers_back bs cs h m

bytes_of_json : (j : Json) (v : _) → MeansPlain j (Value-F.Bytes v) → AreBytesOf j v.items
bytes_of_json (array js) v h = h
bytes_of_json (string s) v h = h
bytes_of_json _ v h = absurd h

-- a value without parts: a node with parts inside has none

abbrev pub IsLeaf : Node → Type 0
IsLeaf (node.Option k) = ⊥
IsLeaf (node.List k) = ⊥
IsLeaf (node.ListUpTo n k) = ⊥
IsLeaf (node.Array n k) = ⊥
IsLeaf (node.Struct is) = ⊥
IsLeaf (node.Enum is) = ⊥
IsLeaf _ = Unit {0}

pub leaf_back : (has is : ℕ → Value → Type 0) (hex : Bool) (n : Node) (t u : Value-F Value) → IsLeaf n → NodeHas has n t → NodeHas is n u → ranged t ≡ true → MeansPlain (plain_json hex t) u → level t ≡ level u
leaf_back has is hex node.Bool (Value-F.Bool b) (Value-F.Bool c) l h k r m = ap (λ z. byte (if z then 1 else 0)) (sym m)
leaf_back has is hex node.Bool (Value-F.Bool b) _ l h k r m = absurd k
leaf_back has is hex node.Bool _ u l h k r m = absurd h
leaf_back has is hex node.U8 (Value-F.U8 a) u l h k r m = number_back has is node.U8 (Value-F.U8 a) u tt h k r m
leaf_back has is hex node.U8 _ u l h k r m = absurd h
leaf_back has is hex node.U16 (Value-F.U16 a) u l h k r m = number_back has is node.U16 (Value-F.U16 a) u tt h k r m
leaf_back has is hex node.U16 _ u l h k r m = absurd h
leaf_back has is hex node.U32 (Value-F.U32 a) u l h k r m = number_back has is node.U32 (Value-F.U32 a) u tt h k r m
leaf_back has is hex node.U32 _ u l h k r m = absurd h
leaf_back has is hex node.U64 (Value-F.U64 a) u l h k r m = number_back has is node.U64 (Value-F.U64 a) u tt h k r m
leaf_back has is hex node.U64 _ u l h k r m = absurd h
leaf_back has is hex node.I8 (Value-F.I8 a) u l h k r m = number_back has is node.I8 (Value-F.I8 a) u tt h k r m
leaf_back has is hex node.I8 _ u l h k r m = absurd h
leaf_back has is hex node.I16 (Value-F.I16 a) u l h k r m = number_back has is node.I16 (Value-F.I16 a) u tt h k r m
leaf_back has is hex node.I16 _ u l h k r m = absurd h
leaf_back has is hex node.I32 (Value-F.I32 a) u l h k r m = number_back has is node.I32 (Value-F.I32 a) u tt h k r m
leaf_back has is hex node.I32 _ u l h k r m = absurd h
leaf_back has is hex node.I64 (Value-F.I64 a) u l h k r m = number_back has is node.I64 (Value-F.I64 a) u tt h k r m
leaf_back has is hex node.I64 _ u l h k r m = absurd h
leaf_back has is hex node.U128 (Value-F.U128 a) (Value-F.U128 b) l h k r m =
    number_back has is node.U128 (Value-F.U128 a) (Value-F.U128 b) tt h k r (digits_number (after_number (decimal a)) (decimal a) (Value-F.U128 b) (λ t x. x) m)
leaf_back has is hex node.U128 (Value-F.U128 a) _ l h k r m = absurd k
leaf_back has is hex node.U128 _ u l h k r m = absurd h
leaf_back has is hex node.I128 (Value-F.I128 a) (Value-F.I128 b) l h k r m =
    number_back has is node.I128 (Value-F.I128 a) (Value-F.I128 b) tt h k r (digits_number (after_number (signed_decimal a)) (signed_decimal a) (Value-F.I128 b) (λ t x. x) m)
leaf_back has is hex node.I128 (Value-F.I128 a) _ l h k r m = absurd k
leaf_back has is hex node.I128 _ u l h k r m = absurd h
leaf_back has is hex (node.LE n) (Value-F.LE a) (Value-F.LE b) l h k r m = number_back has is (node.LE n) (Value-F.LE a) (Value-F.LE b) tt h k r (integer_digits a (Value-F.LE b) (λ t x. x) m)
leaf_back has is hex (node.LE n) (Value-F.LE a) _ l h k r m = absurd k
leaf_back has is hex (node.LE n) _ u l h k r m = absurd h
leaf_back has is hex (node.BE n) (Value-F.BE a) (Value-F.BE b) l h k r m = number_back has is (node.BE n) (Value-F.BE a) (Value-F.BE b) tt h k r (integer_digits a (Value-F.BE b) (λ t x. x) m)
leaf_back has is hex (node.BE n) (Value-F.BE a) _ l h k r m = absurd k
leaf_back has is hex (node.BE n) _ u l h k r m = absurd h
leaf_back has is hex node.Char (Value-F.Char a) (Value-F.Char b) l h k r m = ap character (character_back a b m)
leaf_back has is hex node.Char (Value-F.Char a) _ l h k r m = absurd k
leaf_back has is hex node.Char _ u l h k r m = absurd h
leaf_back has is hex node.Text (Value-F.Text a) (Value-F.Text b) l h k r m = ap text_of (sym m)
leaf_back has is hex node.Text (Value-F.Text a) _ l h k r m = absurd k
leaf_back has is hex node.Text _ u l h k r m = absurd h
leaf_back has is hex (node.TextUpTo n) (Value-F.Text a) (Value-F.Text b) l h k r m = ap text_of (sym m)
leaf_back has is hex (node.TextUpTo n) (Value-F.Text a) _ l h k r m = absurd k
leaf_back has is hex (node.TextUpTo n) _ u l h k r m = absurd h
leaf_back has is hex node.Bytes (Value-F.Bytes a) (Value-F.Bytes b) l h k r m = ap text_of (bytes_back hex a.items b.items r (bytes_of_json (bytes_json hex a.items) b m))
leaf_back has is hex node.Bytes (Value-F.Bytes a) _ l h k r m = absurd k
leaf_back has is hex node.Bytes _ u l h k r m = absurd h
leaf_back has is hex _ t u l h k r m = absurd l

-- floats

float_word : (b : Bool) (f : Format) (w : Width) (infinity below usual n m : ℕ) (j : Json) (i : Integer) → from_be_bytes w (to_be_bytes w n) ≡ n → n < 2 * top f → float_is_finite (from_bits f n) ≡ b
    → ((s : List ℕ) → MeansFloat (number s) (Value-F.LE i) → (m < 2 * top f) × (parse_float f s ≡ Some (from_bits f m)))
    → ((s : List ℕ) → MeansFloat (string s) (Value-F.LE i) → (from_be_bytes w (to_be_bytes w m) ≡ m) × ((s ≡ word_of w infinity below usual m) ⊎ IsNanOf w s m))
    → ShowsFinite b f (from_bits f n) (word_of w infinity below usual n) j → MeansFloat j (Value-F.LE i) → m ≡ n
float_word true f w infinity below usual n m j i e a is means word h k =
    let read = means h.0 (subst (λ z. MeansFloat z (Value-F.LE i)) h.1 k) in
    let same : Some (from_bits f n) ≡ Some (from_bits f m) = sym h.2 ∙ read.1 in
    bits_back f n m a read.0 is (cc)
float_word false f w infinity below usual n m j i e a is means word h k =
    let read = word (word_of w infinity below usual n) (subst (λ z. MeansFloat z (Value-F.LE i)) h k) in
    word_back w infinity below usual n m e read.0 read.1

without : {A B C : Type 0} → A ⊎ (B × C) → A ⊎ B
without (inl a) = inl a
without (inr b) = inr b.0

digits_float : (o : Option (List ℕ)) (s : List ℕ) (l : Integer) → ((t : List ℕ) → MeansFloat (string t) (Value-F.LE l) → ⊥) → ((t : List ℕ) → MeansFloat (number t) (Value-F.LE l) → ⊥) → MeansFloat (digits_by o s) (Value-F.LE l) → ⊥
digits_float None s l f g h = f s h
digits_float (Some []) s l f g h = g s h
digits_float (Some (c ∷ cs)) s l f g h = f s h

pub float_back : (i l : Integer) (j : Json) → type_of i ≡ type_of l → is_in_range i ≡ true → ShowsFloat i j → MeansFloat j (Value-F.LE l) → l ≡ i
float_back (integers.U32 n) (integers.U32 m) j e r h k =
    let a = ltb-true n (2 ^ 32) r in
    ap integers.U32 (float_word (float_is_finite (from_bits binary32 n)) binary32 w32 0x7f800000 0xff800000 0x7fc00000 n m j (integers.U32 m) (from_be_bytes-to_be_bytes_4 n a) (omega (arith, a)) refl
    (λ s x. (omega (arith, x.0), x.1.0)) (λ s x. (from_be_bytes-to_be_bytes_4 m x.0, without x.1.1)) h k)
float_back (integers.U32 n) _ j e r h k = absurd (cc e)
float_back (integers.U64 n) (integers.U64 m) j e r h k =
    let a = ltb-true n (2 ^ 64) r in
    ap integers.U64 (float_word (float_is_finite (from_bits binary64 n)) binary64 w64 0x7ff0000000000000 0xfff0000000000000 0x7ff8000000000000 n m j (integers.U64 m) (from_be_bytes-to_be_bytes_8 n a) (omega (arith, a)) refl
    (λ s x. (omega (arith, x.0), x.1.0)) (λ s x. (from_be_bytes-to_be_bytes_8 m x.0, without x.1.1)) h k)
float_back (integers.U64 n) _ j e r h k = absurd (cc e)
float_back (integers.U128 n) (integers.U128 m) j e r h k = absurd (digits_float (after_number (decimal n)) (decimal n) (integers.U128 m) (λ t x. x) (λ t x. x) (subst (λ z. MeansFloat z (Value-F.LE (integers.U128 m))) h k))
float_back (integers.U128 n) _ j e r h k = absurd (cc e)
float_back (integers.I128 n) (integers.I128 m) j e r h k =
    absurd (digits_float (after_number (signed_decimal n)) (signed_decimal n) (integers.I128 m) (λ t x. x) (λ t x. x) (subst (λ z. MeansFloat z (Value-F.LE (integers.I128 m))) h k))
float_back (integers.I128 n) _ j e r h k = absurd (cc e)
float_back (integers.U16 n) (integers.U16 m) j e r h k = absurd (subst (λ z. MeansFloat z (Value-F.LE (integers.U16 m))) h k)
float_back (integers.U16 n) _ j e r h k = absurd (cc e)
float_back (integers.I16 n) (integers.I16 m) j e r h k = absurd (subst (λ z. MeansFloat z (Value-F.LE (integers.I16 m))) h k)
float_back (integers.I16 n) _ j e r h k = absurd (cc e)
float_back (integers.I32 n) (integers.I32 m) j e r h k = absurd (subst (λ z. MeansFloat z (Value-F.LE (integers.I32 m))) h k)
float_back (integers.I32 n) _ j e r h k = absurd (cc e)
float_back (integers.I64 n) (integers.I64 m) j e r h k = absurd (subst (λ z. MeansFloat z (Value-F.LE (integers.I64 m))) h k)
float_back (integers.I64 n) _ j e r h k = absurd (cc e)

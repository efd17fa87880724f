-- When no number is read.
use Rattle.std.specs.Prelude.{◌≡◌, ◌≢◌, ◌<◌, ◌^◌, ℕ, ℤ, List, [], Bool, true, false, Option, Some, None, Result, Ok, Err, is_ok, is_some, nat_lt, String}
use Rattle.std.specs.Borrow.{Bor}
use Rattle.std.specs.Global.{Global, Vec}
use Rattle.std.specs.Int.{Width}
use Rattle.std.specs.Int.Signed.{mag}
use Rattle.std.specs.Str.Parse.{IsNumeral, ParsesUnsigned, ParsesSigned, digits_value, signed_digits_value, without_leading_plus, without_leading_sign}
use Rattle.std.proofs.Common.{refl, sym, ap, ◌∙◌, subst, true≢false}
use Rattle.std.proofs.lemmas.Bool.{ltb-true}
use Rattle.json.specs.Json.{Json, boolean, number, string}
use Rattle.json.specs.Value.{value_view}
use Rattle.json.specs.declared.value.Value as json
use Rattle.schema_table.specs.declared.integer.IntegerType.{IntegerType}
use Rattle.schema_table.specs.declared.node.Node.{Node}
use Rattle.schema_table.specs.declared.node.Node.TheVariants as node
use Rattle.schema_table.specs.declared.schema.Names.{Names}
use Rattle.schema_table.specs.declared.schema.Schema.{Schema}
use Rattle.schema_table.specs.declared.integer.Integer.{Integer}
use Rattle.schema_table.specs.declared.value.Value.{Value, out-Value, fold_out-Value, map-Value}
use Rattle.schema_table.specs.declared.value.Value.TheOpen.{Value-F}
use Rattle.schema_table.specs.Schemas.{AtTop, NodeHas, SchemaHas, OfBool, OfChar, OfText}
use mir.Val.{hbits}
use Rattle.wire_json.specs.declared.wrong.ParseError.{ParseError}
use Rattle.wire_json.specs.InRange.{InRange, IsIntegerOf, range_step, are_in_range}
use Rattle.schema_table.specs.Looks.{is_float_named, truth_key}
use Rattle.wire_json.specs.Meant.{IsInteger, IsSigned, IsUnsigned, KeyMeansPlain, MeansFixed, MeansFloat, MeansNode, MeansNumber, MeansPlain}
use Rattle.wire_json.specs.Parsed.{IsOfLeaf}
use Rattle.wire_json.specs.Refused.{IfNone, IfWrong, IsNumberNode, NoneOf}
use Rattle.wire_json.proofs.LeafRefusals.{stands_as}

-- one level

-- whether the integers of a value are in range, by its top
abbrev pub ranged : Value-F Value → Bool
ranged t = range_step (map-Value Value Bool are_in_range t)

range_level : (v : Value) → are_in_range v ≡ true → ranged (out-Value v) ≡ true
range_level v h = sym (fold_out-Value Bool range_step v) ∙ h

-- where no top of this kind is meant, no value is
pub none_in_range : (n : Node) (means : Value-F Value → Type 0) → ((top : Value-F Value) → NodeHas (SchemaHas 0 []) n top → ranged top ≡ true → means top → ⊥) → NoneOf (InRange (IsOfLeaf n)) (AtTop means)
none_in_range n means f v of m = f (out-Value v) (of.0 0 []).1 (range_level v of.1) m

-- numerals

-- a numeral of so many bits
abbrev pub IsShort : ℕ → List ℕ → Type 0
IsShort k s = IsNumeral 10 (without_leading_plus s) × (digits_value 10 (without_leading_plus s) < 2 ^ k)

-- the same with a sign
abbrev pub IsShortSigned : ℕ → List ℕ → Type 0
IsShortSigned k s = IsNumeral 10 (without_leading_sign s) × (mag (signed_digits_value 10 s) < 2 ^ k)

is_short : (k : ℕ) (s : List ℕ) (n : ℕ) → nat_lt n (2 ^ k) ≡ true → IsUnsigned s n → IsShort k s
is_short k s n r h = (h.0, subst (λ m. m < 2 ^ k) h.1 (ltb-true n (2 ^ k) r))

is_short_signed : (k : ℕ) (s : List ℕ) (z : ℤ) → nat_lt (mag z) (2 ^ k) ≡ true → IsSigned s z → IsShortSigned k s
is_short_signed k s z r h = (h.0, subst (λ y. mag y < 2 ^ k) h.1 (ltb-true (mag z) (2 ^ k) r))

-- a text is a number of this type
abbrev pub IsNumberOf : Node → List ℕ → Type 0
IsNumberOf node.U8 s = IsShort 8 s
IsNumberOf node.U16 s = IsShort 16 s
IsNumberOf node.U32 s = IsShort 32 s
IsNumberOf node.U64 s = IsShort 64 s
IsNumberOf node.U128 s = IsShort 128 s
IsNumberOf node.I8 s = IsShortSigned 7 s
IsNumberOf node.I16 s = IsShortSigned 15 s
IsNumberOf node.I32 s = IsShortSigned 31 s
IsNumberOf node.I64 s = IsShortSigned 63 s
IsNumberOf node.I128 s = IsShortSigned 127 s
IsNumberOf (node.LE k) s = (i : Integer) × IsIntegerOf k i × IsInteger s i
IsNumberOf (node.BE k) s = (i : Integer) × IsIntegerOf k i × IsInteger s i
IsNumberOf _ s = ⊥

-- so it is, if it means one in range
is_number : (has : ℕ → Value → Type 0) (n : Node) (s : List ℕ) (top : Value-F Value) → NodeHas has n top → ranged top ≡ true → MeansNumber s top → IsNumberOf n s
is_number has node.U8 s (Value-F.U8 a) h r m = is_short 8 s a r m
is_number has node.U8 s _ h r m = absurd h
is_number has node.U16 s (Value-F.U16 a) h r m = is_short 16 s a r m
is_number has node.U16 s _ h r m = absurd h
is_number has node.U32 s (Value-F.U32 a) h r m = is_short 32 s a r m
is_number has node.U32 s _ h r m = absurd h
is_number has node.U64 s (Value-F.U64 a) h r m = is_short 64 s a r m
is_number has node.U64 s _ h r m = absurd h
is_number has node.U128 s (Value-F.U128 a) h r m = is_short 128 s a r m
is_number has node.U128 s _ h r m = absurd h
is_number has node.I8 s (Value-F.I8 a) h r m = is_short_signed 7 s a r m
is_number has node.I8 s _ h r m = absurd h
is_number has node.I16 s (Value-F.I16 a) h r m = is_short_signed 15 s a r m
is_number has node.I16 s _ h r m = absurd h
is_number has node.I32 s (Value-F.I32 a) h r m = is_short_signed 31 s a r m
is_number has node.I32 s _ h r m = absurd h
is_number has node.I64 s (Value-F.I64 a) h r m = is_short_signed 63 s a r m
is_number has node.I64 s _ h r m = absurd h
is_number has node.I128 s (Value-F.I128 a) h r m = is_short_signed 127 s a r m
is_number has node.I128 s _ h r m = absurd h
is_number has (node.LE k) s (Value-F.LE i) h r m = (i, (h, r), m)
is_number has (node.LE k) s _ h r m = absurd h
is_number has (node.BE k) s (Value-F.BE i) h r m = (i, (h, r), m)
is_number has (node.BE k) s _ h r m = absurd h
is_number has node.Bool s (Value-F.Bool b) h r m = m
is_number has node.Bool s _ h r m = absurd h
is_number has node.Char s (Value-F.Char b) h r m = m
is_number has node.Char s _ h r m = absurd h
is_number has node.Text s (Value-F.Text b) h r m = m
is_number has node.Text s _ h r m = absurd h
is_number has (node.TextUpTo k) s (Value-F.Text b) h r m = m
is_number has (node.TextUpTo k) s _ h r m = absurd h
is_number has node.Bytes s (Value-F.Bytes b) h r m = m
is_number has node.Bytes s _ h r m = absurd h
is_number has (node.Option k) s (Value-F.Absent) h r m = m
is_number has (node.Option k) s (Value-F.Present b) h r m = m
is_number has (node.Option k) s _ h r m = absurd h
is_number has (node.List k) s (Value-F.List b) h r m = m
is_number has (node.List k) s _ h r m = absurd h
is_number has (node.ListUpTo l k) s (Value-F.List b) h r m = m
is_number has (node.ListUpTo l k) s _ h r m = absurd h
is_number has (node.Array l k) s (Value-F.Group b) h r m = m
is_number has (node.Array l k) s _ h r m = absurd h
is_number has (node.Struct is) s (Value-F.Group b) h r m = m
is_number has (node.Struct is) s _ h r m = absurd h
is_number has (node.Enum is) s (Value-F.Variant k b) h r m = m
is_number has (node.Enum is) s _ h r m = absurd h

-- a text that is no number of this type
pub no_number : (n l : Node) (s : List ℕ) → n ≡ l → (IsNumberOf l s → ⊥) → NoneOf (InRange (IsOfLeaf n)) (AtTop (MeansNumber s))
no_number n l s e f = none_in_range n (MeansNumber s) (λ top of r m. f (subst (λ k. IsNumberOf k s) e (is_number (SchemaHas 0 []) n s top of r m)))

-- a numeral that isn't read is too long

pub unread : {A E : Type 0} (k : ℕ) (s : List ℕ) (p : Result ℕ E) (o : Option A) → is_some o ≡ is_ok p → ParsesUnsigned k 10 s p → o ≡ None → IsShort k s → ⊥
unread k s (Ok x) o e h f short = true≢false (sym e ∙ ap is_some f)
unread k s (Err x) o e h f short = h short

pub unread_signed : {A E : Type 0} (w : Width) (s : List ℕ) (p : Result ℤ E) (o : Option A) → is_some o ≡ is_ok p → ParsesSigned w 10 s p → o ≡ None → IsShortSigned (hbits w) s → ⊥
unread_signed w s (Ok x) o e h f short = true≢false (sym e ∙ ap is_some f)
unread_signed w s (Err x) o e h f short = h (short.0, record { sfits = short.1 })

-- a type other than those of numbers
pub other_number : (n : Node) (s : List ℕ) → n ≢ node.U8 → n ≢ node.U16 → n ≢ node.U32 → n ≢ node.U64 → n ≢ node.U128 → n ≢ node.I8 → n ≢ node.I16 → n ≢ node.I32 → n ≢ node.I64 → n ≢ node.I128
    → ((k : IntegerType) → n ≢ node.LE k) → ((k : IntegerType) → n ≢ node.BE k) → IsNumberOf n s → ⊥
other_number node.U8 s a b c d e f g h i j k l m = a refl
other_number node.U16 s a b c d e f g h i j k l m = b refl
other_number node.U32 s a b c d e f g h i j k l m = c refl
other_number node.U64 s a b c d e f g h i j k l m = d refl
other_number node.U128 s a b c d e f g h i j k l m = e refl
other_number node.I8 s a b c d e f g h i j k l m = f refl
other_number node.I16 s a b c d e f g h i j k l m = g refl
other_number node.I32 s a b c d e f g h i j k l m = h refl
other_number node.I64 s a b c d e f g h i j k l m = i refl
other_number node.I128 s a b c d e f g h i j k l m = j refl
other_number (node.LE o) s a b c d e f g h i j k l m = k o refl
other_number (node.BE o) s a b c d e f g h i j k l m = l o refl
other_number _ s a b c d e f g h i j k l m = m

-- JSON that is no number

-- a number
abbrev pub IsNumberTop : Value-F Value → Type 0
IsNumberTop (Value-F.Bool b) = ⊥
IsNumberTop (Value-F.Char c) = ⊥
IsNumberTop (Value-F.Text t) = ⊥
IsNumberTop (Value-F.Bytes v) = ⊥
IsNumberTop Value-F.Absent = ⊥
IsNumberTop (Value-F.Present v) = ⊥
IsNumberTop (Value-F.List v) = ⊥
IsNumberTop (Value-F.Group v) = ⊥
IsNumberTop (Value-F.Variant n v) = ⊥
IsNumberTop _ = Unit {0}

-- a value of a type of numbers is one
number_top : (has : ℕ → Value → Type 0) (n : Node) (top : Value-F Value) → IsNumberNode n → NodeHas has n top → IsNumberTop top
number_top has node.U8 (Value-F.U8 a) l h = tt
number_top has node.U8 _ l h = absurd h
number_top has node.U16 (Value-F.U16 a) l h = tt
number_top has node.U16 _ l h = absurd h
number_top has node.U32 (Value-F.U32 a) l h = tt
number_top has node.U32 _ l h = absurd h
number_top has node.U64 (Value-F.U64 a) l h = tt
number_top has node.U64 _ l h = absurd h
number_top has node.U128 (Value-F.U128 a) l h = tt
number_top has node.U128 _ l h = absurd h
number_top has node.I8 (Value-F.I8 a) l h = tt
number_top has node.I8 _ l h = absurd h
number_top has node.I16 (Value-F.I16 a) l h = tt
number_top has node.I16 _ l h = absurd h
number_top has node.I32 (Value-F.I32 a) l h = tt
number_top has node.I32 _ l h = absurd h
number_top has node.I64 (Value-F.I64 a) l h = tt
number_top has node.I64 _ l h = absurd h
number_top has node.I128 (Value-F.I128 a) l h = tt
number_top has node.I128 _ l h = absurd h
number_top has (node.LE k) (Value-F.LE i) l h = tt
number_top has (node.LE k) _ l h = absurd h
number_top has (node.BE k) (Value-F.BE i) l h = tt
number_top has (node.BE k) _ l h = absurd h
number_top has _ top l h = absurd l

-- only JSON numbers mean numbers
only_number : (j : Json) (top : Value-F Value) → IsNumberTop top → MeansPlain j top → (s : List ℕ) × (j ≡ number s)
only_number (number s) top h m = (s, refl)
only_number (boolean b) (Value-F.Bool c) h m = absurd h
only_number (boolean b) (Value-F.Bytes v) h m = absurd h
only_number (boolean b) _ h m = absurd m
only_number (string s) (Value-F.Char c) h m = absurd h
only_number (string s) (Value-F.Text t) h m = absurd h
only_number (string s) (Value-F.Bytes v) h m = absurd h
only_number (string s) _ h m = absurd m
only_number _ (Value-F.Bytes v) h m = absurd h
only_number _ top h m = absurd m

pub no_json_number : (n : Node) (j : json.Value Global) → IsNumberNode n → ((s : Bor (List ℕ)) → j ≢ json.Number s) → NoneOf (InRange (IsOfLeaf n)) (AtTop (MeansPlain (value_view j)))
no_json_number n j l f = none_in_range n (MeansPlain (value_view j)) (λ top of r m.
    let k = only_number (value_view j) top (number_top (SchemaHas 0 []) n top l of) m in
    let e = stands_as j (number k.0) k.1 in
    f e.0 e.1)

-- floats

float_top : (of : IntegerType) (j : Json) (means : Integer → Type 0) (has : ℕ → Value → Type 0) (top : Value-F Value) → ((i : Integer) → MeansFloat j (Value-F.LE i) → means i) → NoneOf (IsIntegerOf of) means
    → NodeHas has (node.LE of) top → ranged top ≡ true → MeansFloat j top → ⊥
float_top of j means has (Value-F.LE i) f none h r m = none i (h, r) (f i m)
float_top of j means has _ f none h r m = h

pub no_float : (of : IntegerType) (j : Json) (means : Integer → Type 0) → ((i : Integer) → MeansFloat j (Value-F.LE i) → means i) → NoneOf (IsIntegerOf of) means → NoneOf (InRange (IsOfLeaf (node.LE of))) (AtTop (MeansFloat j))
no_float of j means f none = none_in_range (node.LE of) (MeansFloat j) (λ top h r m. float_top of j means (SchemaHas 0 []) top f none h r m)

-- where nothing of this is found, nothing of that is, and it is this result
pub none_found : {A : Type 0} {P : Type 0} (o p : Option A) → o ≡ None → o ≡ p → IfNone p P → P
none_found o (Some x) e f h = absurd (cc (sym e ∙ f))
none_found o None e f h = h

-- keys

truth_top : (s : List ℕ) (top : Value-F Value) → OfBool top → s ≢ truth_key true → s ≢ truth_key false → KeyMeansPlain s top → ⊥
truth_top s (Value-F.Bool true) of f g m = f m
truth_top s (Value-F.Bool false) of f g m = g m
truth_top s _ of f g m = of

pub no_truth : (s : List ℕ) → s ≢ truth_key true → s ≢ truth_key false → NoneOf (InRange (IsOfLeaf node.Bool)) (AtTop (KeyMeansPlain s))
no_truth s f g = none_in_range node.Bool (KeyMeansPlain s) (λ top of r m. truth_top s top of f g m)

-- where a fault of one kind is found, one of another is
pub wrong_as : {A P Q : Type 0} (r : Result A ParseError) → (P → Q) → IfWrong r P → IfWrong r Q
wrong_as (Ok x) f h = tt
wrong_as (Err e) f h = λ w. f (h w)

pub char_not_named : (s : List ℕ) → NoneOf (InRange (IsOfLeaf node.Char)) (AtTop (MeansPlain (string s))) → NoneOf (InRange (IsOfLeaf node.Char)) (AtTop (KeyMeansPlain s))
char_not_named s f v of m = f v of (char_named s (out-Value v) (of.0 0 []).1 m)
  where
    char_named : (t : List ℕ) (top : Value-F Value) → OfChar top → KeyMeansPlain t top → MeansPlain (string t) top
    char_named t (Value-F.Char c) a h = h
    char_named t _ a h = absurd a

pub text_not_named : (n : ℕ) (s : List ℕ) → NoneOf (InRange (IsOfLeaf (node.TextUpTo n))) (AtTop (MeansPlain (string s))) → NoneOf (InRange (IsOfLeaf (node.TextUpTo n))) (AtTop (KeyMeansPlain s))
text_not_named n s f v of m = f v of (text_named s (out-Value v) (of.0 0 []).1 m)
  where
    text_named : (t : List ℕ) (top : Value-F Value) → OfText top → KeyMeansPlain t top → MeansPlain (string t) top
    text_named t (Value-F.Text c) a h = h
    text_named t _ a h = absurd a

-- the key of a number

only_bool : (has : ℕ → Value → Type 0) (n : Node) (b : Bool) → NodeHas has n (Value-F.Bool b) → n ≡ node.Bool
only_bool has node.Bool b h = refl
only_bool has _ b h = absurd h

only_char : (has : ℕ → Value → Type 0) (n : Node) (c : ℕ) → NodeHas has n (Value-F.Char c) → n ≡ node.Char
only_char has node.Char c h = refl
only_char has _ c h = absurd h

only_text : (has : ℕ → Value → Type 0) (n : Node) (t : String Global) → NodeHas has n (Value-F.Text t) → n ≢ node.Text → ((k : ℕ) → n ≢ node.TextUpTo k) → ⊥
only_text has node.Text t h f g = f refl
only_text has (node.TextUpTo k) t h f g = g k refl
only_text has _ t h f g = h

named_number : (has : ℕ → Value → Type 0) (n : Node) (s : List ℕ) (top : Value-F Value) → n ≢ node.Bool → n ≢ node.Char → n ≢ node.Text → ((k : ℕ) → n ≢ node.TextUpTo k) → NodeHas has n top → KeyMeansPlain s top → MeansNumber s top
named_number has n s (Value-F.Bool b) f g h k of m = f (only_bool has n b of)
named_number has n s (Value-F.Char c) f g h k of m = g (only_char has n c of)
named_number has n s (Value-F.Text t) f g h k of m = only_text has n t of h k
named_number has n s _ f g h k of m = m

pub number_not_named : (n : Node) (s : List ℕ) → n ≢ node.Bool → n ≢ node.Char → n ≢ node.Text → ((k : ℕ) → n ≢ node.TextUpTo k) → NoneOf (InRange (IsOfLeaf n)) (AtTop (MeansNumber s))
    → NoneOf (InRange (IsOfLeaf n)) (AtTop (KeyMeansPlain s))
number_not_named n s f g h k none v of m = none v of (named_number (SchemaHas 0 []) n s (out-Value v) f g h k (of.0 0 []).1 m)

-- what a value of a node of numbers means

pub number_node : (n : Node) → n ≢ node.Bool → n ≢ node.Char → n ≢ node.Text → ((k : ℕ) → n ≢ node.TextUpTo k) → n ≢ node.Bytes → ((k : ℕ) → n ≢ node.Option k) → ((k : ℕ) → n ≢ node.List k) → ((m k : ℕ) → n ≢ node.ListUpTo m k)
    → ((m k : ℕ) → n ≢ node.Array m k) → ((is : Vec ℕ) → n ≢ node.Struct is) → ((is : Vec ℕ) → n ≢ node.Enum is) → IsNumberNode n
number_node node.Bool a b c d e f g h i j k = absurd (a refl)
number_node node.Char a b c d e f g h i j k = absurd (b refl)
number_node node.Text a b c d e f g h i j k = absurd (c refl)
number_node (node.TextUpTo n) a b c d e f g h i j k = absurd (d n refl)
number_node node.Bytes a b c d e f g h i j k = absurd (e refl)
number_node (node.Option n) a b c d e f g h i j k = absurd (f n refl)
number_node (node.List n) a b c d e f g h i j k = absurd (g n refl)
number_node (node.ListUpTo m n) a b c d e f g h i j k = absurd (h m n refl)
number_node (node.Array m n) a b c d e f g h i j k = absurd (i m n refl)
number_node (node.Struct is) a b c d e f g h i j k = absurd (j is refl)
number_node (node.Enum is) a b c d e f g h i j k = absurd (k is refl)
number_node _ a b c d e f g h i j k = tt

-- a float is another matter
pub number_means : (schema : Schema) (named : Names) (means : ℕ → Option (List ℕ) → Json → Value → Type 0) (n : Node) (j : Json) (top : Value-F Value) → IsNumberNode n → ((k : IntegerType) → n ≡ node.LE k → is_float_named (Some named) ≡ false)
    → MeansNode schema (Some named) means (Some n) j top → MeansPlain j top
number_means schema named means node.Bool j top l f m = absurd l
number_means schema named means node.Char j top l f m = absurd l
number_means schema named means node.Text j top l f m = absurd l
number_means schema named means (node.TextUpTo k) j top l f m = absurd l
number_means schema named means node.Bytes j top l f m = absurd l
number_means schema named means (node.Option k) j top l f m = absurd l
number_means schema named means (node.List k) j top l f m = absurd l
number_means schema named means (node.ListUpTo n k) j top l f m = absurd l
number_means schema named means (node.Array n k) j top l f m = absurd l
number_means schema named means (node.Struct is) j top l f m = absurd l
number_means schema named means (node.Enum is) j top l f m = absurd l
number_means schema named means (node.LE k) j top l f m = subst (λ b. MeansFixed b j top) (f k refl) m
number_means schema named means _ j top l f m = m

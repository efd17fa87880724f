-- Floats that are read from what was written of them.
use Rattle.std.specs.Prelude.{◌≡◌, ◌≢◌, ◌⊎◌, ◌<◌, ◌≤◌, ◌*◌, ◌%◌, ◌^◌, ◌==◌, ℕ, zero, suc, Bool, List, [], ◌++◌, get_or, true, false, drop, cond, codes, length, Ok, Err, Result, MatchResult, is_ok, Option, Some, None, nat_eq, if◌then◌else◌, from_bits}
use Rattle.std.specs.Float.{Format, float_is_finite}
use Rattle.std.specs.Int.{Width, w32, w64, byte_len, to_be_bytes, from_be_bytes, bytes_high_first, byte_at}
use Rattle.std.proofs.Common.{refl, sym, ap, ◌∙◌, subst, arith, inl, inr, true≢false}
use Rattle.std.proofs.lemmas.Bool.{eqb-true, eqb-false}
use Rattle.std.proofs.lemmas.Nat.{from_be_bytes-to_be_bytes_4, from_be_bytes-to_be_bytes_8}
use Rattle.hex.specs.Hex.{encode_lower, decode_of, decode_sized, IsBytes}
use Rattle.hex.specs.declared.error.FromHexError.{FromHexError}
use Rattle.hex.proofs.HexLemmas.{decode_of-encode_lower, decode_of-ok, decode_sized-twice}
use Rattle.ryu.proofs.Signs.{finite_number}
use Rattle.schema_table.specs.declared.integer.IntegerType.{IntegerType}
use Rattle.schema_table.specs.declared.integer.IntegerType.TheVariants as types
use Rattle.schema_table.specs.declared.integer.Integer.TheVariants as integers
use Rattle.schema_table.specs.Floats.{word_of, nan_word}
use Rattle.wire_json.specs.Floats.{IsNanWord, IsNanOf, WordMeansSingle, WordMeansDouble, WordMeansFloat}
use Rattle.wire_json.specs.InRange.{IsIntegerOf}
use Rattle.wire_json.specs.Refused.{IfNone, NoneOf}
use lib.Ieee.{top}
use lib.Ieee.Bits.{to_bits-of_bits}
use Rattle.std.specs.Float.Ieee.{to_bits}

byte_below : (i n : ℕ) → byte_at i n < 256
byte_below zero n = omega arith
byte_below (suc i) n = omega arith

high_bytes : (k n : ℕ) → IsBytes (bytes_high_first k n)
high_bytes zero n i = omega arith
high_bytes (suc k) n zero = byte_below k n
high_bytes (suc k) n (suc i) = high_bytes k n i

-- the bytes, if there are some
abbrev bytes_or_none : {E : Type 0} → Result (List ℕ) E → List ℕ
bytes_or_none (Ok bytes) = bytes
bytes_or_none (Err e) = []

-- the bits that a word is for
abbrev bits_for : Width → ℕ → ℕ → ℕ → List ℕ → ℕ
bits_for w infinity below usual s =
    cond (get_or s 0 0 == 73) infinity (cond (get_or s 0 0 == 45) below (cond (get_or s 3 0 == 58) (from_be_bytes w (bytes_or_none (decode_of (drop 4 s)))) usual))

nan_bits : (w : Width) (infinity below usual : ℕ) (digits bytes : List ℕ) → decode_of digits ≡ Ok bytes → bits_for w infinity below usual (codes "NaN:" ++ digits) ≡ from_be_bytes w bytes
nan_bits w infinity below usual digits bytes e = ap (λ r. from_be_bytes w (bytes_or_none r)) e

if_same : (n k : ℕ) (f : List ℕ → ℕ) (s t : List ℕ) → (n ≡ k → f s ≡ n) → f t ≡ n → f (if nat_eq n k then s else t) ≡ n
if_same n k f s t h l = by_case (nat_eq n k) refl
  where
    by_case : (b : Bool) → nat_eq n k ≡ b → f (if b then s else t) ≡ n
    by_case true e = h (eqb-true n k e)
    by_case false e = l

word_bits : (w : Width) (infinity below usual n : ℕ) → from_be_bytes w (to_be_bytes w n) ≡ n → bits_for w infinity below usual (word_of w infinity below usual n) ≡ n
word_bits w infinity below usual n e =
    let f : List ℕ → ℕ = bits_for w infinity below usual in
    if_same n infinity f _ _ (λ k. sym k)
    (if_same n below f _ _ (λ k. sym k)
    (if_same n usual f _ _ (λ k. sym k)
    (nan_bits w infinity below usual (encode_lower (to_be_bytes w n)) (to_be_bytes w n) (decode_of-encode_lower (to_be_bytes w n) (high_bytes _ n)) ∙ e)))

-- what is read from the word of n, is n
pub word_back : (w : Width) (infinity below usual n m : ℕ) → from_be_bytes w (to_be_bytes w n) ≡ n → from_be_bytes w (to_be_bytes w m) ≡ m
    → (word_of w infinity below usual n ≡ word_of w infinity below usual m) ⊎ IsNanOf w (word_of w infinity below usual n) m → m ≡ n
word_back w infinity below usual n m e f (inl h) = sym (word_bits w infinity below usual m f) ∙ ap (bits_for w infinity below usual) (sym h) ∙ word_bits w infinity below usual n e
word_back w infinity below usual n m e f (inr h) = h.2 ∙ sym (nan_bits w infinity below usual h.1.0 h.0 h.1.2) ∙ ap (bits_for w infinity below usual) (sym h.1.1) ∙ word_bits w infinity below usual n e

pub bits_back : (f : Format) (n m : ℕ) → n < 2 * top f → m < 2 * top f → float_is_finite (from_bits f n) ≡ true → from_bits f n ≡ from_bits f m → m ≡ n
bits_back f n m h k finite e =
    sym (to_bits-of_bits f m k (finite_number (from_bits f m) (subst (λ x. float_is_finite x ≡ true) e finite))) ∙ ap (to_bits f) (sym e) ∙ to_bits-of_bits f n h (finite_number (from_bits f n) finite)

-- words that aren't read

length_high : (k n : ℕ) → length (bytes_high_first k n) ≡ k
length_high zero n = refl
length_high (suc k) n = ap suc (length_high k n)

-- a word other than the first three is that of a NaN, by its bytes
other_word : (w : Width) (infinity below usual n : ℕ) (word : List ℕ) → from_be_bytes w (to_be_bytes w n) ≡ n → length (to_be_bytes w n) ≡ byte_len w → word ≢ codes "Infinity" → word ≢ codes "-Infinity" → word ≢ codes "NaN"
    → word ≡ word_of w infinity below usual n → (n ≢ infinity) × (n ≢ below) × IsNanOf w word n
other_word w infinity below usual n word e l a b c h = by_case (nat_eq n infinity) (nat_eq n below) (nat_eq n usual) refl refl h
  where
    by_case : (x y z : Bool) → nat_eq n infinity ≡ x → nat_eq n below ≡ y → word ≡ (if x then codes "Infinity" else if y then codes "-Infinity" else if z then codes "NaN" else nan_word (to_be_bytes w n))
        → (n ≢ infinity) × (n ≢ below) × IsNanOf w word n
    by_case true y z i j k = absurd (a k)
    by_case false true z i j k = absurd (b k)
    by_case false false true i j k = absurd (c k)
    by_case false false false i j k =
        (eqb-false n infinity i, eqb-false n below j, (to_be_bytes w n, (encode_lower (to_be_bytes w n), k, decode_of-encode_lower (to_be_bytes w n) (high_bytes _ n)), sym e, l))

above_single : (n : ℕ) → n < 2 ^ 32 → 0x7f800000 ≤ n % 2 ^ 31 → n ≢ 0x7f800000 → n ≢ 0xff800000 → 0x7f800000 < n % 2 ^ 31
above_single n l h a b = omega arith

above_double : (n : ℕ) → n < 2 ^ 64 → 0x7ff0000000000000 ≤ n % 2 ^ 63 → n ≢ 0x7ff0000000000000 → n ≢ 0xfff0000000000000 → 0x7ff0000000000000 < n % 2 ^ 63
above_double n l h a b = omega arith

pub no_single : (word : List ℕ) → word ≢ codes "Infinity" → word ≢ codes "-Infinity" → word ≢ codes "NaN" → ((n : ℕ) → IsNanOf w32 word n → 0x7f800000 < n % 2 ^ 31 → ⊥) → NoneOf (λ n. n < 2 ^ 32) (WordMeansSingle word)
no_single word a b c f n l (h, inl e) =
    let k = other_word w32 0x7f800000 0xff800000 0x7fc00000 n word (from_be_bytes-to_be_bytes_4 n l) (length_high 4 n) a b c e in
    f n k.2 (above_single n l h k.0 k.1)
no_single word a b c f n l (h, inr k) = f n k.0 k.1

pub no_double : (word : List ℕ) → word ≢ codes "Infinity" → word ≢ codes "-Infinity" → word ≢ codes "NaN" → ((n : ℕ) → IsNanOf w64 word n → 0x7ff0000000000000 < n % 2 ^ 63 → ⊥) → NoneOf (λ n. n < 2 ^ 64) (WordMeansDouble word)
no_double word a b c f n l (h, inl e) =
    let k = other_word w64 0x7ff0000000000000 0xfff0000000000000 0x7ff8000000000000 n word (from_be_bytes-to_be_bytes_8 n l) (length_high 8 n) a b c e in
    f n k.2 (above_double n l h k.0 k.1)
no_double word a b c f n l (h, inr k) = f n k.0 k.1

-- a word whose digits aren't decoded is for no bytes of that number
pub not_decoded : (word text new : List ℕ) (n k : ℕ) (r : Result (Unit {0}) FromHexError) → text ≡ drop k word → k ≡ 4 → MatchResult (decode_sized text n) (λ bytes. (r ≡ Ok tt) × (new ≡ bytes)) (λ e. r ≡ Err e) → is_ok r ≡ false
    → (bs : List ℕ) → length bs ≡ n → IsNanWord word bs → ⊥
not_decoded word text new n k r e f m refused bs l h =
    let same : text ≡ h.0 = e ∙ ap (λ z. drop z word) f ∙ ap (drop 4) h.1 in
    let sized : decode_sized text n ≡ Ok bs = ap (λ z. decode_sized z n) same ∙ decode_sized-twice h.0 n (omega (arith, (decode_of-ok h.0 bs h.2).2, l)) ∙ h.2 in
    let ok = subst (λ z. MatchResult z (λ bytes. (r ≡ Ok tt) × (new ≡ bytes)) (λ e. r ≡ Err e)) sized m in
    true≢false (sym (ap is_ok ok.0) ∙ refused)

-- where nothing of this is found, nothing of that is
pub none_as : {A : Type 0} {P Q : Type 0} (o : Option A) → (P → Q) → IfNone o P → IfNone o Q
none_as None f h = f h
none_as (Some x) f h = tt

-- where nothing is found because there is nothing
pub none_by : {A : Type 0} {P : Type 0} (o : Option A) → (o ≡ None → P) → IfNone o P
none_by None f = f refl
none_by (Some x) f = tt

-- by the width

pub no_word_of_single : (k : IntegerType) (word : List ℕ) → k ≡ types.U32 → NoneOf (λ n. n < 2 ^ 32) (WordMeansSingle word) → NoneOf (IsIntegerOf k) (WordMeansFloat word)
no_word_of_single k word e none (integers.U32 n) of m = none n m.0 m.1
no_word_of_single k word e none (integers.U64 n) of m = absurd (cc (of.0, e))
no_word_of_single k word e none _ of m = m

pub no_word_of_double : (k : IntegerType) (word : List ℕ) → k ≡ types.U64 → NoneOf (λ n. n < 2 ^ 64) (WordMeansDouble word) → NoneOf (IsIntegerOf k) (WordMeansFloat word)
no_word_of_double k word e none (integers.U64 n) of m = none n m.0 m.1
no_word_of_double k word e none (integers.U32 n) of m = absurd (cc (of.0, e))
no_word_of_double k word e none _ of m = m

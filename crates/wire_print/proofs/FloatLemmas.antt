-- Floats by their bits, as they are printed.
use Rattle.std.specs.Prelude.{◌≡◌, ℕ, ◌*◌, ◌%◌, true, false, Some, Result, OnOk, List, [], ◌∷◌, ◌++◌, from_bits}
use Rattle.std.specs.Float.{Float, Format, float_is_finite}
use Rattle.std.proofs.Common.{refl, sym, ap, ◌∙◌, subst}
use Rattle.fast_float.specs.Parse.{parse_float}
use Rattle.json.specs.Json.{Json, number, string}
use Rattle.json.specs.Token.{Token}
use Rattle.json.specs.Tree.{json_tokens}
use Rattle.schema_table.specs.Floats.{ShowsFinite}
use Rattle.std.proofs.lemmas.Result.{on_ok_weaker}
use lib.Dec.{ltb}
use lib.Ieee.{is_nan, nan, inf, fin, ones, hid, top}
use lib.Ieee.Bits.{nan_bits_is, nan_bits_above}

nan_not_finite : (x : Float) → is_nan x ≡ true → float_is_finite x ≡ false
unfolding is_nan float_is_finite
nan_not_finite nan h = refl
nan_not_finite (inf s) h = refl
nan_not_finite (fin s m e) h = absurd (cc h)

-- bits above those of an infinity
pub nan_above : (f : Format) (n : ℕ) → ltb (ones f * hid f) (n % top f) ≡ true → float_is_finite (from_bits f n) ≡ false
nan_above f n h = nan_not_finite (from_bits f n) (sym (nan_bits_is f n) ∙ nan_bits_above f n ∙ h)

-- a finite float was appended
pub float_shown : {E : Type 0} (r : Result (Unit {0}) E) (old new : List Token) (f : Format) (x y : Float) (word : List ℕ) → x ≡ y → float_is_finite x ≡ true
    → OnOk r ((s : List ℕ) × (new ≡ old ++ Token.number s ∷ []) × (parse_float f s ≡ Some x)) → OnOk r ((j : Json) × (new ≡ old ++ json_tokens j) × ShowsFinite (float_is_finite y) f y word j)
float_shown r old new f x y word e finite h =
    on_ok_weaker r
    (λ k. (number k.0, k.1, subst (λ z. ShowsFinite (float_is_finite z) f z word (number k.0)) e (subst (λ b. ShowsFinite b f x word (number k.0)) (sym finite) (k.0, refl, k.2)))) h

-- the word for one that isn't finite
pub word_shown : {E : Type 0} (r : Result (Unit {0}) E) (old new : List Token) (f : Format) (x : Float) (text word : List ℕ) → float_is_finite x ≡ false → text ≡ word
    → OnOk r (new ≡ old ++ json_tokens (string text)) → OnOk r ((j : Json) × (new ≡ old ++ json_tokens j) × ShowsFinite (float_is_finite x) f x word j)
word_shown r old new f x text word finite e h = on_ok_weaker r (λ k. (string text, k, subst (λ b. ShowsFinite b f x word (string text)) (sym finite) (ap string e))) h

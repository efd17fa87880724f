-- What is printed of a float means it.
use Rattle.std.specs.Prelude.{◌≡◌, ◌<◌, ◌≤◌, ℕ, ◌*◌, ◌%◌, ◌^◌, Bool, true, false, from_bits}
use Rattle.std.specs.Float.{Format, binary32, binary64, float_is_finite}
use Rattle.std.proofs.Common.{refl, sym, ◌∙◌, subst, arith, inl, inr, true≢false}
use Rattle.std.proofs.lemmas.Bool.{cases_lt, ltb-true}
use Rattle.std.proofs.lemmas.Float.{T_from_false}
use Rattle.json.specs.Json.{Json}
use Rattle.ryu.proofs.Signs.{parts}
use Rattle.schema_table.specs.declared.schema.Names.TheVariants as names
use Rattle.schema_table.specs.Telling.{IsFixedNames}
use Rattle.schema_table.specs.declared.integer.Integer.{Integer}
use Rattle.schema_table.specs.declared.integer.Integer.TheVariants as integers
use Rattle.schema_table.specs.declared.value.Value.TheOpen.{Value-F}
use Rattle.schema_table.specs.Floats.{ShowsFinite, ShowsSingle, ShowsDouble, single_word, double_word}
use Rattle.schema_table.specs.Integers.{type_of}
use Rattle.schema_table.specs.Printed.{ShowsFloat}
use Rattle.wire_json.specs.InRange.{is_in_range}
use Rattle.wire_json.specs.Meant.{MeansFloat}
use lib.Ieee.{is_nan, ones, hid, top}
use lib.Ieee.Bits.{nan_bits_is, nan_bits_above}

-- bits of a float that isn't finite are those of an infinity or above, without the sign
pub infinite_bits : (f : Format) (n : ℕ) → n < 2 * top f → float_is_finite (from_bits f n) ≡ false → ones f * hid f ≤ n % top f
infinite_bits f n l h = by_nan (is_nan (from_bits f n)) refl
  where
    by_nan : (b : Bool) → is_nan (from_bits f n) ≡ b → ones f * hid f ≤ n % top f
    by_nan true e = omega (arith, ltb-true (ones f * hid f) (n % top f) (sym (nan_bits_above f n) ∙ nan_bits_is f n ∙ e))
    by_nan false e = elim (cases_lt (n % top f) (ones f * hid f)) [
      | inl a ↦ absurd (true≢false (sym ((parts f (from_bits f n) n refl l (T_from_false (is_nan (from_bits f n)) e)).finite.1 a) ∙ h))
      | inr a ↦ a
    ]

-- what is shown of a float means it

pub float_shown_single : (n : ℕ) (j : Json) → n < 2 ^ 32 → ShowsSingle n j → MeansFloat j (Value-F.LE (integers.U32 n))
float_shown_single n j l h = by_kind (float_is_finite (from_bits binary32 n)) refl h
  where
    by_kind : (b : Bool) → float_is_finite (from_bits binary32 n) ≡ b → ShowsFinite b binary32 (from_bits binary32 n) (single_word n) j → MeansFloat j (Value-F.LE (integers.U32 n))
    by_kind true e k = subst (λ z. MeansFloat z (Value-F.LE (integers.U32 n))) (sym k.1) (l, (k.2, e))
    by_kind false e k = subst (λ z. MeansFloat z (Value-F.LE (integers.U32 n))) (sym k) (l, (infinite_bits binary32 n (omega (arith, l)) e, inl refl))

pub float_shown_double : (n : ℕ) (j : Json) → n < 2 ^ 64 → ShowsDouble n j → MeansFloat j (Value-F.LE (integers.U64 n))
float_shown_double n j l h = by_kind (float_is_finite (from_bits binary64 n)) refl h
  where
    by_kind : (b : Bool) → float_is_finite (from_bits binary64 n) ≡ b → ShowsFinite b binary64 (from_bits binary64 n) (double_word n) j → MeansFloat j (Value-F.LE (integers.U64 n))
    by_kind true e k = subst (λ z. MeansFloat z (Value-F.LE (integers.U64 n))) (sym k.1) (l, (k.2, e))
    by_kind false e k = subst (λ z. MeansFloat z (Value-F.LE (integers.U64 n))) (sym k) (l, (infinite_bits binary64 n (omega (arith, l)) e, inl refl))

-- the same by the type, which has a float's names
pub shown_float : (i : Integer) (j : Json) → IsFixedNames (type_of i) names.Float → is_in_range i ≡ true → ShowsFloat i j → MeansFloat j (Value-F.LE i)
shown_float (integers.U32 n) j named r h = float_shown_single n j (ltb-true n (2 ^ 32) r) h
shown_float (integers.U64 n) j named r h = float_shown_double n j (ltb-true n (2 ^ 64) r) h
shown_float _ j named r h = absurd named

-- Numbers that are read from the digits that were written of them.
use Rattle.std.specs.Prelude.{◌≡◌, ◌+◌, ◌<◌, ◌≤◌, ◌^◌, ℕ, ℤ, List, [], ◌∷◌, get_or, false, decimal}
use Rattle.std.specs.Fmt.{signed_decimal}
use Rattle.std.specs.Int.Signed.{mag}
use Rattle.std.specs.Str.Parse.{IsNumeral, digits_value, signed_digits_value, starts_with_minus, without_leading_plus}
use Rattle.wire_json.specs.Meant.{IsUnsigned, IsSigned}
use Rattle.std.proofs.Common.{suc, ap, ◌∙◌, arith, rules, pos, negsuc, neg_ℤ}
use Rattle.std.proofs.lemmas.Fmt.{decimal_is_IsNumeral_wide}
use Rattle.std.proofs.lemmas.Str.Parse.{digit_from_value, without_leading_plus_none}

-- the first is a digit
first_digit : (ds : List ℕ) → IsNumeral 10 ds → (48 ≤ get_or ds 0 0) × (get_or ds 0 0 ≤ 57)
first_digit [] h = absurd (omega (arith, h.0))
first_digit (c ∷ cs) h = (omega (arith, digit_from_value c h.1.0), omega (arith, digit_from_value c h.1.0))

pub no_plus : (ds : List ℕ) → IsNumeral 10 ds → without_leading_plus ds ≡ ds
no_plus ds h = without_leading_plus_none ds (λ e. omega (arith, e, first_digit ds h))

pub no_minus : (ds : List ℕ) → IsNumeral 10 ds → starts_with_minus ds ≡ false
no_minus [] h = absurd (omega (arith, h.0))
no_minus (c ∷ cs) h = search (rules, digit_from_value c h.1.0)

pub unsigned_back : (n m : ℕ) → n < 10 ^ 64 → IsUnsigned (decimal n) m → m ≡ n
unsigned_back n m l h =
    let k = decimal_is_IsNumeral_wide n (omega (arith, l)) in
    h.1 ∙ ap (digits_value 10) (no_plus (decimal n) k.0) ∙ k.1

pub plain_sign : (ds : List ℕ) → IsNumeral 10 ds → signed_digits_value 10 ds ≡ pos (digits_value 10 ds)
plain_sign ds h = rw (no_minus ds h) (ap (λ l. pos (digits_value 10 l)) (no_plus ds h))

pub signed_back : (z y : ℤ) → mag z + 1 < 10 ^ 64 → IsSigned (signed_decimal z) y → y ≡ z
signed_back (pos n) y l h =
    let k = decimal_is_IsNumeral_wide n (omega (arith, l)) in
    h.1 ∙ plain_sign (decimal n) k.0 ∙ ap pos k.1
signed_back (negsuc n) y l h =
    let k = decimal_is_IsNumeral_wide (suc n) (omega (arith, l)) in
    h.1 ∙ ap (λ m. neg_ℤ (pos m)) k.1

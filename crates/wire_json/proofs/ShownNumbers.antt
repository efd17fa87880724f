-- The digits of a number are read as that number, and are a number of JSON.
use Rattle.std.specs.Prelude.{◌≡◌, ◌+◌, ◌<◌, ◌≤◌, ◌^◌, ◌%◌, ◌==◌, ℕ, ℤ, zero, suc, List, [], ◌∷◌, length, get_or, true, false, Some, decimal}
use Rattle.std.specs.Char.{is_ascii_digit}
use Rattle.std.specs.Fmt.{signed_decimal}
use Rattle.std.specs.Int.Signed.{mag}
use Rattle.std.specs.List.{prefix_len}
use Rattle.std.specs.Str.Parse.{AllDigits, IsNumeral, digits_value}
use Rattle.std.proofs.Common.{refl, sym, ap, ◌∙◌, subst, arith, pos, negsuc, neg_ℤ}
use Rattle.std.proofs.lemmas.Bool.{ne_eqb, le-leb, and_from}
use Rattle.std.proofs.lemmas.Fmt.{decimal_is_IsNumeral_wide, decimal_by_steps_wide}
use Rattle.std.proofs.lemmas.List.{drop_all}
use Rattle.std.proofs.lemmas.Str.Parse.{digit_from_value}
use Rattle.std.proofs.Math.ListN.{get_or-append, length-append}
use Rattle.json.specs.Json.{number}
use Rattle.json.specs.Word.{head, after_whole, after_number}
use Rattle.wire_json.specs.Meant.{IsUnsigned, IsSigned}
use Rattle.schema_table.specs.Printed.{digits_by, digits_json}
use Rattle.wire_json.proofs.NumeralLemmas.{no_plus, no_minus, plain_sign}

-- as that number

pub unsigned_shown : (n : ℕ) → n < 10 ^ 64 → IsUnsigned (decimal n) n
unsigned_shown n l =
    let k = decimal_is_IsNumeral_wide n (omega (arith, l)) in
    let plain = no_plus (decimal n) k.0 in
    (subst (IsNumeral 10) (sym plain) k.0, sym (ap (digits_value 10) plain ∙ k.1))

pub signed_shown : (z : ℤ) → mag z + 1 < 10 ^ 64 → IsSigned (signed_decimal z) z
signed_shown (pos n) l =
    let k = decimal_is_IsNumeral_wide n (omega (arith, l)) in
    let plain = no_plus (decimal n) k.0 in
    (rw (no_minus (decimal n) k.0) (subst (IsNumeral 10) (sym plain) k.0), sym (plain_sign (decimal n) k.0 ∙ ap pos k.1))
signed_shown (negsuc n) l =
    let k = decimal_is_IsNumeral_wide (suc n) (omega (arith, l)) in
    (k.0, sym (ap (λ m. neg_ℤ (pos m)) k.1))

-- as a number of JSON

is_digit : (c : ℕ) → 48 ≤ c → c ≤ 57 → is_ascii_digit c ≡ true
is_digit c l m = and_from _ _ (le-leb 48 c l) (le-leb c 57 m)

only_digits : (ds : List ℕ) → AllDigits 10 ds → prefix_len is_ascii_digit ds ≡ length ds
only_digits [] h = refl
only_digits (c ∷ cs) h =
    let one = digit_from_value c h.0 in
    rw (is_digit c (omega (arith, one)) (omega (arith, one))) (omega (arith, only_digits cs h.1))

-- the first digit is no zero, but for the number zero
begins : (n : ℕ) → n < 10 ^ 64 → (n ≡ 0 → decimal n ≡ 48 ∷ []) × (0 < n → 48 < get_or (decimal n) 0 0)
begins n l =
    let by = decimal_by_steps_wide (λ m ds. (0 < length ds) × (m ≡ 0 → ds ≡ 48 ∷ []) × (0 < m → 48 < get_or ds 0 0)) (λ m s. (omega arith, λ e. ap (λ k. (48 + k) ∷ []) e, λ p. omega arith)) (λ m ds s h.
    (omega (arith, length-append ds ((48 + m % 10) ∷ [])), λ e. absurd (omega arith), λ p. omega (arith, get_or-append ds ((48 + m % 10) ∷ []) 0 0 h.0, h.2 (omega arith)))) n l in
    (by.1, by.2)

no_zero : (ds : List ℕ) → IsNumeral 10 ds → 48 < get_or ds 0 0 → (after_whole ds ≡ Some []) × ((head ds == 45) ≡ false)
no_zero [] h l = absurd (omega (arith, h.0))
no_zero (c ∷ cs) h l =
    let all = only_digits (c ∷ cs) h.1 in
    let some = ne_eqb (length (c ∷ cs)) 0 (λ e. omega arith) in
    (rw (ne_eqb c 48 (λ e. omega arith)) (rw all (rw some (ap Some (drop_all (length (c ∷ cs)) (c ∷ cs) (omega arith))))), ne_eqb c 45 (λ e. omega arith))

whole_decimal : (n : ℕ) → n < 10 ^ 64 → (after_whole (decimal n) ≡ Some []) × ((head (decimal n) == 45) ≡ false)
whole_decimal zero l = let e = (begins zero l).0 refl in (ap after_whole e, ap (λ ds. head ds == 45) e)
whole_decimal (suc n) l = no_zero (decimal (suc n)) (decimal_is_IsNumeral_wide (suc n) l).0 ((begins (suc n) l).1 (omega arith))

decimal_number : (n : ℕ) → n < 10 ^ 64 → after_number (decimal n) ≡ Some []
unfolding after_number
decimal_number n l =
    let w = whole_decimal n l in
    rw w.1 (rw w.0 refl)

signed_number : (z : ℤ) → mag z + 1 < 10 ^ 64 → after_number (signed_decimal z) ≡ Some []
unfolding after_number
signed_number (pos n) l =
    let w = whole_decimal n (omega (arith, l)) in
    rw w.1 (rw w.0 refl)
signed_number (negsuc n) l = rw (whole_decimal (suc n) (omega (arith, l))).0 refl

pub decimal_json : (n : ℕ) → n < 10 ^ 64 → digits_json (decimal n) ≡ number (decimal n)
decimal_json n l = ap (λ o. digits_by o (decimal n)) (decimal_number n l)

pub signed_json : (z : ℤ) → mag z + 1 < 10 ^ 64 → digits_json (signed_decimal z) ≡ number (signed_decimal z)
signed_json z l = ap (λ o. digits_by o (signed_decimal z)) (signed_number z l)

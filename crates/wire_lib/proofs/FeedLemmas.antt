-- The text of JSON tokens has no line feed.
use Rattle.std.specs.Prelude.{◌≡◌, ◌≢◌, ◌<◌, ◌/◌, ◌%◌, ◌==◌, ◌||◌, ◌&&◌, ◌+◌, ℕ, zero, suc, Bool, true, false, not, cond, Some, None, option_and_then, List, [], ◌∷◌, ◌++◌, drop, length, nat_lt, slice_index}
use Rattle.std.specs.Char.{digit_char, is_ascii_digit}
use Rattle.std.specs.List.{prefix_len}
use Rattle.std.proofs.Common.{refl, sym, ap, ◌∙◌, subst, arith}
use Rattle.std.proofs.lemmas.Option.{option_and_then_some}
use Rattle.json.specs.Lex.{tokens}
use Rattle.json.specs.Token.{Token, begin_object, end_object, begin_array, end_array, key, string, number, boolean, null, bad}
use Rattle.json.specs.Print.{print, print_from, separator, begins, ends, token_text, quoted, escape, escape_byte, escape_letter, IsNumber, ArePrintableOrBad, IsPrintableOrBad}
use Rattle.json.specs.Word.{after_number, after_exponent, after_fraction, after_whole, after_minus, after_sign, after_digits}
use Rattle.json.proofs.Numbered.{ArePrintableOrBad-tokens}

-- none of these bytes is a line feed
abbrev pub NoFeed : List ℕ → Type 0
NoFeed [] = Unit {0}
NoFeed (x ∷ xs) = (x ≢ 10) × NoFeed xs

no_feed_append : (xs ys : List ℕ) → NoFeed xs → NoFeed ys → NoFeed (xs ++ ys)
no_feed_append [] ys h k = k
no_feed_append (x ∷ xs) ys h k = (h.0, no_feed_append xs ys h.1 k)

no_feed_cond : (b : Bool) (xs ys : List ℕ) → NoFeed xs → NoFeed ys → NoFeed (cond b xs ys)
no_feed_cond true xs ys h k = h
no_feed_cond false xs ys h k = k

-- a byte that passes is no line feed, if that doesn't
passes : (p : ℕ → Bool) (c : ℕ) → p 10 ≡ false → p c ≡ true → c ≢ 10
passes p c f e z = let g : false ≡ true = sym f ∙ (ap p (sym z) ∙ e) in cc g

-- numbers: if what is left has none, what was there hadn't

digit_step : (c : ℕ) (cs : List ℕ) → (NoFeed (drop (prefix_len is_ascii_digit cs) cs) → NoFeed cs) → (b : Bool) → is_ascii_digit c ≡ b → NoFeed (drop (cond b (1 + prefix_len is_ascii_digit cs) 0) (c ∷ cs)) → NoFeed (c ∷ cs)
digit_step c cs f true e k = (passes is_ascii_digit c refl e, f (let more : 1 + prefix_len is_ascii_digit cs ≡ suc (prefix_len is_ascii_digit cs) = omega arith in subst (λ n. NoFeed (drop n (c ∷ cs))) more k))
digit_step c cs f false e k = k

digits_taken : (t : List ℕ) → NoFeed (drop (prefix_len is_ascii_digit t) t) → NoFeed t
digits_taken [] h = h
digits_taken (c ∷ cs) h = digit_step c cs (λ k. digits_taken cs k) (is_ascii_digit c) refl h

same_left : (t r : List ℕ) → Some t ≡ Some r → NoFeed r → NoFeed t
same_left t r e h = subst NoFeed (cc) h

digits_before : (t r : List ℕ) → after_digits t ≡ Some r → NoFeed r → NoFeed t
digits_before t r e h = by_none (prefix_len is_ascii_digit t == 0) e
  where
    by_none : (b : Bool) → cond b None (Some (drop (prefix_len is_ascii_digit t) t)) ≡ Some r → NoFeed t
    by_none true f = absurd (cc f)
    by_none false f = digits_taken t (same_left (drop (prefix_len is_ascii_digit t) t) r f h)

sign_before : (t : List ℕ) → NoFeed (after_sign t) → NoFeed t
sign_before [] h = tt
sign_before (c ∷ cs) h = by_sign ((c == 45) || (c == 43)) refl h
  where
    by_sign : (b : Bool) → ((c == 45) || (c == 43)) ≡ b → NoFeed (cond b cs (c ∷ cs)) → NoFeed (c ∷ cs)
    by_sign true e k = (passes (λ x. (x == 45) || (x == 43)) c refl e, k)
    by_sign false e k = k

minus_before : (t : List ℕ) → NoFeed (after_minus t) → NoFeed t
minus_before [] h = tt
minus_before (c ∷ cs) h = by_sign (c == 45) refl h
  where
    by_sign : (b : Bool) → (c == 45) ≡ b → NoFeed (cond b cs (c ∷ cs)) → NoFeed (c ∷ cs)
    by_sign true e k = (passes (λ x. x == 45) c refl e, k)
    by_sign false e k = k

whole_before : (t r : List ℕ) → after_whole t ≡ Some r → NoFeed r → NoFeed t
whole_before [] r e h = tt
whole_before (c ∷ cs) r e h = by_zero (c == 48) refl e
  where
    by_zero : (b : Bool) → (c == 48) ≡ b → cond b (Some cs) (after_digits (c ∷ cs)) ≡ Some r → NoFeed (c ∷ cs)
    by_zero true f g = (passes (λ x. x == 48) c refl f, same_left cs r g h)
    by_zero false f g = digits_before (c ∷ cs) r g h

fraction_before : (t r : List ℕ) → after_fraction t ≡ Some r → NoFeed r → NoFeed t
fraction_before [] r e h = tt
fraction_before (c ∷ cs) r e h = by_dot (c == 46) refl e
  where
    by_dot : (b : Bool) → (c == 46) ≡ b → cond b (after_digits cs) (Some (c ∷ cs)) ≡ Some r → NoFeed (c ∷ cs)
    by_dot true f g = (passes (λ x. x == 46) c refl f, digits_before cs r g h)
    by_dot false f g = same_left (c ∷ cs) r g h

exponent_before : (t r : List ℕ) → after_exponent t ≡ Some r → NoFeed r → NoFeed t
exponent_before [] r e h = tt
exponent_before (c ∷ cs) r e h = by_letter ((c == 101) || (c == 69)) refl e
  where
    by_letter : (b : Bool) → ((c == 101) || (c == 69)) ≡ b → cond b (after_digits (after_sign cs)) (Some (c ∷ cs)) ≡ Some r → NoFeed (c ∷ cs)
    by_letter true f g = (passes (λ x. (x == 101) || (x == 69)) c refl f, sign_before cs (digits_before (after_sign cs) r g h))
    by_letter false f g = same_left (c ∷ cs) r g h

number_lacks : (s : List ℕ) → IsNumber s → NoFeed s
unfolding after_number
number_lacks s h =
    option_and_then_some after_exponent (option_and_then after_fraction (after_whole (after_minus s))) [] h (λ one a b. option_and_then_some after_fraction (after_whole (after_minus s)) one a (λ two c d.
    minus_before s (whole_before (after_minus s) two c (fraction_before two one d (exponent_before one [] b tt)))))

-- strings

-- neither of two
either : (P : ℕ → Type 0) (b : Bool) (x y : ℕ) → P x → P y → P (cond b x y)
either P true x y h k = h
either P false x y h k = k

abbrev IsNone : ℕ → Type 0
IsNone x = x ≢ 10

letter_lacks : (x : ℕ) → escape_letter x ≢ 10
letter_lacks x = by_quote ((x == 34) || (x == 92)) refl
  where
    other : IsNone (cond (x == 8) 98 (cond (x == 12) 102 (cond (x == 10) 110 (cond (x == 13) 114 (cond (x == 9) 116 0)))))
    other = either IsNone (x == 8) 98 _ (omega arith) (either IsNone (x == 12) 102 _ (omega arith) (either IsNone (x == 10) 110 _ (omega arith)
        (either IsNone (x == 13) 114 _ (omega arith) (either IsNone (x == 9) 116 0 (omega arith) (omega arith)))))

    by_quote : (b : Bool) → ((x == 34) || (x == 92)) ≡ b → IsNone (cond b x (cond (x == 8) 98 (cond (x == 12) 102 (cond (x == 10) 110 (cond (x == 13) 114 (cond (x == 9) 116 0))))))
    by_quote true e = passes (λ y. (y == 34) || (y == 92)) x refl e
    by_quote false e = other

glyph_lacks : (d : ℕ) → digit_char d ≢ 10
glyph_lacks d = either IsNone (nat_lt d 10) (48 + d) (87 + d) (omega arith) (omega arith)

byte_lacks : (x : ℕ) → NoFeed (escape_byte x)
unfolding escape_byte
byte_lacks x = no_feed_cond (nat_lt 0 (escape_letter x)) (92 ∷ escape_letter x ∷ []) _ (omega arith, (letter_lacks x, tt)) (by_control (nat_lt x 32) refl)
  where
    by_control : (b : Bool) → nat_lt x 32 ≡ b → NoFeed (cond b (92 ∷ 117 ∷ 48 ∷ 48 ∷ digit_char (x / 16) ∷ digit_char (x % 16) ∷ []) (x ∷ []))
    by_control true e = (omega arith, (omega arith, (omega arith, (omega arith, (glyph_lacks (x / 16), (glyph_lacks (x % 16), tt))))))
    by_control false e = (passes (λ y. not (nat_lt y 32)) x refl (ap not e), tt)

escape_lacks : (s : List ℕ) → NoFeed (escape s)
escape_lacks [] = tt
escape_lacks (x ∷ xs) = no_feed_append (escape_byte x) (escape xs) (byte_lacks x) (escape_lacks xs)

quoted_lacks : (s : List ℕ) → NoFeed (quoted s)
quoted_lacks s = (omega arith, no_feed_append (escape s) (34 ∷ []) (escape_lacks s) (omega arith, tt))

-- tokens

token_lacks : (t : Token) → IsPrintableOrBad t → NoFeed (token_text t)
token_lacks begin_object h = (omega arith, tt)
token_lacks end_object h = (omega arith, tt)
token_lacks begin_array h = (omega arith, tt)
token_lacks end_array h = (omega arith, tt)
token_lacks (key s) h = no_feed_append (quoted s) (58 ∷ []) (quoted_lacks s) (omega arith, tt)
token_lacks (string s) h = quoted_lacks s
token_lacks (number s) h = number_lacks s h
token_lacks (boolean true) h = (omega arith, (omega arith, (omega arith, (omega arith, tt))))
token_lacks (boolean false) h = (omega arith, (omega arith, (omega arith, (omega arith, (omega arith, tt)))))
token_lacks null h = (omega arith, (omega arith, (omega arith, (omega arith, tt))))
token_lacks bad h = tt

print_lacks : (b : Bool) (ts : List Token) → ArePrintableOrBad ts → NoFeed (print_from b ts)
unfolding print_from
print_lacks b [] h = tt
print_lacks b (t ∷ ts) h =
    no_feed_append (separator b t) (token_text t ++ print_from (ends t) ts) (no_feed_cond (b && begins t) (44 ∷ []) [] (omega arith, tt) tt)
    (no_feed_append (token_text t) (print_from (ends t) ts) (token_lacks t h.0) (print_lacks (ends t) ts h.1))

lacks_feed : (xs : List ℕ) → NoFeed xs → (k : ℕ) → k < length xs → slice_index xs k ≢ 10
lacks_feed [] h k l = absurd (omega (arith, l))
lacks_feed (x ∷ xs) h zero l = h.0
lacks_feed (x ∷ xs) h (suc k) l = lacks_feed xs h.1 k (omega (arith, l))

-- what reads back as its tokens has none
pub text_lacks : (ts : List Token) → tokens (print ts) ≡ ts → (k : ℕ) → k < length (print ts) → slice_index (print ts) k ≢ 10
text_lacks ts e = lacks_feed (print ts) (print_lacks false ts (subst ArePrintableOrBad e (ArePrintableOrBad-tokens (print ts))))

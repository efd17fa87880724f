-- What a text is as printable ASCII.
use Rattle.std.proofs.Common.{◌≡◌, ◌∙◌, ℕ, zero, suc, ◌+◌, ◌/◌, ◌%◌, ◌<◌, ◌&&◌, Bool, true, false, cond, nat_le, nat_lt, List, [], ◌∷◌, ◌++◌, length, take, refl, sym, ap, IsUtf8, chars, encode_utf8, append_assoc, append-nil, arith, if◌then◌else◌}
use Rattle.std.specs.Char.{digit_char}
use Rattle.std.specs.Char.Escape.{encode_utf16}
use Rattle.std.specs.List.{flat_map}
use Rattle.std.proofs.lemmas.List.{nil_from_length}
use Rattle.std.proofs.lemmas.List.Elements.{All-append, All-take}
use Rattle.std.proofs.lemmas.Str.{IsUtf8-past_char, chars_past_char, chars-nil}
use Rattle.wire_lib.specs.Printable.{IsPrintable, ArePrintable, escaped_unit, shown_character, shown_text}

-- a character was appended, and the others are left
pub shown_step : (old new s t whole : List ℕ) (c : ℕ) → new ≡ old ++ shown_character c → IsUtf8 s → s ≡ encode_utf8 c ++ t
    → old ++ shown_text s ≡ whole → IsUtf8 t × (new ++ shown_text t ≡ whole)
shown_step old new s t whole c n u p w = (
  IsUtf8-past_char s t c u p,
  ap (λ x. x ++ shown_text t) n ∙ append_assoc old (shown_character c) (shown_text t)
      ∙ ap (λ x. old ++ x) (sym (ap (flat_map shown_character) (chars_past_char s t c u p))) ∙ w,
)

-- none is left
pub shown_end : (line s whole : List ℕ) → length s ≡ 0 → line ++ shown_text s ≡ whole → line ≡ whole
shown_end line s whole e w =
    sym (append-nil line) ∙ ap (λ x. line ++ x) (sym (ap (flat_map shown_character) (ap chars (nil_from_length s e) ∙ chars-nil))) ∙ w

digit_printable : (d : ℕ) → d < 16 → IsPrintable (digit_char d)
digit_printable d l = by_digit (nat_lt d 10) refl
  where
    by_digit : (b : Bool) → nat_lt d 10 ≡ b → IsPrintable (cond b (48 + d) (87 + d))
    by_digit true e = (omega arith, omega (arith, l))
    by_digit false e = (omega arith, omega (arith, l))

and_then : (x : ℕ) (xs : List ℕ) → IsPrintable x → ArePrintable xs → ArePrintable (x ∷ xs)
and_then x xs h k zero d l = h
and_then x xs h k (suc n) d l = k n d (omega (arith, l))

none : ArePrintable []
none k d l = absurd (omega (arith, l))

unit_printable : (unit : ℕ) → ArePrintable (escaped_unit unit)
unit_printable u =
    let a = digit_char (u / 4096 % 16) in
    let b = digit_char (u / 256 % 16) in
    let c = digit_char (u / 16 % 16) in
    let d = digit_char (u % 16) in
    and_then 92 (117 ∷ a ∷ b ∷ c ∷ d ∷ []) (omega arith, omega arith)
    (and_then 117 (a ∷ b ∷ c ∷ d ∷ []) (omega arith, omega arith)
    (and_then a (b ∷ c ∷ d ∷ []) (digit_printable (u / 4096 % 16) (omega arith))
    (and_then b (c ∷ d ∷ []) (digit_printable (u / 256 % 16) (omega arith))
    (and_then c (d ∷ []) (digit_printable (u / 16 % 16) (omega arith))
    (and_then d [] (digit_printable (u % 16) (omega arith)) none)))))

units_printable : (units : List ℕ) → ArePrintable (flat_map escaped_unit units)
units_printable [] = none
units_printable (u ∷ us) = All-append IsPrintable (escaped_unit u) (flat_map escaped_unit us) (unit_printable u) (units_printable us)

character_printable : (c : ℕ) → ArePrintable (shown_character c)
character_printable c = by_test (nat_le 32 c && nat_le c 126) refl
  where
    by_test : (b : Bool) → (nat_le 32 c && nat_le c 126) ≡ b → ArePrintable (if b then c ∷ [] else flat_map escaped_unit (encode_utf16 c))
    by_test true e = and_then c [] (grind (arith, e)) none
    by_test false e = units_printable (encode_utf16 c)

characters_printable : (cs : List ℕ) → ArePrintable (flat_map shown_character cs)
characters_printable [] = none
characters_printable (c ∷ cs) = All-append IsPrintable (shown_character c) (flat_map shown_character cs) (character_printable c) (characters_printable cs)

-- what is shown of a text can be
pub cut_printable : (columns : ℕ) (text : List ℕ) → ArePrintable (take columns (shown_text text))
cut_printable columns text = All-take IsPrintable columns (shown_text text) (characters_printable (chars text))

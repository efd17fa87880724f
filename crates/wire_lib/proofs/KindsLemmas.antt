-- What is kept of a long text.
use Rattle.std.proofs.Common.{◌≡◌, ◌∙◌, ◌==◌, ℕ, Bool, true, false, cond, ◌+◌, ◌-◌, ◌<◌, ◌≤◌, List, [], ◌∷◌, ◌++◌, length, refl, sym, ap, subst, codes, IsUtf8, chars, encode_utf8, append_assoc, append-nil, arith}
use Rattle.std.proofs.lemmas.List.{nil_from_length}
use Rattle.std.proofs.lemmas.Str.{IsUtf8-past_char, chars_past_char, chars-nil}
use Rattle.schema_table.specs.Looks.{is_empty_named}
use Rattle.schema_table.specs.Printed.{Prints}
use Rattle.schema_table.specs.Telling.{names_at}
use Rattle.schema_table.specs.declared.value.Value.{Value}
use Rattle.wire_lib.specs.declared.receive.Reading.{Reading}
use Rattle.wire_lib.specs.Kinds.{IsTextBeside, IsTextOfPart, part_beside, shortened, shortened_to}

one_more : (left c : ℕ) (cs : List ℕ) → 0 < left
    → shortened_to left (c ∷ cs) ≡ encode_utf8 c ++ shortened_to (left - length (encode_utf8 c)) cs
one_more left c cs h = by_test (left == 0) refl
  where
    by_test : (b : Bool) → (left == 0) ≡ b → cond b (codes "..") (encode_utf8 c ++ shortened_to (left - length (encode_utf8 c)) cs) ≡ encode_utf8 c ++ shortened_to (left - length (encode_utf8 c)) cs
    by_test true e = let z : left ≡ 0 = grind (arith, e) in absurd (omega (arith, z, h))
    by_test false e = refl

no_more : (left c : ℕ) (cs : List ℕ) → left ≡ 0 → shortened_to left (c ∷ cs) ≡ codes ".."
no_more left c cs e = ap (λ n. shortened_to n (c ∷ cs)) e

-- a character was kept, and the others are left
pub short_step : (old new s t whole : List ℕ) (c n m : ℕ) → n < 1024 → m ≡ n + length (encode_utf8 c) → new ≡ old ++ encode_utf8 c
    → IsUtf8 s → s ≡ encode_utf8 c ++ t → old ++ shortened_to (1024 - n) (chars s) ≡ whole
    → IsUtf8 t × (new ++ shortened_to (1024 - m) (chars t) ≡ whole)
short_step old new s t whole c n m l e a u p w =
    let left : 1024 - m ≡ 1024 - n - length (encode_utf8 c) = omega (arith, e) in (
      IsUtf8-past_char s t c u p,
      ap (λ x. x ++ shortened_to (1024 - m) (chars t)) a ∙ append_assoc old (encode_utf8 c) (shortened_to (1024 - m) (chars t))
          ∙ ap (λ k. old ++ (encode_utf8 c ++ shortened_to k (chars t))) left
          ∙ ap (λ x. old ++ x) (sym (one_more (1024 - n) c (chars t) (omega (arith, l))))
          ∙ ap (λ x. old ++ shortened_to (1024 - n) x) (sym (chars_past_char s t c u p)) ∙ w,
    )

-- one character is left, and nothing more is kept
pub short_cut : (old s t whole : List ℕ) (c n : ℕ) → 1024 ≤ n → IsUtf8 s → s ≡ encode_utf8 c ++ t
    → old ++ shortened_to (1024 - n) (chars s) ≡ whole → old ++ codes ".." ≡ whole
short_cut old s t whole c n l u p w =
    ap (λ x. old ++ x) (sym (no_more (1024 - n) c (chars t) (omega (arith, l))))
    ∙ ap (λ x. old ++ shortened_to (1024 - n) x) (sym (chars_past_char s t c u p)) ∙ w

-- none is left
pub short_end : (old s whole : List ℕ) (n : ℕ) → length s ≡ 0 → old ++ shortened_to n (chars s) ≡ whole → old ≡ whole
short_end old s whole n e w =
    sym (append-nil old) ∙ ap (λ x. old ++ x) (sym (ap (shortened_to n) (ap chars (nil_from_length s e) ∙ chars-nil))) ∙ w

-- the text of a part of a value whose type has fields
pub text_beside : (r : Reading) (v : Value) (part : ℕ × Value) (text json : List ℕ) → part ≡ part_beside r.schema.now r.place v
    → is_empty_named (names_at r.schema.now part.0) ≡ false → Prints r.hex r.schema.now r.depth part.0 part.1 json
    → text ≡ shortened json → IsTextBeside r v text
text_beside r v part text json e some prints is =
    subst (λ p. IsTextOfPart (is_empty_named (names_at r.schema.now p.0)) r p text) e
    (subst (λ b. IsTextOfPart b r part text) (sym some) (json, prints, is))

-- and of one whose type has none
pub fieldless : (r : Reading) (v : Value) (part : ℕ × Value) (text : List ℕ) → part ≡ part_beside r.schema.now r.place v
    → is_empty_named (names_at r.schema.now part.0) ≡ true → text ≡ [] → IsTextBeside r v text
fieldless r v part text e none is =
    subst (λ p. IsTextOfPart (is_empty_named (names_at r.schema.now p.0)) r p text) e
    (subst (λ b. IsTextOfPart b r part text) (sym none) is)

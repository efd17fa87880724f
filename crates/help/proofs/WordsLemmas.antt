-- Words, of which none so far asks for help.
use Rattle.std.proofs.Common.{◌≡◌, ◌↔◌, Option, None, Some, ℕ, ◌+◌, ◌<◌, ◌≤◌, List, [], ◌∷◌, ◌++◌, length, map, take, get_or, String, Global, string_bytes, sym, ap, ◌∙◌, subst, inl, inr, arith}
use Rattle.std.specs.List.{Contains}
use Rattle.std.proofs.lemmas.List.{take_more, take_all, map-append}
use Rattle.std.proofs.lemmas.List.Elements.{Contains-push_cases}
use Rattle.help.specs.Words.{help_word, version_word, AsksOfItself}
use Rattle.help.specs.declared.Asked.{Asked}
use Rattle.help.specs.declared.Asked.TheVariants.{Help, Version}

abbrev pub AsksNot : List (String Global) → Type 0
AsksNot words = Contains (map string_bytes words) help_word → ⊥

pub none_asks : AsksNot []
none_asks h = omega (arith, h.1)

pub one_more : (words : List (String Global)) (i : ℕ) (w : String Global) → i < length words → w ≡ get_or words i w → (string_bytes w ≡ help_word → ⊥) → AsksNot (take i words) → AsksNot (take (i + 1) words)
one_more words i w l is other before h =
    let same : map string_bytes (take (i + 1) words) ≡ map string_bytes (take i words) ++ string_bytes w ∷ [] =
    ap (map string_bytes) (take_more words i w l ∙ ap (λ x. take i words ++ x ∷ []) (sym is)) ∙ map-append string_bytes (take i words) (w ∷ []) in
    elim (Contains-push_cases (map string_bytes (take i words)) (string_bytes w) help_word (subst (λ z. Contains z help_word) same h)) [
      | inl e ↦ before e
      | inr e ↦ other e
    ]

pub all_asked : (words : List (String Global)) (i : ℕ) → length words ≤ i → AsksNot (take i words) → AsksNot words
all_asked words i l before = subst AsksNot (take_all i words l) before

never : {a : Asked} → ◌≡◌ {A = Option Asked} None (Some a) → ⊥
never e = cc

-- what is asked for is help or the version
pub asks : (words : List (List ℕ)) (r : Option Asked) (a : Asked) → r ≡ Some a → (r ≡ Some Help ↔ Contains words help_word)
    → (r ≡ Some Version ↔ (words ≡ version_word ∷ [])) → AsksOfItself words
asks words r Help e h v = inl (h.0 e)
asks words r Version e h v = inr (v.0 e)

-- nothing is
pub asks_none : (words : List (List ℕ)) (r : Option Asked) → r ≡ None → (r ≡ Some Help ↔ Contains words help_word)
    → (r ≡ Some Version ↔ (words ≡ version_word ∷ [])) → AsksOfItself words → ⊥
asks_none words r e h v (inl c) = never (sym e ∙ h.1 c)
asks_none words r e h v (inr c) = never (sym e ∙ v.1 c)

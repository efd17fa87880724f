-- Whether a name is one of several.
use Rattle.std.proofs.Common.{◌≡◌, ◌≢◌, ◌<◌, ◌+◌, ℕ, zero, suc, List, [], ◌∷◌, length, drop, get_or, String, Global, string_bytes, inl, inr, sym, ap, ◌∙◌, subst, arith}
use Rattle.std.proofs.lemmas.List.{drop_more}
use Rattle.wire_json.specs.Meant.{IsOneOf}

-- one of the names is it
pub one_of_here : (s : List ℕ) (ns : List (String Global)) (i : ℕ) (n : String Global) → i < length ns → n ≡ get_or ns i n
    → string_bytes n ≡ s → IsOneOf s ns
one_of_here s [] i n l e f = absurd (omega (arith, l))
one_of_here s (m ∷ ns) zero n l e f = inl (ap string_bytes (sym e) ∙ f)
one_of_here s (m ∷ ns) (suc i) n l e f = inr (one_of_here s ns i n (omega (arith, l)) e f)

-- the first of them isn't
not_first : (s : List ℕ) (n : String Global) (ns : List (String Global)) → string_bytes n ≢ s → IsOneOf s (n ∷ ns) → IsOneOf s ns
not_first s n ns f (inl e) = absurd (f e)
not_first s n ns f (inr h) = h

-- one more of them isn't
pub one_of_more : (s : List ℕ) (ns : List (String Global)) (i : ℕ) (n : String Global) → i < length ns → n ≡ get_or ns i n
    → string_bytes n ≢ s → (IsOneOf s ns → IsOneOf s (drop i ns)) → IsOneOf s ns → IsOneOf s (drop (i + 1) ns)
one_of_more s ns i n l e f h k =
    let same : drop i ns ≡ n ∷ drop (i + 1) ns = drop_more ns i n l ∙ ap (λ m. m ∷ drop (i + 1) ns) (sym e) in
    not_first s n (drop (i + 1) ns) f (subst (IsOneOf s) same (h k))

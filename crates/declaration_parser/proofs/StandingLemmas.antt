-- Going over tokens, up to a declaration at a time.
use Rattle.std.specs.Prelude.{ℕ, ◌<◌, ◌≤◌, ◌⊎◌, ◌≡◌, List, [], ◌∷◌, ◌++◌, true, length, get_or, Any}
use Rattle.std.proofs.Common.{sym, ◌∙◌, ap, subst, refl, inl, inr}
use Rattle.std.proofs.lemmas.Bool.{cases_lt, false≢true}
use Rattle.std.proofs.lemmas.Option.{slice_get_past}
use Rattle.declaration_parser.specs.declared.declaration.Declaration.{Declaration}
use Rattle.declaration_parser.specs.declared.tokens.Tokens.{Tokens}
use Rattle.declaration_parser.specs.Marked.{NoMark, is_mark_at, is_marking_token}
use Rattle.declaration_parser.specs.Standing.{AreInOrder, Follows, MarksAreDeclared, StandsBefore}

-- a declaration is added after others
pub in_order_and : (from : ℕ) (found : List Declaration) (end : ℕ) (it : Declaration) → AreInOrder from found end → Follows end it
    → AreInOrder from (found ++ (it ∷ [])) it.words.to
in_order_and from [] end it e f = (subst (λ z. Follows z it) (sym e) f, refl)
in_order_and from (first ∷ more) end it (g, h) f = (g, in_order_and first.words.to more end it h f)

-- the marks up to a place are declared
abbrev pub DeclaredUpTo : Tokens → List Declaration → ℕ → Type 0
DeclaredUpTo tokens found end = (place : ℕ) → place < end → is_mark_at tokens place ≡ true → Any (StandsBefore place) found

up_to_by : (tokens : Tokens) (found : List Declaration) (a b place : ℕ) → DeclaredUpTo tokens found a → NoMark tokens a b
    → place < b → is_mark_at tokens place ≡ true → (place < a) ⊎ (a ≤ place) → Any (StandsBefore place) found
up_to_by tokens found a b place h k u e (inl x) = h place x e
up_to_by tokens found a b place h k u e (inr x) = absurd (false≢true (sym (k place x u) ∙ e))

-- no mark follows up to another place
pub up_to_more : (tokens : Tokens) (found : List Declaration) (a b : ℕ) → DeclaredUpTo tokens found a → NoMark tokens a b
    → DeclaredUpTo tokens found b
up_to_more tokens found a b h k place u e = up_to_by tokens found a b place h k u e (cases_lt place a)

behind_by : (tokens : Tokens) (found : List Declaration) (k : ℕ) (it : Declaration) (place : ℕ) → k < length found → get_or found k it ≡ it
    → DeclaredUpTo tokens found it.attributes.from → place < it.attributes.to → is_mark_at tokens place ≡ true
    → (place < it.attributes.from) ⊎ (it.attributes.from ≤ place) → Any (StandsBefore place) found
behind_by tokens found k it place l e h u m (inl x) = h place x m
behind_by tokens found k it place l e h u m (inr x) = (k, it, l, e, (x, u))

-- those among the attributes of a declaration are its
pub up_to_behind : (tokens : Tokens) (found : List Declaration) (k : ℕ) (it : Declaration) → k < length found → get_or found k it ≡ it
    → DeclaredUpTo tokens found it.attributes.from → DeclaredUpTo tokens found it.attributes.to
up_to_behind tokens found k it l e h place u m = behind_by tokens found k it place l e h u m (cases_lt place it.attributes.from)

all_by : (tokens : Tokens) (found : List Declaration) (place : ℕ) → DeclaredUpTo tokens found (length tokens.all.items)
    → is_mark_at tokens place ≡ true → (place < length tokens.all.items) ⊎ (length tokens.all.items ≤ place) → Any (StandsBefore place) found
all_by tokens found place h m (inl x) = h place x m
all_by tokens found place h m (inr x) =
    absurd (false≢true (ap (is_marking_token tokens.texts.items) (sym (slice_get_past tokens.all.items place x)) ∙ m))

-- no token follows the last
pub all_declared : (tokens : Tokens) (found : List Declaration) → DeclaredUpTo tokens found (length tokens.all.items)
    → MarksAreDeclared tokens found
all_declared tokens found h place m = all_by tokens found place h m (cases_lt place (length tokens.all.items))

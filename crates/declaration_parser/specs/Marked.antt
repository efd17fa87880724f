-- Comments that mark declarations.
use Rattle.std.specs.Prelude.{◌≡◌, ◌≤◌, ◌<◌, ◌||◌, ℕ, Bool, false, List, Option, Some, None, codes, nat_eq, String, string_bytes}
use Rattle.std.specs.Cmp.Lexicographic.{pointwise}
use Rattle.std.specs.List.{slice_get, starts_with}
use Rattle.declaration_parser.specs.declared.tokens.Token.{Token}
use Rattle.declaration_parser.specs.declared.tokens.Tokens.{Tokens}

-- the text of a comment that marks the declaration after it
abbrev pub is_marking : List ℕ → Bool
is_marking s = pointwise nat_eq s (codes "// message") || starts_with nat_eq s (codes "// message:")

-- whether a text is there, and is such a comment's
abbrev pub is_marking_text : {A : Type 0} → Option (String A) → Bool
is_marking_text None = false
is_marking_text (Some text) = is_marking (string_bytes text)

-- whether a token is there, and its text is such a comment's
abbrev pub is_marking_token : {A : Type 0} → List (String A) → Option Token → Bool
is_marking_token texts None = false
is_marking_token texts (Some token) = is_marking_text (slice_get texts token.name)

-- whether the token at a place is such a comment
abbrev pub is_mark_at : Tokens → ℕ → Bool
is_mark_at tokens place = is_marking_token tokens.texts.items (slice_get tokens.all.items place)

-- none is from one place up to another
abbrev pub NoMark : Tokens → ℕ → ℕ → Type 0
NoMark tokens from to = (place : ℕ) → from ≤ place → place < to → is_mark_at tokens place ≡ false

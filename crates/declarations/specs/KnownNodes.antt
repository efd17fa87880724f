-- Which nodes known types have that hold others.
use Rattle.std.specs.Prelude.{◌≡◌, ⊤, ℕ, List, [], ◌∷◌, Option, Some, None, length}
use Rattle.declarations.specs.declared.known.KnownForm.{KnownForm}
use Rattle.declarations.specs.declared.known.KnownForm.TheVariants as form
use Rattle.schema_table.specs.declared.integer.IntegerType.{IntegerType}
use Rattle.schema_table.specs.declared.node.Node.{Node}
use Rattle.schema_table.specs.declared.node.Node.TheVariants as node

-- the node of a known type: by its form, the places of the types that it holds (of a map, that of its pairs), its length, and
-- its type if that can be sent as its bytes
abbrev pub IsNodeOf : KnownForm → List ℕ → Option ℕ → Option IntegerType → Node → Type 0
IsNodeOf form.Option places _ _ (node.Option place) = places ≡ place ∷ []
IsNodeOf form.List places None _ (node.List place) = places ≡ place ∷ []
IsNodeOf form.List places (Some limit) _ (node.ListUpTo most place) = (most ≡ limit) × (places ≡ place ∷ [])
IsNodeOf form.ListUpTo places (Some limit) _ (node.ListUpTo most place) = (most ≡ limit) × (places ≡ place ∷ [])
IsNodeOf form.Set places _ _ (node.List place) = places ≡ place ∷ []
IsNodeOf form.Outcome places _ _ (node.Enum held) = (held.items ≡ places) × (length places ≡ 2)
IsNodeOf form.Map pairs _ _ (node.List place) = pairs ≡ place ∷ []
IsNodeOf form.MapUpTo pairs (Some limit) _ (node.ListUpTo most place) = (most ≡ limit) × (pairs ≡ place ∷ [])
IsNodeOf form.Array places (Some count) _ (node.Array elements place) = (elements ≡ count) × (places ≡ place ∷ [])
IsNodeOf form.Tuple places _ _ (node.Struct held) = held.items ≡ places
IsNodeOf form.TextUpTo _ (Some limit) _ (node.TextUpTo most) = most ≡ limit
IsNodeOf form.Bytes _ _ _ node.Bytes = ⊤
IsNodeOf form.Little _ _ (Some of) (node.LE integer) = integer ≡ of
IsNodeOf form.Big _ _ (Some of) (node.BE integer) = integer ≡ of
IsNodeOf _ _ _ _ _ = ⊥

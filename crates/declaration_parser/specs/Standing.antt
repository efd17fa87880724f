-- The positions of declarations among the tokens of files.
use Rattle.std.specs.Prelude.{◌≡◌, ◌≤◌, ◌<◌, ℕ, true, List, [], ◌∷◌, ◌++◌, length, Any}
use Rattle.declaration_parser.specs.declared.declaration.Declaration.{Declaration}
use Rattle.declaration_parser.specs.declared.tokens.File.{File}
use Rattle.declaration_parser.specs.declared.tokens.Tokens.{Tokens}
use Rattle.declaration_parser.specs.Marked.{is_mark_at}

-- the place is among the comments and attributes of a declaration
abbrev pub StandsBefore : ℕ → Declaration → Type 0
StandsBefore place it = (it.attributes.from ≤ place) × (place < it.attributes.to)

-- each token that marks is among those of one of these declarations
abbrev pub MarksAreDeclared : Tokens → List Declaration → Type 0
MarksAreDeclared tokens found = (place : ℕ) → is_mark_at tokens place ≡ true → Any (StandsBefore place) found

-- a declaration is at a place or after it, first its comments and attributes, then its words
pub record Follows (from : ℕ) (it : Declaration) : Type 0 where
  pub follows : from ≤ it.attributes.from
  pub attributes_within : it.attributes.from ≤ it.attributes.to
  pub joined : it.attributes.to ≡ it.words.from
  pub words_within : it.words.from ≤ it.words.to

-- declarations one after another, from a place on to the end of the last
abbrev pub AreInOrder : ℕ → List Declaration → ℕ → Type 0
AreInOrder from [] end = from ≡ end
AreInOrder from (it ∷ more) end = Follows from it × AreInOrder it.words.to more end

-- the last file has the tokens from this place on, up to the last of all
pub record EndsInFile (tokens : Tokens) (from : ℕ) : Type 0 where
  -- the files before it
  pub before : List File
  pub file : File
  pub whole : tokens.files.items ≡ before ++ (file ∷ [])
  pub begins : file.words.from ≡ from
  pub ends : file.words.to ≡ length tokens.all.items

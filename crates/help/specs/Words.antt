-- The words that ask a program about itself.
use Rattle.std.specs.Prelude.{◌≡◌, ◌⊎◌, ℕ, List, [], ◌∷◌, codes}
use Rattle.std.specs.List.{Contains}

-- "--help"
abbrev pub help_word : List ℕ
help_word = codes "--help"

-- "--version"
abbrev pub version_word : List ℕ
version_word = codes "--version"

-- one of the words is "--help", or "--version" is the only one
abbrev pub AsksOfItself : List (List ℕ) → Type 0
AsksOfItself words = Contains words help_word ⊎ (words ≡ version_word ∷ [])

-- How answers are handed on one after another.
use Rattle.std.specs.Prelude.{List, [], ◌++◌}

-- answers that were handed on in turn were handed on as one list
pub record VisitorLaws {S A : Type 0} (took : S → List A → S → Type 0) : Type 0 where
  -- handing on nothing changes nothing
  pub nothing : (s : S) → took s [] s
  -- two lists in turn are one list
  pub more : (s t u : S) (a b : List A) → took s a t → took t b u → took s (a ++ b) u

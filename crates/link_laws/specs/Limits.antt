-- What is heard where a limit is set anew between stretches.
use Rattle.std.specs.Prelude.{◌≡◌, ◌↔◌, ℕ, List, [], ◌++◌}
use Rattle.postcard_tree.specs.Tree.{Tree}
use Rattle.link.specs.Stream.{Verdict, unfinished, cut_answers, Given, Answers}
use Rattle.link.specs.Laws.{EndsBetween}
use Rattle.link_laws.specs.Pieced.{PushesPieces}
use Rattle.link.specs.Roads.{joined}

-- The limit is set anew behind bytes that are empty or end in a sentinel: the answers are those given of these bytes under the
-- old limit, and then those of the rest under the new one.
pub record HeardAnew (holds : List ℕ → Tree → Type 0) (limit next s : ℕ)
    (first rest : List ℕ) (answers : List Verdict) : Type 0 where
  -- the limit is changed between stretches
  pub between : EndsBetween s first
  -- the results before
  pub front : List Verdict
  -- and those after
  pub back : List Verdict
  -- those before are by the old limit
  pub given : Given holds limit s first front
  -- those after by the new one
  pub answered : Answers holds next s rest back
  -- and there are no others
  pub whole : answers ≡ front ++ back

-- PushesPieces of any pieces before the limit is set and behind it, with what is said of an unfinished stretch at the end, answer that.
-- And where the limits are the same, these are the answers to the whole stream.
pub record IsSetAnew (holds : List ℕ → Tree → Type 0) (s : ℕ) : Type 0 where
  -- pushes of any chunks before and after the change give these results
  pub pushed : (limit next : ℕ) (before behind : List (List ℕ)) (us vs : List Verdict)
      → EndsBetween s (joined before)
      → PushesPieces holds limit s [] before us → PushesPieces holds next s [] behind vs
      → HeardAnew holds limit next s (joined before) (joined behind)
      (us ++ (vs ++ cut_answers next (unfinished s (joined behind))))
  -- if the limits are the same, they are those of the whole stream
  pub same : (limit : ℕ) (first rest : List ℕ) (answers : List Verdict) → EndsBetween s first
      → HeardAnew holds limit limit s first rest answers
      ↔ Answers holds limit s (first ++ rest) answers

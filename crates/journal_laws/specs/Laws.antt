-- What the laws of a log say.
use Rattle.std.specs.Prelude.{◌≡◌, ◌↔◌, ℕ, ◌+◌, ◌≤◌, List, [], ◌∷◌, ◌++◌, length, map, take}
use Rattle.postcard_tree.specs.Tree.{Tree}
use Rattle.postcard.specs.Frames.{Holds}
use Rattle.link.specs.Stream.{Verdict, value, HoldsExactly, Given, Answers}
use Rattle.link.specs.Run.{Among, Send, completed, IsRun, line}
use Rattle.link.specs.Laws.{sentinels}
use Rattle.link.specs.Roads.{values_of}
use Rattle.link_laws.specs.Crashes.{tried, LiesBetween, left}
use Rattle.journal.specs.Places.{least_record}

-- What a crash leaves of a history is the line of what is left of its run; and what is read of that and of whatever sessions come
-- later: each record that was left whole, in order, and none that wasn't appended.
pub record SurvivesAt (s : ℕ) (run later : List (List Send)) (k : ℕ) (answers : List Verdict) : Type 0 where
  -- what is left is the line of what is left of the run
  pub bytes : take k (line s run) ≡ line s (left s k run)
  -- each record that was left whole is read, in order
  pub between : LiesBetween (left s k run ++ later) (values_of answers)
  -- none is read that wasn't tried
  pub not_invented : Among (values_of answers) (tried run ++ tried later)

-- So it is at every place at which a crash cuts a run's line, whatever run comes later; and what is left of the run is a run again.
abbrev pub Survives : (Tree → Type 0) → (List ℕ → Tree → Type 0) → ℕ → ℕ → Type 0
Survives takes holds limit s = (run later : List (List Send)) (k : ℕ) (answers : List Verdict) → IsRun takes limit s run → IsRun takes limit s later
    → Answers holds limit s (take k (line s run) ++ line s later) answers → IsRun takes limit s (left s k run) × SurvivesAt s run later k answers

-- What was given of bytes with a sentinel after them is the beginning of what is received of them and anything later: other
-- records, or whatever bytes a crash left there.
abbrev pub SettlesLog : (List ℕ → Tree → Type 0) → ℕ → ℕ → Type 0
SettlesLog holds limit s = (a b : List ℕ) (answers : List Verdict)
    → Answers holds limit s ((a ++ (s ∷ [])) ++ b) answers
    ↔ ((us vs : List Verdict) × Given holds limit s (a ++ (s ∷ [])) us × Answers holds limit s b vs × (answers ≡ us ++ vs))

-- one session that appends these records
abbrev pub anew : List Tree → List (List Send)
anew ts = map completed ts ∷ []

-- What is read of any bytes can be appended anew, and is what is then read.
pub record RepairsAt (takes : Tree → Type 0) (limit s : ℕ) (answers : List Verdict) : Type 0 where
  -- no record is refused
  pub is_run : IsRun takes limit s (anew (values_of answers))
  -- ordinary reading gives these records and nothing else
  pub reads : (later : List Verdict) → Answers (Holds takes) limit s (line s (anew (values_of answers))) later ↔ (later ≡ map value (values_of answers))
  -- so does strict reading
  pub reads_strictly : (later : List Verdict) → Answers (HoldsExactly takes) limit s (line s (anew (values_of answers))) later ↔ (later ≡ map value (values_of answers))

-- So it is with the results of every stream.
abbrev pub Repairs : (Tree → Type 0) → ℕ → ℕ → Type 0
Repairs takes limit s = (stream : List ℕ) (answers : List Verdict) → Answers (Holds takes) limit s stream answers → RepairsAt takes limit s answers

-- these are the records but for some between
pub record LosesBetween (n m : ℕ) (ts : List Tree) (answers : List Verdict) : Type 0 where
  -- the records before the damage
  pub before : List Tree
  -- the records that aren't read any more
  pub lost : List Tree
  -- the records after it
  pub behind : List Tree
  -- the results in their place
  pub instead : List Verdict
  -- the records were these three
  pub were : ts ≡ before ++ (lost ++ behind)
  -- so many are lost at most
  pub few : length lost ≤ n
  -- the results are the records but for those lost
  pub are : answers ≡ map value before ++ (instead ++ map value behind)
  -- so many results replace them at most
  pub little : length instead ≤ m

-- Where bytes x of a log of these records became y, at most one record more than x has sentinels is lost.
abbrev pub LosesTouched : (Tree → Type 0) → (List ℕ → Tree → Type 0) → ℕ → ℕ → Type 0
LosesTouched takes holds limit s = (ts : List Tree) (a x y b : List ℕ) (answers : List Verdict) → IsRun takes limit s (anew ts) → line s (anew ts) ≡ a ++ (x ++ b)
    → Answers holds limit s (a ++ (y ++ b)) answers → LosesBetween (sentinels s x + 1) (sentinels s y + 1) ts answers

-- A stretch that holds a record takes, with its zero, at least the bytes that are counted for a record that may have been lost.
abbrev pub TakesLeast : (List ℕ → Tree → Type 0) → Type 0
TakesLeast holds = (stretch : List ℕ) (t : Tree) → holds stretch t → least_record ≤ length stretch + 1

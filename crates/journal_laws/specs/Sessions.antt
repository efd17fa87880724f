-- What a session of appends does to a log, and what comes of its history.
use Rattle.std.specs.Prelude.{◌≡◌, ℕ, ◌+◌, true, List, [], ◌∷◌, ◌++◌, length, Option, Some}
use Rattle.std.specs.List.{AllZip}
use Rattle.line_io.specs.Device.{Wrote}
use Rattle.postcard_tree.specs.Tree.{Tree}
use Rattle.postcard_tree.specs.ReadingLaws.{WireForm}
use Rattle.link.specs.Run.{IsFramed, IsSession, session_line, line}
use Rattle.journal.specs.Records.{numbered, takes_record}
use Rattle.journal.specs.Appending.{LogPlace}
use Rattle.journal_laws.specs.Numbers.{LogEvent, appended, appends, history, IsHistory}

-- These values were appended to a log that stood at the first place and stands at the second, with the numbers from the next one on.
pub record AppendsAll {V : Type 0} (form : WireForm V) (limit : ℕ) (old new : LogPlace) (values : List V) : Type 0 where
  -- what the values write
  pub trees : List Tree
  -- each value writes its tree
  pub of : AllZip (λ v t. form.writes v ≡ Some t) values trees
  -- their appends are a session within the limit
  pub are : IsSession (takes_record form.takes) limit 0 true (appends numbered old.next trees)
  -- the store has grown by exactly the bytes of that session
  pub wrote : Wrote old.line new.line (session_line 0 true (appends numbered old.next trees))
  -- no call of the store was a fault
  pub quiet : new.line.faults ≡ old.line.faults
  -- the next number counts them
  pub next_is : new.next ≡ old.next + length trees

-- The history went on by an opening and appends of these values: it is one again, and its line is what is held.
pub record HistoryGoesOn {V : Type 0} (form : WireForm V) (limit : ℕ) (any : Tree) (events : List LogEvent) (held : Option (List ℕ)) (values : List V) : Type 0 where
  -- what the values write
  pub trees : List Tree
  -- each value writes its tree
  pub of : AllZip (λ v t. form.writes v ≡ Some t) values trees
  -- the history and this session are a history
  pub is_history : IsHistory (takes_record form.takes) limit 0 numbered any (events ++ appended trees ∷ [])
  -- the store holds the line of it
  pub bytes : held ≡ Some (line 0 (history 0 numbered any [] (events ++ appended trees ∷ [])))

-- So it is after any history that the store held the line of.
abbrev pub GoesOnFrom : {V : Type 0} → WireForm V → ℕ → Option (List ℕ) → Option (List ℕ) → List V → Type 0
GoesOnFrom form limit old new values = (any : Tree) (events : List LogEvent) → IsFramed (takes_record form.takes) limit any
    → IsHistory (takes_record form.takes) limit 0 numbered any events → old ≡ Some (line 0 (history 0 numbered any [] events)) → HistoryGoesOn form limit any events new values

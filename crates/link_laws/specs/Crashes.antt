-- What is heard of a run lies between what was completed and what was tried; and what a crash leaves of a line.
use Rattle.std.specs.Prelude.{◌≡◌, ℕ, ◌-◌, Bool, false, List, [], ◌∷◌, ◌++◌, length, take, if◌then◌else◌, nat_lt}
use Rattle.std.proofs.Common.{inl, inr}
use Rattle.postcard_tree.specs.Tree.{Tree}
use Rattle.link.specs.Stream.{Verdict, Answers}
use Rattle.link.specs.Run.{Among, Send, completed, refused, broken, written, clean_after, session_line, line, IsRun}
use Rattle.link.specs.Roads.{values_of}

-- the trees of the sends that completed
abbrev pub done_in : List Send → List Tree
done_in [] = []
done_in (completed t ∷ sends) = t ∷ done_in sends
done_in (refused ∷ sends) = done_in sends
done_in (broken t k ∷ sends) = done_in sends

-- those of a run of senders
abbrev pub done : List (List Send) → List Tree
done [] = []
done (session ∷ run) = done_in session ++ done run

-- the trees of the sends that completed or were broken off
abbrev pub tried_in : List Send → List Tree
tried_in [] = []
tried_in (completed t ∷ sends) = t ∷ tried_in sends
tried_in (refused ∷ sends) = tried_in sends
tried_in (broken t k ∷ sends) = t ∷ tried_in sends

-- those of a run of senders
abbrev pub tried : List (List Send) → List Tree
tried [] = []
tried (session ∷ run) = tried_in session ++ tried run

-- some of a list are some of a longer one
pub among_behind : (xs bs ys : List Tree) → Among xs ys → Among xs (bs ++ ys)
among_behind xs [] ys h = h
among_behind [] (b ∷ bs) ys h = tt
among_behind (x ∷ xs) (b ∷ bs) ys h = inr (among_behind (x ∷ xs) bs ys h)

pub among_joined : (xs ys us vs : List Tree) → Among xs ys → Among us vs
    → Among (xs ++ us) (ys ++ vs)
among_joined [] ys us vs h k = among_behind us ys vs k
among_joined (x ∷ xs) [] us vs h k = absurd h
among_joined (x ∷ xs) (y ∷ ys) us vs (inl h) k = inl (h.0, among_joined xs ys us vs h.1 k)
among_joined (x ∷ xs) (y ∷ ys) us vs (inr h) k = inr (among_joined (x ∷ xs) ys us vs h k)

-- these are heard where those completed and these were tried
pub record LiesBetween (run : List (List Send)) (heard : List Tree) : Type 0 where
  -- every completed send is among those received, in order
  pub none_lost : Among (done run) heard
  -- and what was received is among those tried
  pub none_invented : Among heard (tried run)

-- What is heard of a run's line has the value of each completed send, in order, and none that wasn't sent.
abbrev pub IsHeardBetween : (Tree → Type 0) → (List ℕ → Tree → Type 0) → ℕ → ℕ → Type 0
IsHeardBetween takes holds limit s =
    (run : List (List Send)) (answers : List Verdict) → IsRun takes limit s run
    → Answers holds limit s (line s run) answers → LiesBetween run (values_of answers)

-- the same send, broken off after so many bytes
abbrev pub broken_at : ℕ → Send → Send
broken_at k (completed t) = broken t k
broken_at k refused = refused
broken_at k (broken t j) = broken t k

-- what a session becomes where so many bytes of its line are left
abbrev pub left_of : ℕ → Bool → ℕ → List Send → List Send
left_of s clean k [] = []
left_of s clean k (x ∷ sends) =
    if nat_lt k (length (written s clean x)) then broken_at k x ∷ []
    else x ∷ left_of s (clean_after clean x) (k - length (written s clean x)) sends

-- what a run becomes where so many bytes of its line are left
abbrev pub left : ℕ → ℕ → List (List Send) → List (List Send)
left s k [] = []
left s k (session ∷ run) =
    left_of s false k session ∷ left s (k - length (session_line s false session)) run

-- these many bytes of a run's line are the line of what is left of the run, which tries nothing else
pub record IsLine (takes : Tree → Type 0) (limit s k : ℕ) (run : List (List Send)) : Type 0 where
  -- the bytes left are the line of a run
  pub bytes : take k (line s run) ≡ line s (left s k run)
  -- which is one within the limit
  pub is_run : IsRun takes limit s (left s k run)
  -- and tries nothing else
  pub tried_before : Among (tried (left s k run)) (tried run)

-- A front of a run's line is the line of a run.
abbrev pub IsLeft : (Tree → Type 0) → ℕ → ℕ → Type 0
IsLeft takes limit s =
    (run : List (List Send)) (k : ℕ) → IsRun takes limit s run → IsLine takes limit s k run

-- one run and then another one
pub record AreTwoRuns (takes : Tree → Type 0) (limit s : ℕ)
    (run later : List (List Send)) : Type 0 where
  -- together they are a run
  pub is_run : IsRun takes limit s (run ++ later)
  -- and its line is their lines
  pub bytes : line s (run ++ later) ≡ line s run ++ line s later

-- Runs one after another are a run, and their lines its line.
abbrev pub RunsGoOn : (Tree → Type 0) → ℕ → ℕ → Type 0
RunsGoOn takes limit s = (run later : List (List Send)) → IsRun takes limit s run
    → IsRun takes limit s later → AreTwoRuns takes limit s run later

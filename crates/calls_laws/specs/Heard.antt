-- What is received by a receiver that was given a prefix of a line.
use Rattle.std.specs.Prelude.{◌≡◌, ◌⊎◌, ℕ, List, ◌++◌, Option}
use Rattle.postcard_tree.specs.Tree.{Tree}
use Rattle.link.specs.Run.{Send, IsRun, line}
use Rattle.link.specs.Listening.{IsReceived, HasGiven, Loss, answers_before, bytes_through}
use Rattle.link_laws.specs.Values.{runs_of, AreSends, values_sent}
use Rattle.calls.specs.Calls.{In}
use Rattle.calls.specs.Serving.{requests_of}
use Rattle.link.specs.declared.receiver.Answer.{Answer}
use Rattle.line_io.specs.declared.transfers.End.{End}

-- What was received of bytes by a listener that continued after values that couldn't be allocated, perhaps none: the results of what stands before each of
-- them, and those given of what stands after the last.
pub record HeardOn {V : Type 0} (holds : List ℕ → Tree → Type 0) (reads : Tree → V → Type 0) (limit s : ℕ) (answers : List (Answer V)) (bytes : List ℕ) : Type 0 where
  -- the values that couldn't be allocated, each with the results before it
  pub losses : List (Loss holds reads limit s)
  -- the results after the last of these
  pub later : List (Answer V)
  -- the bytes after the last of these
  pub rest : List ℕ
  -- the results are those before the losses, and the later ones
  pub said : answers ≡ answers_before losses ++ later
  -- the bytes are those through the losses, and the rest
  pub parts : bytes ≡ bytes_through losses ++ rest
  -- the later results are those of the rest
  pub given : HasGiven holds reads limit s later rest

-- What was received of bytes: by a reception that ended in any way, or by a listener that continued.
abbrev pub WasHeard : {V : Type 0} → (List ℕ → Tree → Type 0) → (Tree → V → Type 0) → ℕ → ℕ → List (Answer V) → List ℕ → Type 0
WasHeard holds reads limit s answers bytes = ((end : End) × IsReceived holds reads limit s end answers bytes) ⊎ HeardOn holds reads limit s answers bytes

-- Of the line of a run of values a receiver was given a front, perhaps all of it, and its reading ended in any way, or went on after values
-- that couldn't be allocated: each value that it received is alike one that was sent.
abbrev pub HearsSent : {V : Type 0} → (Tree → Type 0) → (List ℕ → Tree → Type 0) → (Tree → V → Type 0) → (V → V → Type 0) → (V → Option Tree) → (V → Type 0) → Type 0
HearsSent {V} takes holds reads alike writes valid =
    (limit s : ℕ) (run : List (List (V × Send))) (answers : List (Answer V)) (front rest : List ℕ)
    → IsRun takes limit s (runs_of run) → AreSends writes valid run → line s (runs_of run) ≡ front ++ rest → WasHeard holds reads limit s answers front
    → (w : V) → In w (requests_of answers) → (v : V) × In v (values_sent run) × alike v w

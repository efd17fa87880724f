-- Answers that carry values, and those that carry the trees they were read from.
use Rattle.std.specs.Prelude.{◌≡◌, ◌↔◌, ℕ, List, Option, Some}
use Rattle.cobs.specs.Frames.{shortest_frame}
use Rattle.postcard_tree.specs.Tree.{Tree}
use Rattle.std.specs.List.{AllZip}
use Rattle.postcard_tree.specs.Spelling.{short}
use Rattle.link.specs.Pushes.{Matches}
use Rattle.link.specs.Listening.{HasAnswered}
use Rattle.link.specs.Run.{Send, completed, refused, broken, IsRun, line, told}
use Rattle.link.specs.declared.receiver.Answer.{Answer}

-- The answers of a receiver to a run's line are, one by one, what is to be told of the run.
abbrev pub IsToldAs : {V : Type 0} → (Tree → Type 0) → (List ℕ → Tree → Type 0)
    → (Tree → V → Type 0) → List (Answer V) → ℕ → ℕ → Type 0
IsToldAs takes holds reads answers limit s = (run : List (List Send)) → IsRun takes limit s run
    → HasAnswered holds reads limit s answers (line s run)
    ↔ AllZip (Matches reads) answers (told s run)

-- Strictly a stretch holds what a value of an exact type is read from where it is the frame that sending makes of the value.
abbrev pub IsFrameOf : Option Tree → List ℕ → Type 0
IsFrameOf writes stretch = (t : Tree) × (writes ≡ Some t) × (stretch ≡ shortest_frame (short t))

-- a send of this value, where it wasn't refused
abbrev pub Sends : {V : Type 0} → (V → Option Tree) → (V → Type 0) → V → Send → Type 0
Sends writes valid v (completed t) = valid v × (writes v ≡ Some t)
Sends writes valid v refused = Unit {0}
Sends writes valid v (broken t k) = valid v × (writes v ≡ Some t)

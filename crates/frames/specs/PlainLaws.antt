-- What is received of plain sends that were interrupted.
use Rattle.std.specs.Prelude.{◌≡◌, ◌≢◌, ◌≤◌, ◌⊎◌, ◌↔◌, ℕ, List, [], ◌∷◌, ◌++◌, length}
use Rattle.cobs.specs.Frames.{shortest_frame}
use Rattle.cobs.specs.Sentinel.{masked}
use Rattle.link.specs.Stream.{Verdict, value, damaged, too_long, IsAnswer, Answers}
use Rattle.frames.specs.Events.{HoldsPlain, plain_tree}

-- The answer is damaged, or a message that is a proper prefix of this one.
abbrev pub IsDamagedOrFront : List ℕ → Verdict → Type 0
IsDamagedOrFront message answer = (answer ≡ damaged) ⊎ ((begun later : List ℕ)
    × (message ≡ begun ++ later) × (later ≢ []) × (answer ≡ value (plain_tree begun)))

-- If a proper prefix of a message's frame is a stretch within the limit, its answer is damaged, or a message that is a proper prefix of
-- the one sent.
abbrev pub IsHeardOfFront : Type 0
IsHeardOfFront = (message front rest : List ℕ) (limit : ℕ) (answer : Verdict)
    → shortest_frame message ≡ front ++ rest → rest ≢ [] → length front ≤ limit
    → IsAnswer HoldsPlain limit front answer → IsDamagedOrFront message answer

-- A send was interrupted inside its frame, and the next one begins with its sentinel. If no byte of the frame was sent, it has no
-- answer; otherwise one: as above, or too long. The answers to what follows are those to it alone.
abbrev pub IsHeardOfBroken : Type 0
IsHeardOfBroken = (s limit : ℕ) (message front rest later : List ℕ) (answers : List Verdict)
    → shortest_frame message ≡ front ++ rest → rest ≢ []
    → Answers HoldsPlain limit s (masked s front ++ (s ∷ later)) answers
    → ((front ≡ []) × Answers HoldsPlain limit s later answers)
    ⊎ ((answer : Verdict) × (others : List Verdict) × (answers ≡ answer ∷ others)
    × Answers HoldsPlain limit s later others
    × ((answer ≡ too_long) ⊎ IsDamagedOrFront message answer))

-- The answer to the whole frame, within the limit, is the message.
abbrev pub IsHeardWhole : Type 0
IsHeardWhole = (message : List ℕ) (limit : ℕ) (answer : Verdict)
    → length (shortest_frame message) ≤ limit
    → IsAnswer HoldsPlain limit (shortest_frame message) answer
    ↔ (answer ≡ value (plain_tree message))

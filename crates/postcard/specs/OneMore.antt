-- How long a frame an accumulator takes: beside the frame it has to hold the zero after it.
use Rattle.std.specs.Prelude.{◌≡◌, ℕ, ◌+◌, ◌<◌, ◌≤◌, List, [], ◌∷◌, ◌++◌, length, Bool, true}
use Rattle.cobs.specs.Frames.{Frame, shortest_frame}
use Rattle.cobs.specs.Sentinel.{masked, frame_for}
use Rattle.postcard_tree.specs.Tree.{Tree}
use Rattle.postcard_tree.specs.Spelling.{short}
use Rattle.postcard.specs.Feeds.{FedFor, IsAnswered, IsOverFull}
use Rattle.postcard.specs.declared.accumulator.FeedResult.{FeedResult}
use Rattle.postcard.specs.declared.accumulator.FeedResult.TheVariants.{Consumed, OverFull, DeserError, Success}

-- If more than the frame fits, an accumulator that holds nothing returns its result at its zero, or sentinel, whatever
-- follows that.
abbrev pub AnswersWithOneMore : {A : Type 0} → (Tree → Type 0) → (Tree → A → Type 0) → Bool → Type 0
AnswersWithOneMore {A} takes reads grows = (room s : ℕ) (frame message rest : List ℕ)
    (result : FeedResult A) (kept : List ℕ) → Frame frame message → length frame < room
    → FedFor s takes reads grows room [] (masked s frame ++ s ∷ rest) result kept
    → IsAnswered takes reads grows result frame rest × (kept ≡ [])

-- If only the frame fits, or less, the frame is left out, and what follows its zero goes on.
abbrev pub LeavesOutWithoutOneMore : {A : Type 0} → (Tree → Type 0) → (Tree → A → Type 0) → Bool → Type 0
LeavesOutWithoutOneMore {A} takes reads grows = (room s : ℕ) (frame message rest : List ℕ)
    (result : FeedResult A) (kept : List ℕ) → Frame frame message → room ≤ length frame
    → FedFor s takes reads grows room [] (masked s frame ++ s ∷ rest) result kept
    → IsOverFull result rest × (kept ≡ [])

-- what t is read as is returned, or for a type that grows out of memory, and the rest
abbrev pub IsHeardAs : {A : Type 0} → (Tree → A → Type 0) → Bool → Tree → FeedResult A → List ℕ → Type 0
IsHeardAs reads grows t (Success v left) rest = (left.now ≡ rest) × reads t v
IsHeardAs reads grows t (DeserError left) rest = (left.now ≡ rest) × (grows ≡ true)
IsHeardAs reads grows t _ rest = ⊥

-- So what is sent as a frame within a limit is received by an accumulator of one byte more.
abbrev pub HearsWhatIsSent : {A : Type 0} → (Tree → Type 0) → (Tree → A → Type 0) → Bool → Type 0
HearsWhatIsSent {A} takes reads grows = (limit s : ℕ) (t : Tree) (rest : List ℕ)
    (result : FeedResult A) (kept : List ℕ) → takes t → length (frame_for s (short t)) ≤ limit
    → FedFor s takes reads grows (limit + 1) [] (frame_for s (short t) ++ s ∷ rest) result kept
    → IsHeardAs reads grows t result rest × (kept ≡ [])

-- What a counted message is as a tree.
use Rattle.std.specs.Prelude.{◌≡◌, ◌<◌, ◌^◌, ◌↔◌, ℕ, List, length}
use Rattle.postcard_tree.specs.Tree.{text_of}
use Rattle.postcard_tree.specs.Reading.{ReadsBytes}
use Rattle.frames.specs.Events.{TakesCounted}

-- The tree of each message shorter than 2^64 bytes is taken, and is read as that message only.
abbrev pub IsCountedOnce : Type 0
IsCountedOnce = (message : List ℕ) → length message < 2 ^ 64
    → TakesCounted (text_of message)
    × ((v : List ℕ) → ReadsBytes (text_of message) v ↔ (v ≡ message))

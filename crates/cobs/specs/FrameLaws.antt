-- The laws of frames.
use Rattle.std.specs.Prelude.{◌≡◌, ◌≢◌, ◌↔◌, ◌⊎◌, ℕ, ◌+◌, ◌-◌, ◌<◌, ◌≤◌, List, [], ◌∷◌, ◌++◌, length, bit_xor}
use Rattle.std.specs.List.{AllByRecursion}
use Rattle.cobs.specs.Frames.{NoZero, Frame, Shortest, Longest, part, missing, shortest_frame, longest_frame, most_length}
use Rattle.cobs.specs.Cases.{OneBlock, MoreBlocks, trailing, FillsBlocks}
use Rattle.cobs.specs.Sentinel.{masked}
use Rattle.cobs.specs.Thinner.{IsThinner}

-- A frame is one block, or a block and then a frame.
abbrev pub GoesByBlocks : Type 0
GoesByBlocks = (frame message : List ℕ) → (Frame frame message)
    ↔ (OneBlock frame message ⊎ MoreBlocks frame message)

-- A message has one shortest frame.
abbrev pub HasOneShortest : Type 0
HasOneShortest = (message : List ℕ) → Shortest (shortest_frame message) message
    × ((frame : List ℕ) → Shortest frame message → frame ≡ shortest_frame message)

-- A message has one longest frame.
abbrev pub HasOneLongest : Type 0
HasOneLongest = (message : List ℕ) → Longest (longest_frame message) message
    × ((frame : List ℕ) → Longest frame message → frame ≡ longest_frame message)

-- A message has a frame beside its shortest one exactly if it ends in a full run: the same and then a block 01.
abbrev pub HasOneOther : Type 0
HasOneOther = (frame message : List ℕ) → (Frame frame message × (frame ≢ shortest_frame message))
    ↔ (FillsBlocks (trailing message) × (frame ≡ shortest_frame message ++ 1 ∷ []))

-- The longest frame is that other one, or else the shortest one.
abbrev pub LongestIsOther : Type 0
LongestIsOther = (message : List ℕ)
    → (FillsBlocks (trailing message) × (longest_frame message ≡ shortest_frame message ++ 1 ∷ []))
    ⊎ ((¬ FillsBlocks (trailing message)) × (longest_frame message ≡ shortest_frame message))

-- A frame has one message, which its bytes determine.
abbrev pub HasOneMessage : Type 0
HasOneMessage = (frame message : List ℕ) → Frame frame message → message ≡ part frame

-- A frame ends with its last block.
abbrev pub EndsWithItsBlock : Type 0
EndsWithItsBlock = (frame message : List ℕ) → Frame frame message → missing frame ≡ 0

-- Nonzero bytes that end with a block are a frame.
abbrev pub IsFrameAtBlockEnd : Type 0
IsFrameAtBlockEnd = (bytes : List ℕ) → AllByRecursion (λ b. (0 < b) × (b < 256)) bytes → bytes ≢ []
    → missing bytes ≡ 0 → Frame bytes (part bytes)

-- What bytes determine of a message is shorter than they are.
abbrev pub DecidesLess : Type 0
DecidesLess = (bytes : List ℕ) → length (part bytes) ≤ length bytes - 1

-- No byte of a frame is zero.
abbrev pub HoldsNoZero : Type 0
HoldsNoZero = (frame message : List ℕ) → Frame frame message → NoZero frame

-- No byte of a frame that was XORed with a sentinel is that sentinel.
abbrev pub HoldsNoSentinel : Type 0
HoldsNoSentinel = (sentinel : ℕ) (frame message : List ℕ) → Frame frame message
    → AllByRecursion (λ b. b ≢ sentinel) (masked sentinel frame)

-- For the sentinel zero nothing is masked.
abbrev pub IsUnmaskedByZero : Type 0
IsUnmaskedByZero = (bytes : List ℕ) → masked 0 bytes ≡ bytes

-- Nor is any one byte.
abbrev pub KeepsByteByZero : Type 0
KeepsByteByZero = (byte : ℕ) → bit_xor 0 byte ≡ byte

-- What is masked twice is as it was.
abbrev pub IsUnmaskedByTwo : Type 0
IsUnmaskedByTwo = (sentinel : ℕ) (bytes : List ℕ) → masked sentinel (masked sentinel bytes) ≡ bytes

-- The shortest frame is longer than its message, and no longer than `most_length` says.
abbrev pub IsWithinLengths : Type 0
IsWithinLengths = (message : List ℕ) → (length message + 1 ≤ length (shortest_frame message))
    × (length (shortest_frame message) ≤ most_length (length message))

-- If the message has no zero, it is as long as that.
abbrev pub ReachesMostLength : Type 0
ReachesMostLength = (message : List ℕ) → NoZero message
    → length (shortest_frame message) ≡ most_length (length message)

-- Each further byte of a message makes its shortest frame longer.
abbrev pub GrowsWithItsMessage : Type 0
GrowsWithItsMessage = (message more : List ℕ)
    → length (shortest_frame message) + length more ≤ length (shortest_frame (message ++ more))

-- A nonempty prefix of a frame is itself a frame exactly if it ends with a block.
abbrev pub IsFrameAtEachBlockEnd : Type 0
IsFrameAtEachBlockEnd =
    (frame message front rest : List ℕ) → Frame frame message → frame ≡ front ++ rest → front ≢ []
    → ((begun : List ℕ) × Frame front begun) ↔ (missing front ≡ 0)

-- If a proper prefix of a shortest frame is itself a frame, its message is a proper prefix of the message.
abbrev pub FrontsBeginProperly : Type 0
FrontsBeginProperly = (frame message front rest begun : List ℕ) → Shortest frame message
    → frame ≡ front ++ rest → rest ≢ [] → Frame front begun
    → (later : List ℕ) × (message ≡ begun ++ later) × (later ≢ [])

-- If a message's zeros and other bytes are, in order, among those of another, its shortest frame isn't longer.
abbrev pub GrowsWithItsBytes : Type 0
GrowsWithItsBytes =
    (a b : List ℕ) → IsThinner a b → length (shortest_frame a) ≤ length (shortest_frame b)

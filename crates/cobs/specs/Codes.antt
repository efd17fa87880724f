-- How the bytes of a chunk are coded in the open block of a frame.
use Rattle.std.specs.Prelude.{◌≡◌, ℕ, suc, ◌+◌, ◌<◌, ◌≤◌, List, [], ◌∷◌, ◌++◌, length, take, drop, slice_index}
use Rattle.std.specs.Int.{bit_at}
use Rattle.cobs.specs.Frames.{shortest_frame, shortest_from}
use Rattle.cobs.specs.InPlace.{written_over}
use Rattle.cobs.specs.Sentinel.{masked}
use Rattle.cobs.specs.declared.codes.Place.{Place}

-- The buffer has closed blocks, a position for the code of the open run, that run, and then bytes that are still to be coded:
-- with these the message is whole, and whatever follows it goes on after them.
pub record Coding (bytes : List ℕ) (code_at at : ℕ) (message rest : List ℕ) : Type 0 where
  pub closed : List ℕ
  pub code : ℕ
  pub run : List ℕ
  pub tail : List ℕ
  pub spells : bytes ≡ closed ++ (code ∷ (run ++ (rest ++ tail)))
  pub begins : code_at ≡ length closed
  pub ends : at ≡ length closed + suc (length run)
  pub short : length run + length rest ≤ 254
  pub goes_on : (more : List ℕ)
      → shortest_frame (message ++ more) ≡ closed ++ shortest_from run (rest ++ more)

-- The same where the bytes that are still to be coded aren't copied yet: they fit after the open run.
pub record Putting (bytes : List ℕ) (code_at at : ℕ) (message rest : List ℕ) : Type 0 where
  pub closed : List ℕ
  pub code : ℕ
  pub run : List ℕ
  pub tail : List ℕ
  pub spells : bytes ≡ closed ++ (code ∷ (run ++ tail))
  pub begins : code_at ≡ length closed
  pub ends : at ≡ length closed + suc (length run)
  pub short : length run + length rest ≤ 254
  pub room : length rest ≤ length tail
  pub goes_on : (more : List ℕ)
      → shortest_frame (message ++ more) ≡ closed ++ shortest_from run (rest ++ more)

-- The bytes, at least one, are from a position on within the buffer and the open block.
pub record InBlock (buffer : List ℕ) (code_at from : ℕ) (bytes : List ℕ) : Type 0 where
  pub begins : code_at < from
  pub some : 0 < length bytes
  pub within : from + length bytes ≤ length buffer
  pub short : from + length bytes ≤ code_at + 255

-- So many bytes, at least one and at most 64, are from a position on within the buffer and the open block.
pub record FewInBlock (buffer : List ℕ) (code_at from n : ℕ) : Type 0 where
  pub begins : code_at < from
  pub some : 0 < n
  pub few : n ≤ 64
  pub within : from + n ≤ length buffer
  pub short : from + n ≤ code_at + 255

-- Bytes are coded, and the code that is still to come goes to this position.
pub record Coded (before : List ℕ) (code_at from : ℕ)
    (bytes buffer : List ℕ) (last : ℕ) : Type 0 where
  pub begins : last < from + length bytes
  pub later : code_at ≤ last
  pub coding : (message more : List ℕ) → Coding before code_at from message (bytes ++ more)
      → Coding buffer last (from + length bytes) message more

-- The buffer has closed blocks, a position for the code of the open run, that run, and then anything: a byte after the message
-- goes on from the run.
pub record Open (bytes : List ℕ) (code_at at : ℕ) (message : List ℕ) : Type 0 where
  pub closed : List ℕ
  pub code : ℕ
  pub run : List ℕ
  pub tail : List ℕ
  pub spells : bytes ≡ closed ++ (code ∷ (run ++ tail))
  pub begins : code_at ≡ length closed
  pub ends : at ≡ length closed + suc (length run)
  pub short : length run ≤ 254
  pub goes_on : (byte : ℕ) (more : List ℕ)
      → shortest_frame (message ++ byte ∷ more) ≡ closed ++ shortest_from run (byte ∷ more)

-- Bytes were copied into the open block and coded, and the code that is still to come goes to this position.
pub record Stepped (before : List ℕ) (code_at from : ℕ)
    (bytes buffer : List ℕ) (last : ℕ) : Type 0 where
  pub begins : last < from + length bytes
  pub later : code_at ≤ last
  pub coding : (message : List ℕ) → Open before code_at from message
      → Coding buffer last (from + length bytes) (message ++ bytes) []

-- So many bytes that are in the open block are coded there, each byte of the buffer XORed with the sentinel.
abbrev pub CodedThere : ℕ → List ℕ → Place → ℕ → List ℕ → ℕ → Type 0
CodedThere sentinel before at n buffer last =
    Coded (masked sentinel before) at.code_at at.len (masked sentinel (take n (drop at.len before))) (masked sentinel buffer) last

-- Bytes were copied into the open block and coded there, in the same way.
abbrev pub PutThere : ℕ → List ℕ → Place → List ℕ → List ℕ → ℕ → Type 0
PutThere sentinel before at bytes buffer last =
    Stepped (masked sentinel before) at.code_at at.len bytes (masked sentinel buffer) last

-- the bits that are set are the positions, from one on, of the bytes that are zero
pub record Marks (bits from : ℕ) (bytes : List ℕ) : Type 0 where
  pub low : (k : ℕ) → bit_at bits k ≡ 1 → from ≤ k
  pub high : (k : ℕ) → bit_at bits k ≡ 1 → k < length bytes
  pub zeros : (k : ℕ) → bit_at bits k ≡ 1 → slice_index bytes k ≡ 0
  pub all : (k : ℕ) → from ≤ k → k < length bytes → slice_index bytes k ≡ 0 → bit_at bits k ≡ 1

-- So many bytes fill one vector of this width, and at most two.
pub record Fills (width n : ℕ) : Type 0 where
  pub wide : width ≤ 32
  pub some : width ≤ n
  pub few : n ≤ width + width

-- Bytes are written over a buffer, from a position on, each XORed with the sentinel.
abbrev pub Copied : ℕ → ℕ → List ℕ → List ℕ → List ℕ → Type 0
Copied place sentinel bytes before buffer = buffer ≡ written_over place (masked sentinel bytes) before

-- Each of the first n bytes is more than zero.
abbrev pub Positive : ℕ → List ℕ → Type 0
Positive n bytes = (k : ℕ) → k < n → 0 < slice_index bytes k

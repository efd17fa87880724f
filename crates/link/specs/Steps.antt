-- What comes of bytes behind what is begun of a stretch, by the bytes alone: no type takes part.
use Rattle.std.specs.Prelude.{◌≡◌, ℕ, ◌+◌, ◌==◌, nat_lt, bit_xor, if◌then◌else◌, List, [], ◌∷◌, ◌++◌, length}
use Rattle.link.specs.Stream.{Begun, kept, over}

-- what a byte brings about: nothing; the end of a stretch that isn't empty, within the limit; or the byte past the limit
pub data Event : Type 0 where
  quiet : Event
  ended : List ℕ → Event
  passed : Event

-- the end of these bytes of a stretch
abbrev pub end_of : List ℕ → Event
end_of [] = quiet
end_of (b ∷ p) = ended (b ∷ p)

-- one byte, as it is on the line
abbrev pub event_at : ℕ → ℕ → Begun → ℕ → Event
event_at limit s (kept p) byte =
    if byte == s then end_of p else (if nat_lt (length p) limit then quiet else passed)
event_at limit s over byte = quiet

-- what is begun behind that byte
abbrev pub begun_at : ℕ → ℕ → Begun → ℕ → Begun
begun_at limit s (kept p) byte = if byte == s then kept []
    else (if nat_lt (length p) limit then kept (p ++ bit_xor s byte ∷ []) else over)
begun_at limit s over byte = if byte == s then kept [] else over

-- what comes of a piece: how many bytes are used, to the first event or all, that event, and what is begun then
pub record Course : Type 0 where
  -- how many bytes were used
  pub used : ℕ
  -- what they brought
  pub event : Event
  -- what is begun then
  pub begun : Begun

-- the course behind one byte, by its event
abbrev pub course_on : Event → Begun → Course → Course
course_on quiet b later = record { used = later.used + 1; event = later.event; begun = later.begun }
course_on e b later = record { used = 1; event = e; begun = b }

-- the course of a piece, byte by byte
abbrev pub course_of : ℕ → ℕ → Begun → List ℕ → Course
course_of limit s b [] = record { used = 0; event = quiet; begun = b }
course_of limit s b (byte ∷ bytes) = course_on (event_at limit s b byte) (begun_at limit s b byte)
    (course_of limit s (begun_at limit s b byte) bytes)

-- the same course, of a piece with so many bytes in front
abbrev pub ahead : ℕ → Course → Course
ahead n k = record { used = n + k.used; event = k.event; begun = k.begun }

-- A run brought nothing about, and this is begun behind it.
pub record RunsOn (limit s : ℕ) (b : Begun) (run : List ℕ) (At : Begun → Type 0) : Type 0 where
  pub now : Begun
  pub at : At now
  pub rest : (later : List ℕ)
      → course_of limit s b (run ++ later) ≡ ahead (length run) (course_of limit s now later)

-- So many bytes of a run went past the limit.
pub record RunsPast (limit s : ℕ) (b : Begun) (run : List ℕ)
    (used : ℕ) (At : Begun → Type 0) : Type 0 where
  pub at : At over
  pub rest : (later : List ℕ)
      → course_of limit s b (run ++ later) ≡ record { used = used; event = passed; begun = over }

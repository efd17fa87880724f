-- Logs whose records carry numbers: each opening goes on after the records that are there.
use Rattle.std.specs.Prelude.{◌≡◌, ℕ, zero, suc, ◌+◌, nat_lt, if◌then◌else◌, Bool, true, false, List, [], ◌∷◌, ◌++◌, length, take, replicate}
use Rattle.cobs.specs.Frames.{shortest_frame}
use Rattle.postcard_tree.specs.Tree.{Tree}
use Rattle.postcard_tree.specs.Spelling.{short}
use Rattle.link.specs.Stream.{Verdict, Answers}
use Rattle.link.specs.Run.{Send, completed, refused, broken, frame_bytes, session_line, IsFramed, IsRun, line}
use Rattle.link.specs.Roads.{values_of}
use Rattle.link_laws.specs.Crashes.{left}

-- what is read of an append that was interrupted when so many bytes of its frame had gone out, once a sentinel is after it
abbrev pub read_broken : Tree → ℕ → List Tree
read_broken t zero = []
read_broken t (suc k) = if nat_lt (suc k) (length (shortest_frame (short t))) then [] else t ∷ []

-- what is read of a session, and of a history
abbrev pub read_in : Bool → List Send → List Tree
read_in clean [] = []
read_in clean (completed t ∷ sends) = t ∷ read_in true sends
read_in clean (refused ∷ sends) = read_in clean sends
read_in clean (broken t k ∷ sends) = read_broken t (frame_bytes clean k) ++ read_in false sends

-- the records that are read of a run of sessions
abbrev pub read_of : List (List Send) → List Tree
read_of [] = []
read_of (session ∷ run) = read_in false session ++ read_of run

-- the records carry the numbers from n on, one after another
abbrev pub Counted : (ℕ → Tree → Tree) → ℕ → List Tree → Type 0
Counted numbered n [] = Unit {0}
Counted numbered n (r ∷ rs) = ((v : Tree) × (r ≡ numbered n v)) × Counted numbered (n + 1) rs

-- What happens to a log: it is opened and values are appended; the same, and then an append is interrupted when so many of its
-- bytes had gone out; a crash leaves so many bytes, and so many sentinels after them (at zero, what a file system shows of bytes
-- that were never written).
pub data LogEvent : Type 0 where
  appended : List Tree → LogEvent
  broke : List Tree → Tree → ℕ → LogEvent
  crashed : ℕ → ℕ → LogEvent

-- appends of these values, with the numbers from n on
abbrev pub appends : (ℕ → Tree → Tree) → ℕ → List Tree → List Send
appends numbered n [] = []
appends numbered n (v ∷ vs) = completed (numbered n v) ∷ appends numbered (n + 1) vs

-- Opening puts a sentinel: as a sender that was interrupted after its first byte.
abbrev pub opening : Tree → List Send
opening any = broken any 1 ∷ []

-- n openings, one after another, as n zeros are
abbrev pub openings : Tree → ℕ → List (List Send)
openings any zero = []
openings any (suc n) = opening any ∷ openings any n

-- After that sentinel the log is clean: what was put is the first byte of the first send.
abbrev pub opened : Tree → List Send → List Send
opened any [] = opening any
opened any (completed t ∷ sends) = completed t ∷ sends
opened any (refused ∷ sends) = opened any sends
opened any (broken t k ∷ sends) = broken t (suc k) ∷ sends

-- the sends of an event whose last append was interrupted after k bytes
abbrev pub sends_broken : (ℕ → Tree → Tree) → ℕ → List Tree → Tree → ℕ → List Send
sends_broken numbered n vs v k = appends numbered n vs ++ (broken (numbered (n + length vs) v) k ∷ [])

-- the run after one more event
abbrev pub after : ℕ → (ℕ → Tree → Tree) → Tree → List (List Send) → LogEvent → List (List Send)
after s numbered any run (appended vs) = run ++ (opened any (appends numbered (length (read_of run)) vs) ∷ [])
after s numbered any run (broke vs v k) = run ++ (opened any (sends_broken numbered (length (read_of run)) vs v k) ∷ [])
after s numbered any run (crashed k n) = left s k run ++ openings any n

-- the bytes of a log after an event, by those before it
abbrev pub bytes_after : ℕ → (ℕ → Tree → Tree) → List (List Send) → LogEvent → List ℕ
bytes_after s numbered run (appended vs) = line s run ++ (s ∷ session_line s true (appends numbered (length (read_of run)) vs))
bytes_after s numbered run (broke vs v k) = line s run ++ (s ∷ session_line s true (sends_broken numbered (length (read_of run)) vs v k))
bytes_after s numbered run (crashed k n) = take k (line s run) ++ replicate n s

-- That is what the log's bytes are.
abbrev pub HasBytes : (Tree → Type 0) → ℕ → ℕ → Type 0
HasBytes takes limit s = (numbered : ℕ → Tree → Tree) (any : Tree) (run : List (List Send)) (e : LogEvent) → IsRun takes limit s run
    → line s (after s numbered any run e) ≡ bytes_after s numbered run e

-- the run after these events, one after another
abbrev pub history : ℕ → (ℕ → Tree → Tree) → Tree → List (List Send) → List LogEvent → List (List Send)
history s numbered any run [] = run
history s numbered any run (e ∷ events) = history s numbered any (after s numbered any run e) events

-- what is appended has a frame within the limit, and what is interrupted leaves fewer bytes than the whole
abbrev pub IsHistory : (Tree → Type 0) → ℕ → ℕ → (ℕ → Tree → Tree) → Tree → List LogEvent → Type 0
IsHistory takes limit s numbered any events = IsRun takes limit s (history s numbered any [] events)

-- Whatever crashes a log went through: what an opening reads carries the numbers from 0 on, none missing and none twice.
pub record IsCountedAt (s : ℕ) (numbered : ℕ → Tree → Tree) (any : Tree) (events : List LogEvent) (answers : List Verdict) : Type 0 where
  -- the records carry the numbers 0, 1, 2 and on
  pub counted : Counted numbered 0 (values_of answers)
  -- they are those of the history
  pub are : values_of answers ≡ read_of (history s numbered any [] events)

-- So it is for every history, read after one more sentinel.
abbrev pub CountsOn : (Tree → Type 0) → (List ℕ → Tree → Type 0) → ℕ → ℕ → Type 0
CountsOn takes holds limit s = (numbered : ℕ → Tree → Tree) (any : Tree) (events : List LogEvent) (answers : List Verdict) → IsFramed takes limit any
    → IsHistory takes limit s numbered any events → Answers holds limit s (line s (history s numbered any [] events) ++ (s ∷ [])) answers
    → IsCountedAt s numbered any events answers

-- The event and the result of a push, in the definitions of `link`.
use Rattle.std.specs.Prelude.{◌≡◌, ℕ, ◌+◌, ◌≤◌, List, take, drop, Option, Some, None, Result, Ok}
use Rattle.cobs.specs.Frames.{Frame}
use Rattle.postcard.specs.Frames.{Holds}
use Rattle.postcard_tree.specs.Tree.{Tree, group, bytes_of}
use Rattle.postcard_tree.specs.Reading.{TakesByte, TakesSequence, ReadsBytes}
use Rattle.link.specs.Pushes.{Answered, IsStretchOf}
use Rattle.link.specs.Stream.{Begun}
use Rattle.link.specs.Steps.{Event, quiet, ended, passed, Course, course_of}
use Rattle.link.specs.Finds.{Replies, IsSpan, BringsNothing}
use Rattle.link.specs.declared.receiver.Answer.{Answer}
use Rattle.link.specs.declared.receiver.Answer.TheVariants as answer
use Rattle.link.specs.declared.receiver.NoMemory.{NoMemory}
use Rattle.frames.specs.declared.receiving.FrameEvent.{FrameEvent}
use Rattle.frames.specs.declared.receiving.FrameEvent.TheVariants as event
use Rattle.frames.specs.declared.receiving.FramePush.{FramePush}

-- The event found is this event of `link`; the message of a frame is in front of the buffer.
abbrev pub FindsFrame : List ℕ → Event → Option FrameEvent → Type 0
FindsFrame buffer quiet found = found ≡ None
FindsFrame buffer passed found = found ≡ Some event.TooLong
FindsFrame buffer (ended p) (Some (event.Message start size)) = Frame p (take size buffer)
FindsFrame buffer (ended p) (Some event.Damaged) = (m : List ℕ) → Frame p m → ⊥
FindsFrame buffer (ended p) _ = ⊥

-- a push that used so many bytes
abbrev pub found : ℕ → ℕ → Option FrameEvent → FramePush
found used stretch e = record { used = used; stretch = stretch; event = e }

-- A push took the course of its bytes, up to the course's event.
pub record TakesFrame (limit : ℕ) (k : Course) (buffer : List ℕ) (p : FramePush) : Type 0 where
  -- it used as many bytes as the course
  pub used : p.used ≡ k.used
  -- its event is the course's
  pub finds : FindsFrame buffer k.event p.event
  -- it has the length of the event's stretch
  pub span : IsSpan limit k.event p.stretch

-- The course of the bytes ends with an event, which the push found.
pub record BringsFrame (limit s : ℕ) (b : Begun) (bytes buffer : List ℕ) (p : FramePush)
    (At : Begun → Type 0) : Type 0 where
  -- the push took that course
  pub about : TakesFrame limit (course_of limit s b bytes) buffer p
  -- the receiver has begun what the course leaves begun
  pub at : At (course_of limit s b bytes).begun

-- the first if there is no event, else the second
abbrev pub WhereNone : Option FrameEvent → Type 0 → Type 0 → Type 0
WhereNone None P Q = P
WhereNone (Some e) P Q = Q

-- the push of the first bytes: without an event, or with one
abbrev pub BringsBy : ℕ → ℕ → Begun → List ℕ → List ℕ → FramePush → (Begun → Type 0) → Type 0
BringsBy limit s b bytes buffer p At = WhereNone p.event (BringsNothing limit s b bytes p.used At)
    (BringsFrame limit s b bytes buffer p At)

-- a message is in front of the buffer
abbrev pub IsInFront : Option FrameEvent → Type 0
IsInFront (Some (event.Message start size)) = start ≡ 0
IsInFront _ = Unit {0}

-- a message is within so many bytes
abbrev pub IsInRoom : ℕ → Option FrameEvent → Type 0
IsInRoom room (Some (event.Message start size)) = start + size ≤ room
IsInRoom room _ = Unit {0}

-- The tree of a plain message: the group of its bytes, whose only encoding is these bytes.
abbrev pub plain_tree : List ℕ → Tree
plain_tree bytes = group (bytes_of bytes)

-- a stretch holds its plain message
abbrev pub HoldsPlain : List ℕ → Tree → Type 0
HoldsPlain p t = (bytes : List ℕ) × (t ≡ plain_tree bytes) × Frame p bytes

-- the plain message of a tree
abbrev pub ReadsPlain : Tree → List ℕ → Type 0
ReadsPlain t v = t ≡ plain_tree v

-- The trees of counted messages: sequences of bytes, which postcard encodes as their count and themselves.
abbrev pub TakesCounted : Tree → Type 0
TakesCounted = TakesSequence TakesByte

-- a stretch holds a counted message, as it holds any value of postcard's
abbrev pub HoldsCounted : List ℕ → Tree → Type 0
HoldsCounted = Holds TakesCounted

-- the result of a push as a receiver of `link` gives it: the event says where the message is in the buffer
abbrev pub answer_in : List ℕ → Option FrameEvent → Option (Answer (List ℕ))
answer_in buffer None = None
answer_in buffer (Some (event.Message start size)) = Some (answer.Value (take size (drop start buffer)))
answer_in buffer (Some event.Damaged) = Some answer.Damaged
answer_in buffer (Some event.TooLong) = Some answer.TooLong

-- The result of a push of a chunk after a stream, for messages held and read like this, as that of `link`'s pushes: the least prefix of
-- the chunk that adds an answer is used, and that answer is returned, with the length of its stretch.
pub record AnswersAs (holds : List ℕ → Tree → Type 0) (reads : Tree → List ℕ → Type 0)
    (limit s : ℕ) (stream piece buffer : List ℕ) (p : FramePush) : Type 0 where
  -- the bytes used, and the answer, are those of `link`
  pub answers : Answered holds reads limit s stream piece p.used (Ok (answer_in buffer p.event))
  -- the length is that of the answered stretch
  pub stretch : IsStretchOf s stream piece p.used
      (let r : Result (Option (Answer (List ℕ))) NoMemory = Ok (answer_in buffer p.event) in r)
      p.stretch

-- for plain messages
abbrev pub AnswersPlain : ℕ → ℕ → List ℕ → List ℕ → List ℕ → FramePush → Type 0
AnswersPlain = AnswersAs HoldsPlain ReadsPlain

-- for counted messages
abbrev pub AnswersCounted : ℕ → ℕ → List ℕ → List ℕ → List ℕ → FramePush → Type 0
AnswersCounted = AnswersAs HoldsCounted ReadsBytes

-- A push took the course of its chunk, and replied to the course's event.
pub record RepliesAs (holds : List ℕ → Tree → Type 0) (reads : Tree → List ℕ → Type 0)
    (limit : ℕ) (k : Course) (buffer : List ℕ) (p : FramePush) : Type 0 where
  -- it used as many bytes as the course
  pub used : p.used ≡ k.used
  -- its result is a reply to the course's event
  pub reply : Replies holds reads k.event (Ok (answer_in buffer p.event))
  -- it has the length of the event's stretch
  pub span : IsSpan limit k.event p.stretch

-- for counted messages, of a course
abbrev pub RepliesCounted : ℕ → Course → List ℕ → FramePush → Type 0
RepliesCounted = RepliesAs HoldsCounted ReadsBytes

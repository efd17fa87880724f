-- What a receiver finds in a piece, and what it answers to that.
use Rattle.std.specs.Prelude.{◌≡◌, ℕ, ◌≤◌, List, length, take, drop, Option, Some, None, Result, Ok, Err}
use Rattle.std.specs.Borrow.{Bor}
use Rattle.cobs.specs.Frames.{Frame}
use Rattle.postcard_tree.specs.Tree.{Tree}
use Rattle.link.specs.Stream.{Begun}
use Rattle.link.specs.Steps.{Event, quiet, ended, passed, Course, ahead, course_of}
use Rattle.link.specs.declared.receiver.Answer.{Answer}
use Rattle.link.specs.declared.receiver.Answer.TheVariants as answer
use Rattle.link.specs.declared.receiver.NoMemory.{NoMemory}
use Rattle.link.specs.declared.reception.Found.{Found}
use Rattle.link.specs.declared.reception.Found.TheVariants.{Nothing, Damaged, TooLong, Whole}
use Rattle.link.specs.declared.reception.Taken.{Taken}

-- What is found is this event, and a frame carries its message.
abbrev pub Finds : {M : Type 0} → (M → List ℕ) → Event → Found M → Type 0
Finds message quiet found = found ≡ Nothing
Finds message passed found = found ≡ TooLong
Finds message (ended p) (Whole m) = Frame p (message m)
Finds message (ended p) Damaged = (m : List ℕ) → Frame p m → ⊥
Finds message (ended p) _ = ⊥

-- a message that stands in front of a buffer, by its length
abbrev pub front_of : List ℕ → ℕ → List ℕ
front_of buffer size = take size buffer

-- a message that is lent
abbrev pub lent_message : Bor (List ℕ) → List ℕ
lent_message message = message.now

-- the message is within the buffer
abbrev pub IsWithin : ℕ → Found ℕ → Type 0
IsWithin room (Whole size) = size ≤ room
IsWithin room _ = Unit {0}

-- how many bytes of its stretch stand before the last byte of an event
abbrev pub IsSpan : ℕ → Event → ℕ → Type 0
IsSpan limit quiet n = n ≡ 0
IsSpan limit (ended p) n = n ≡ length p
IsSpan limit passed n = n ≡ limit

-- this was taken: the bytes that a course uses, with its event
pub record IsTaken {M : Type 0} (limit : ℕ) (k : Course) (message : M → List ℕ)
    (taken : Taken M) : Type 0 where
  pub used : taken.used ≡ k.used
  pub finds : Finds message k.event taken.found
  pub span : IsSpan limit k.event taken.stretch

-- the first bytes brought nothing about, and this is begun now
pub record BringsNothing (limit s : ℕ) (b : Begun) (bytes : List ℕ)
    (used : ℕ) (At : Begun → Type 0) : Type 0 where
  pub now : Begun
  pub at : At now
  pub rest : course_of limit s b bytes ≡ ahead used (course_of limit s now (drop used bytes))

-- the course ends at the last of the first bytes, with what is found
pub record BringsAbout {M : Type 0} (limit s : ℕ) (b : Begun) (bytes : List ℕ)
    (message : M → List ℕ) (taken : Taken M) (At : Begun → Type 0) : Type 0 where
  pub about : IsTaken limit (course_of limit s b bytes) message taken
  pub at : At (course_of limit s b bytes).begun

-- the one where nothing is found, else the other
abbrev pub WhereNothing : {M : Type 0} → Found M → Type 0 → Type 0 → Type 0
WhereNothing Nothing P Q = P
WhereNothing _ P Q = Q

-- what the first bytes bring about
abbrev pub Brings : {M : Type 0} → ℕ → ℕ → Begun → List ℕ → (M → List ℕ) → Taken M
    → (Begun → Type 0) → Type 0
Brings limit s b bytes message taken At =
    WhereNothing taken.found (BringsNothing limit s b bytes taken.used At)
    (BringsAbout limit s b bytes message taken At)

-- the answer to an ended stretch, without a limit, by which trees it holds
abbrev pub AnswersEnded : {V : Type 0} → (List ℕ → Tree → Type 0) → (Tree → V → Type 0)
    → List ℕ → Result (Answer V) NoMemory → Type 0
AnswersEnded holds reads p (Ok (answer.Value v)) = (t : Tree) × holds p t × reads t v
AnswersEnded holds reads p (Ok answer.Damaged) = (t : Tree) → holds p t → ⊥
AnswersEnded holds reads p (Ok _) = ⊥
AnswersEnded holds reads p (Err e) = (m : List ℕ) × Frame p m

-- the answer to an event
abbrev pub Replies : {V : Type 0} → (List ℕ → Tree → Type 0) → (Tree → V → Type 0) → Event
    → Result (Option (Answer V)) NoMemory → Type 0
Replies holds reads quiet r = r ≡ Ok None
Replies holds reads passed r = r ≡ Ok (Some answer.TooLong)
Replies holds reads (ended p) (Ok None) = ⊥
Replies holds reads (ended p) (Ok (Some a)) = AnswersEnded holds reads p (Ok a)
Replies holds reads (ended p) (Err e) = AnswersEnded holds reads p (Err e)

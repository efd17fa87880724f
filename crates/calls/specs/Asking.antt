-- What a client asks.
use Rattle.std.specs.Prelude.{◌≡◌, ℕ, ◌+◌, ◌<◌, ◌≤◌, List, [], ◌∷◌, ◌++◌, Option, Some, None, IfSome, Result, Ok, Err, option_to_list}
use Rattle.calls.specs.Calls.{no_call, OnePerNumber}
use Rattle.link.specs.declared.sender.Sender.{Sender}
use Rattle.link.specs.declared.sender.SendError.{SendError}
use Rattle.link.specs.declared.sender.SendError.TheVariants.{Refused, Line}
use Rattle.calls.specs.declared.client.Client.{Client}
use Rattle.calls.specs.declared.client.CallError.{CallError}
use Rattle.calls.specs.declared.client.CallError.TheVariants.{Full, Idle, Unsent}

-- where a client stands: its next number, and the call that is pending
pub record Asker (Q : Type 0) : Type 0 where
  -- the number of the next call
  pub next : ℕ
  -- the number and the request of the call that is pending, if one is
  pub pending : Option (ℕ × Q)

-- where this client stands
abbrev pub asker_of : {W Q : Type 0} {N : ℕ} → Client W Q N → Asker Q
asker_of c = record { next = c.next; pending = c.pending }

-- the number of a call, if there is one
abbrev pub number_of : {Q : Type 0} → Option (ℕ × Q) → Option ℕ
number_of None = None
number_of (Some p) = Some p.0

-- what sends the requests
abbrev pub sender_of : {W Q : Type 0} {N : ℕ} → Client W Q N → Sender W N
sender_of c = c.sender

-- a step of a client: a new call, the pending one again, or the end of the pending one
pub data Step (Q : Type 0) : Type 0 where
  calls : Q → Step Q
  repeats : Step Q
  ends : Step Q

-- what a step sends
abbrev pub tried : {Q : Type 0} → Asker Q → Step Q → List (ℕ × Q)
tried a (calls q) = (a.next, q) ∷ []
tried a repeats = option_to_list a.pending
tried a ends = []

-- where it stands then
abbrev pub stepped : {Q : Type 0} → Asker Q → Step Q → Asker Q
stepped a (calls q) = record { next = a.next + 1; pending = Some (a.next, q) }
stepped a repeats = a
stepped a ends = record { next = a.next; pending = None }

-- what steps one after another send
abbrev pub all_tried : {Q : Type 0} → Asker Q → List (Step Q) → List (ℕ × Q)
all_tried a [] = []
all_tried a (x ∷ xs) = tried a x ++ all_tried (stepped a x) xs

-- the pending call's number was given before
abbrev pub IsNumbered : {Q : Type 0} → Asker Q → Type 0
IsNumbered a = IfSome a.pending (λ p. p.0 < a.next)

-- Whatever a client does, it sends one request by a number.
abbrev pub AsksOnePerNumber : (Q : Type 0) → Type 0
AsksOnePerNumber Q = (a : Asker Q) (steps : List (Step Q)) → IsNumbered a → OnePerNumber (all_tried a steps)

-- what a call did, by its result: a number is left exactly where it isn't full; one that is refused begins no call
abbrev pub IsCalled : {Q : Type 0} → Asker Q → Asker Q → Q → Result (Unit {0}) CallError → (same : Type 0) → (ℕ × Q → Result (Unit {0}) SendError → Type 0) → Type 0
IsCalled old new q (Ok u) same sends = (new ≡ stepped old (calls q)) × sends (old.next, q) (Ok tt) × (old.next < no_call)
IsCalled old new q (Err (Unsent (Refused e))) same sends = (new ≡ old) × sends (old.next, q) (Err (Refused e)) × (old.next < no_call)
IsCalled old new q (Err (Unsent Line)) same sends = (new ≡ stepped old (calls q)) × sends (old.next, q) (Err Line) × (old.next < no_call)
IsCalled old new q (Err Full) same sends = (new ≡ old) × same × (no_call ≤ old.next)
IsCalled old new q (Err Idle) same sends = ⊥

-- what sending it again did
abbrev pub IsRepeated : {Q : Type 0} → Asker Q → Asker Q → Result (Unit {0}) CallError → (same : Type 0) → (ℕ × Q → Result (Unit {0}) SendError → Type 0) → Type 0
IsRepeated {Q} old new (Ok u) same sends = (new ≡ old) × (p : ℕ × Q) × (old.pending ≡ Some p) × sends p (Ok tt)
IsRepeated {Q} old new (Err (Unsent e)) same sends = (new ≡ old) × (p : ℕ × Q) × (old.pending ≡ Some p) × sends p (Err e)
IsRepeated old new (Err Full) same sends = ⊥
IsRepeated old new (Err Idle) same sends = (new ≡ old) × same × (old.pending ≡ None)

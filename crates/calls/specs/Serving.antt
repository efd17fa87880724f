-- What a server does with a request, by its result, and what a service does with the results of a line.
use Rattle.std.specs.Prelude.{◌≡◌, ℕ, ◌<◌, ◌≤◌, Bool, true, false, List, [], ◌∷◌, Option, Some, None, Result, Ok, Err}
use Rattle.std.specs.List.{FoldsTo}
use Rattle.line_io.specs.Device.{LineState}
use Rattle.postcard_tree.specs.Tree.{Tree}
use Rattle.postcard_tree.specs.ReadingLaws.{WireForm}
use Rattle.link.specs.declared.sender.Sender.{Sender}
use Rattle.link.specs.declared.sender.SendError.{SendError}
use Rattle.link.specs.declared.session.Fate.{Fate}
use Rattle.link.specs.declared.session.Fate.TheVariants.{Done, Refused, Broken}
use Rattle.link.specs.declared.receiver.Answer.{Answer}
use Rattle.link.specs.declared.receiver.Answer.TheVariants.{Value}
use Rattle.calls.specs.Calls.{Execution, call, next_of, no_call, ServesAll, Rises}
use Rattle.link.specs.Senders.{SenderPlace, sender_place}
use Rattle.link.specs.Fates.{SendsAll}
use Rattle.calls.specs.declared.server.Server.{Server}
use Rattle.calls.specs.declared.server.LastCall.{LastCall}
use Rattle.calls.specs.declared.service.Service.{Service}
use Rattle.calls.specs.declared.server.Served.{Served}
use Rattle.calls.specs.declared.server.Served.TheVariants.{Executed, Again, Other, Passed, NoCall}
use Rattle.calls.specs.declared.server.Standing.{Standing}
use Rattle.calls.specs.declared.server.Standing.TheVariants.{Greatest, Above, Same, Changed, Below}

-- the last call, as it is kept
abbrev pub kept_as : {Q R : Type 0} → Option (LastCall Q R) → Option (Execution Q R)
kept_as None = None
kept_as (Some l) = Some (call l.reply.0 l.request l.reply.1)

-- what a server keeps
abbrev pub kept_of : {W Q R : Type 0} {N : ℕ} → Server W Q R N → Option (Execution Q R)
kept_of s = kept_as s.last

-- what sends the replies
abbrev pub sender_of : {W Q R : Type 0} {N : ℕ} → Server W Q R N → Sender W N
sender_of s = s.sender

-- Messages were sent one after another, with these fates: they are one session of link's.
abbrev pub SaysAll : {V : Type 0} → ℕ → (V → Option Tree) → (V → Type 0) → SenderPlace → SenderPlace → List V → List Fate → Type 0
SaysAll limit writes valid old new messages fates =
    SendsAll limit old.sentinel writes valid old.clean new.clean old.line new.line messages fates

-- what an execution makes of an application
abbrev pub Runs : {A Q R : Type 0} → (A → Q → R → A → Type 0) → A → Execution Q R → A → Type 0
Runs executes old e new = executes old e.asks e.says new

-- how a request stands to the last one that was executed
abbrev pub IsStanding : {Q R : Type 0} → (Q → Q → Bool) → Option (Execution Q R) → ℕ → Q → Standing → Type 0
IsStanding equal kept number asks Greatest = no_call ≤ number
IsStanding equal kept number asks Above = (number < no_call) × (next_of kept ≤ number)
IsStanding {Q} {R} equal kept number asks Same = (number < no_call) × (e : Execution Q R) × (kept ≡ Some e) × (e.number ≡ number) × (equal e.asks asks ≡ true)
IsStanding {Q} {R} equal kept number asks Changed = (number < no_call) × (e : Execution Q R) × (kept ≡ Some e) × (e.number ≡ number) × (equal e.asks asks ≡ false)
IsStanding {Q} {R} equal kept number asks (Below last) = (number < no_call) × (e : Execution Q R) × (kept ≡ Some e) × (number < e.number) × (last ≡ e.number)

-- What is executed and kept, by the server's answer to a number and a request: an application and the kept call before, and these
-- afterwards.
abbrev pub IsServed : {A Q R : Type 0} → (A → Q → R → A → Type 0) → (Q → Q → Bool)
    → A × Option (Execution Q R) → A × Option (Execution Q R) → ℕ × Q → Served → Type 0
IsServed {R = R} executes equal old new asked (Executed r) = (asked.0 < no_call)
    × (next_of old.1 ≤ asked.0) × (says : R) × executes old.0 asked.1 says new.0
    × (new.1 ≡ Some (call asked.0 asked.1 says))
IsServed executes equal old new asked (Again r) =
    IsStanding equal old.1 asked.0 asked.1 Same × (new.1 ≡ old.1) × (new.0 ≡ old.0)
IsServed executes equal old new asked (Other r) =
    IsStanding equal old.1 asked.0 asked.1 Changed × (new.1 ≡ old.1) × (new.0 ≡ old.0)
IsServed {Q = Q} {R = R} executes equal old new asked (Passed r) = (asked.0 < no_call)
    × (e : Execution Q R) × (old.1 ≡ Some e) × (asked.0 < e.number)
    × (new.1 ≡ old.1) × (new.0 ≡ old.0)
IsServed executes equal old new asked NoCall =
    (no_call ≤ asked.0) × (new.1 ≡ old.1) × (new.0 ≡ old.0)

-- what is said of a request that was passed over, if anything is, goes out by the greatest number; else nothing is sent
abbrev pub IsPassed : {R : Type 0} → Option R → (same : Type 0) → (ℕ × R → Result (Unit {0}) SendError → Type 0) → Option (Result (Unit {0}) SendError) → Type 0
IsPassed None same sends None = same
IsPassed None same sends (Some r) = ⊥
IsPassed (Some said) same sends None = ⊥
IsPassed (Some said) same sends (Some r) = sends (no_call, said) r

-- what is replied: what is kept then, or what is said of a request that was passed over
abbrev pub IsReplied : {Q R : Type 0} → (ℕ → ℕ → Option R) → (same : Type 0) → (ℕ × R → Result (Unit {0}) SendError → Type 0) → Option (Execution Q R) → ℕ → Served → Type 0
IsReplied {Q} {R} passes same sends later number (Executed r) = (e : Execution Q R) × (later ≡ Some e) × sends (e.number, e.says) r
IsReplied {Q} {R} passes same sends later number (Again r) = (e : Execution Q R) × (later ≡ Some e) × sends (e.number, e.says) r
IsReplied {Q} {R} passes same sends later number (Other r) = (e : Execution Q R) × (later ≡ Some e) × IsPassed (passes number e.number) same sends r
IsReplied {Q} {R} passes same sends later number (Passed r) = (e : Execution Q R) × (later ≡ Some e) × IsPassed (passes number e.number) same sends r
IsReplied passes same sends later number NoCall = same

-- whether a reply wasn't sent whole, of this one too
abbrev pub unsent_by_result : Bool → Result (Unit {0}) SendError → Bool
unsent_by_result unsent (Ok u) = unsent
unsent_by_result unsent (Err e) = true

-- the same by what a server did
abbrev pub unsent_by : Bool → Served → Bool
unsent_by unsent (Executed r) = unsent_by_result unsent r
unsent_by unsent (Again r) = unsent_by_result unsent r
unsent_by unsent (Other None) = unsent
unsent_by unsent (Other (Some r)) = unsent_by_result unsent r
unsent_by unsent (Passed None) = unsent
unsent_by unsent (Passed (Some r)) = unsent_by_result unsent r
unsent_by unsent NoCall = unsent

-- the same by the fates of replies
abbrev pub unsent_by_fate : Bool → Fate → Bool
unsent_by_fate unsent Done = unsent
unsent_by_fate unsent Refused = true
unsent_by_fate unsent Broken = true

-- the same by all of them, one after another
abbrev pub unsent_of : Bool → List Fate → Bool
unsent_of unsent [] = unsent
unsent_of unsent (f ∷ fates) = unsent_of (unsent_by_fate unsent f) fates

-- the requests among the results of a line
abbrev pub requests_of : {V : Type 0} → List (Answer V) → List V
requests_of [] = []
requests_of (Value v ∷ more) = v ∷ requests_of more
requests_of (_ ∷ more) = requests_of more

-- What a service goes by.
pub record Serving (A Q R : Type 0) : Type 1 where
  -- what the application makes of itself by a request, and what it says to it
  pub executes : A → Q → R → A → Type 0
  -- whether two requests are the same
  pub equal : Q → Q → Bool
  -- what is said of a request by this number that is passed over, behind the last number that was executed
  pub passes : ℕ → ℕ → Option R

-- these three of an application and its requests
abbrev pub serving : {A Q R : Type 0} → (A → Q → R → A → Type 0) → (Q → Q → Bool)
    → (ℕ → ℕ → Option R) → Serving A Q R
serving executes equal passes = record { executes = executes; equal = equal; passes = passes }

-- what a service has
pub record ServiceState (A Q R : Type 0) : Type 0 where
  -- the application
  pub application : A
  -- the call that is kept
  pub kept : Option (Execution Q R)
  -- whether a reply wasn't sent whole
  pub unsent : Bool
  -- where the sender of replies stands
  pub sender : SenderPlace

-- what this service has, by where its writers are
abbrev pub service_state : {A W Q R : Type 0} {N : ℕ} → (W → LineState) → Service A W Q R N
    → ServiceState A Q R
service_state line s = record {
  application = s.application;
  kept = kept_of s.server;
  unsent = s.unsent;
  sender = sender_place line (sender_of s.server);
}

-- What was executed of requests, and replied: some of them, in their order, each number once at most and above those before; the
-- replies are one session. Whether one of them wasn't sent whole is told.
pub record Executes {A Q R : Type 0} (rules : Serving A Q R) (form : WireForm (ℕ × R)) (limit : ℕ)
    (old new : ServiceState A Q R) (requests : List (ℕ × Q)) : Type 0 where
  -- the requests that were executed, in order
  pub log : List (Execution Q R)
  -- the replies and notices, in order
  pub out : List (ℕ × R)
  -- whether each of these was sent whole
  pub fates : List Fate
  -- these are executed and replied when the requests are served in turn
  pub served : ServesAll rules.equal rules.passes old.kept requests log out new.kept
  -- each executed number is above those before, and above the last one that was kept
  pub rises : Rises (next_of old.kept) log
  -- the application executed these, in order, and nothing else
  pub ran : FoldsTo (Runs rules.executes) old.application log new.application
  -- the replies were sent as one session
  pub replied : SaysAll limit form.writes form.valid old.sender new.sender out fates
  -- the sender keeps its sentinel
  pub sentinel : new.sender.sentinel ≡ old.sender.sentinel
  -- `unsent` is set if a reply wasn't sent whole, and otherwise as it was
  pub told : new.unsent ≡ unsent_of old.unsent fates

-- One answer of the line: a request is served, and anything else changes nothing.
abbrev pub TakesAnswer : {A Q R : Type 0} → Serving A Q R → ServiceState A Q R → ServiceState A Q R
    → (same : Type 0) → (ℕ × R → Result (Unit {0}) SendError → Type 0) → Answer (ℕ × Q) → Type 0
TakesAnswer rules old new same sends (Value p) = (r : Served)
    × IsServed rules.executes rules.equal (old.application, old.kept) (new.application, new.kept) p r
    × IsReplied rules.passes same sends new.kept p.0 r × (new.unsent ≡ unsent_by old.unsent r)
TakesAnswer rules old new same sends _ = (new.application ≡ old.application)
    × (new.kept ≡ old.kept) × same × (new.unsent ≡ old.unsent)

-- what a service makes of the results of a line
abbrev pub ServiceHears : {A W Q R : Type 0} {N : ℕ} → Serving A Q R → (W → LineState)
    → WireForm (ℕ × R) → Service A W Q R N → List (Answer (ℕ × Q)) → Service A W Q R N → Type 0
ServiceHears {N = N} rules line form old answers new =
    Executes rules form N (service_state line old) (service_state line new) (requests_of answers)

-- One call over two lines: what each side did, and what it means to the application.
use Rattle.std.specs.Prelude.{◌≡◌, ◌⊎◌, ◌<◌, ℕ, Bool, List, [], ◌++◌, false, Option, Some, None}
use Rattle.std.specs.Borrow.{RattleType}
use Rattle.std.specs.List.{FoldsTo}
use Rattle.std.specs.Mem.{FitsInMemory}
use Rattle.postcard_tree.specs.Tree.{Tree}
use Rattle.link.specs.Listening.{ReceiverFitsInMemory}
use Rattle.calls.specs.Calls.{Execution, no_call, ServesAll, In}
use Rattle.link.specs.Senders.{SenderPlace}
use Rattle.calls.specs.Serving.{SaysAll, Runs, requests_of}
use Rattle.link.specs.declared.session.Fate.{Fate}
use Rattle.link.specs.declared.receiver.Answer.{Answer}
use Rattle.calls_laws.specs.Heard.{WasHeard}
use Rattle.calls.specs.contracts.client.Client as client
use Rattle.calls.specs.contracts.server.Server as server
use Rattle.calls.specs.contracts.service.Service as service
use Rattle.calls.specs.contracts.waiting.Waiting as waiting

-- The application executed one request, once, and nothing else: it is alike the one that was asked, and what was said to it is so.
pub record ExecutedOnce {A Q R : Type 0} (executes : A → Q → R → A → Type 0) (alike_asked : Q → Q → Type 0) (old new : A) (asked : Q) (so : R → Type 0) : Type 0 where
  -- the request that was executed
  pub asks : Q
  -- what was said to it
  pub says : R
  -- the application executed it, and nothing else
  pub executed : executes old asks says new
  -- it is alike the one that was asked
  pub asks_alike : alike_asked asked asks
  -- what was said has this property
  pub says_so : so says

-- the application is as it was, or executed one request that is alike the one that was asked, once
abbrev pub ExecutedAtMostOnce : {A Q R : Type 0} → (A → Q → R → A → Type 0) → (Q → Q → Type 0) → A → A → Q → Type 0
ExecutedAtMostOnce {R = R} executes alike_asked old new asked = (new ≡ old) ⊎ ExecutedOnce executes alike_asked old new asked (λ (says : R). Unit {0})

-- Messages were sent over an empty line by a new sender, one after another, each perhaps interrupted at any byte: these bytes are
-- there.
pub record LeftBy {V : Type 0} (limit s : ℕ) (writes : V → Option Tree) (valid : V → Type 0) (messages : List V) (bytes : List ℕ) : Type 0 where
  -- the sender before
  pub start : SenderPlace
  -- the sender afterwards
  pub stop : SenderPlace
  -- whether each message was sent whole
  pub fates : List Fate
  -- the messages were sent in turn
  pub said : SaysAll limit writes valid start stop messages fates
  -- the line was empty
  pub empty : start.line.told ≡ Some []
  -- the sender was new, so a sentinel goes first
  pub fresh : start.clean ≡ false
  -- its sentinel
  pub sentinel : start.sentinel ≡ s
  -- the bytes on the line afterwards
  pub told : stop.line.told ≡ Some bytes

-- A new receiver was given a prefix of these bytes, and its reading ended in any way, or went on after values that couldn't be allocated: these were
-- its results.
pub record HeardFront {V : Type 0} (holds : List ℕ → Tree → Type 0) (reads : Tree → V → Type 0) (limit s : ℕ) (bytes : List ℕ) (answers : List (Answer V)) : Type 0 where
  -- what the receiver was given
  pub front : List ℕ
  -- what it wasn't given
  pub rest : List ℕ
  -- the bytes are these two
  pub parts : bytes ≡ front ++ rest
  -- these are the results of the first
  pub heard : WasHeard holds reads limit s answers front

-- What a client sends that calls and sends the call again: this message alone; and its call is pending, if one is.
pub record Repeats {Q : Type 0} (limit : ℕ) (writes : ℕ × Q → Option Tree) (valid : ℕ × Q → Type 0) (asked : ℕ × Q) (pending : Option (ℕ × Q)) (start stop : SenderPlace) : Type 0 where
  -- what was sent, in order
  pub messages : List (ℕ × Q)
  -- whether each was sent whole
  pub fates : List Fate
  -- they were sent in turn
  pub said : SaysAll limit writes valid start stop messages fates
  -- the sender keeps its sentinel
  pub sentinel : stop.sentinel ≡ start.sentinel
  -- each of them is this call
  pub only : (m : ℕ × Q) → In m messages → m ≡ asked
  -- if a call is pending, it is this one, and was sent
  pub sent : (p : ℕ × Q) → pending ≡ Some p → (p ≡ asked) × In asked messages
  -- its number is below the greatest
  pub numbered : (p : ℕ × Q) → pending ≡ Some p → p.0 < no_call

-- the same over an empty line, where it left these bytes
pub record AsksOnly {Q : Type 0} (limit s : ℕ) (writes : ℕ × Q → Option Tree) (valid : ℕ × Q → Type 0) (asked : ℕ × Q) (pending : Option (ℕ × Q)) (bytes : List ℕ) : Type 0 where
  -- what was sent, in order
  pub messages : List (ℕ × Q)
  -- the bytes are what a new sender of these leaves on an empty line
  pub left : LeftBy limit s writes valid messages bytes
  -- each of them is this call
  pub only : (m : ℕ × Q) → In m messages → m ≡ asked
  -- if a call is pending, it is this one, and was sent
  pub sent : (p : ℕ × Q) → pending ≡ Some p → (p ≡ asked) × In asked messages
  -- its number is below the greatest
  pub numbered : (p : ℕ × Q) → pending ≡ Some p → p.0 < no_call

-- what a new server does with the requests of a line: it receives them, executes some, and replies
pub record ServesLine {A Q R : Type 0} (executes : A → Q → R → A → Type 0) (equal : Q → Q → Bool) (passes : ℕ → ℕ → Option R) (holds : List ℕ → Tree → Type 0) (reads : Tree → ℕ × Q → Type 0) (writes : ℕ × R → Option Tree) (valid : ℕ × R → Type 0)
    (limit s limit' s' : ℕ) (old new : A) (requests replies : List ℕ) : Type 0 where
  -- the results that the server received
  pub heard : List (Answer (ℕ × Q))
  -- they are those of a prefix of the bytes of the requests
  pub over : HeardFront holds reads limit s requests heard
  -- the requests that were executed, in order
  pub log : List (Execution Q R)
  -- the replies and notices, in order
  pub out : List (ℕ × R)
  -- the call that is kept afterwards
  pub later : Option (Execution Q R)
  -- these are executed and replied when the received requests are served by a new server
  pub served : ServesAll equal passes None (requests_of heard) log out later
  -- the application executed these, in order, and nothing else
  pub ran : FoldsTo (Runs executes) old log new
  -- the bytes of the replies are what a new sender leaves on an empty line
  pub left : LeftBy limit' s' writes valid out replies

-- how a reply is taken: its number is that of the pending call
pub record TakesReply {Q R : Type 0} (holds : List ℕ → Tree → Type 0) (reads : Tree → ℕ × R → Type 0) (limit s : ℕ) (pending : Option (ℕ × Q)) (replies : List ℕ) (taken : R) : Type 0 where
  -- the results that the client received
  pub heard : List (Answer (ℕ × R))
  -- they are those of a prefix of the bytes of the replies
  pub over : HeardFront holds reads limit s replies heard
  -- the number of the pending call
  pub number : ℕ
  -- its request
  pub asked : Q
  -- it is the pending one
  pub is_pending : pending ≡ Some (number, asked)
  -- this reply was received under its number
  pub said : In (number, taken) (requests_of heard)

-- a client can be held
abbrev pub ClientFitsInMemory : (W Q N : RattleType) → Type 0
ClientFitsInMemory W Q N = FitsInMemory (client.the_row W Q N)

-- a server can be held
abbrev pub ServerFitsInMemory : (W Q R N : RattleType) → Type 0
ServerFitsInMemory W Q R N = FitsInMemory (server.the_row W Q R N)

-- an application and its server can be held
abbrev pub ServiceFitsInMemory : (A W Q R N : RattleType) → Type 0
ServiceFitsInMemory A W Q R N = FitsInMemory (service.the_row A W Q R N)

-- a client that waits can be held
abbrev pub WaitingFitsInMemory : (W Q R N : RattleType) → Type 0
WaitingFitsInMemory W Q R N = FitsInMemory (waiting.the_row W Q R N)

-- both sides of an exchange can be held
pub record SidesFitInMemory (A W Q R N M : RattleType) : Type 0 where
  -- the client
  pub client : ClientFitsInMemory W Q N
  -- the server
  pub server : ServerFitsInMemory W Q R M
  -- the server with its application
  pub service : ServiceFitsInMemory A W Q R M
  -- the client with its reply
  pub waiting : WaitingFitsInMemory W Q R N
  -- the receiver of requests
  pub requests : ReceiverFitsInMemory N
  -- the receiver of replies
  pub replies : ReceiverFitsInMemory M

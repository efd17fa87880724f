-- What a reply says that came over two lines.
use Rattle.std.specs.Prelude.{◌≡◌, ◌⊎◌, ◌<◌, ℕ, Bool, List, ◌++◌, Option}
use Rattle.postcard_tree.specs.ReadingLaws.{WireForm}
use Rattle.link.specs.Judged.{Judging}
use Rattle.link.specs.Run.{Send, IsRun, line}
use Rattle.link_laws.specs.Values.{runs_of, AreSends, values_sent}
use Rattle.calls.specs.Calls.{Execution, next_of, no_call, ServesAll, KeptFor, Rises, In, OnePerNumber}
use Rattle.calls.specs.Serving.{requests_of}
use Rattle.link.specs.declared.receiver.Answer.{Answer}
use Rattle.calls_laws.specs.Heard.{WasHeard}

-- Values of a type went over a line: senders left the line of this run of them, each send perhaps interrupted at any byte, and these
-- are the results of a receiver that was given a prefix of that line, perhaps all of it, and whose reading ended in any way, or went on
-- after values that couldn't be allocated.
pub record WentOver {V : Type 0} (form : WireForm V) (judging : Judging V) (limit s : ℕ)
    (run : List (List (V × Send))) (answers : List (Answer V)) : Type 0 where
  -- the sends are a run of this line
  pub is : IsRun form.takes limit s (runs_of run)
  -- they are sends of these values
  pub of : AreSends form.writes form.valid run
  -- what the receiver was given
  pub front : List ℕ
  -- what it wasn't given
  pub rest : List ℕ
  -- the line of the run is these two
  pub parts : line s (runs_of run) ≡ front ++ rest
  -- these are the results of the first
  pub heard : WasHeard judging.holds judging.reads limit s answers front

-- By this number, one request was executed, once, alike the one that was called, and what was said then is alike the reply.
pub record WasExecuted {Q R : Type 0} (alike_asked : Q → Q → Type 0) (alike_said : R → R → Type 0) (least : ℕ) (log : List (Execution Q R)) (n : ℕ) (asked : Q) (taken : R) : Type 0 where
  -- the execution
  pub call : Execution Q R
  -- it is one of the log
  pub executed : In call log
  -- it has this number
  pub numbered : call.number ≡ n
  -- its request is alike the call
  pub asks_alike : alike_asked asked call.asks
  -- the reply is alike what was said to it
  pub says_alike : alike_said call.says taken
  -- no number is executed twice
  pub once : Rises least log

-- The server had kept a call by this number already, which asked what is the same as a request alike the one that was called, and what
-- was said then is alike the reply.
pub record WasKept {Q R : Type 0} (alike_asked : Q → Q → Type 0) (alike_said : R → R → Type 0) (equal : Q → Q → Bool) (kept : Option (Execution Q R)) (n : ℕ) (asked : Q) (taken : R) : Type 0 where
  -- the request that is equal to the kept one
  pub heard : Q
  -- the kept reply
  pub says : R
  -- the request is alike the call
  pub asks_alike : alike_asked asked heard
  -- the kept call has this number, an equal request and this reply
  pub is_kept : KeptFor equal kept n heard says
  -- the accepted reply is alike the kept one
  pub says_alike : alike_said says taken

-- Requests go over a line to a server, whatever that has served before, and its replies over another one: a reply to a call's number is
-- what was said when that call was executed; or what the server had kept, of a request that is the same. A new server had kept nothing.
abbrev pub RepliesAreRight : {Q R : Type 0} → (Q → Q → Type 0) → (R → R → Type 0) → (ℕ → ℕ → List (List ((ℕ × Q) × Send)) → List (Answer (ℕ × Q)) → Type 0) → (ℕ → ℕ → List (List ((ℕ × R) × Send)) → List (Answer (ℕ × R)) → Type 0) → Type 0
RepliesAreRight {Q} {R} alike_asked alike_said asked_over said_over =
    (limit s limit' s' : ℕ) (asked : List (List ((ℕ × Q) × Send))) (said : List (List ((ℕ × R) × Send))) (heard : List (Answer (ℕ × Q))) (answers : List (Answer (ℕ × R)))
    (equal : Q → Q → Bool) (passes : ℕ → ℕ → Option R) (kept later : Option (Execution Q R)) (log : List (Execution Q R)) (out : List (ℕ × R)) (n : ℕ) (q : Q) (r : R)
    → n < no_call → asked_over limit s asked heard → ServesAll equal passes kept (requests_of heard) log out later → said_over limit' s' said answers → values_sent said ≡ out
    → OnePerNumber (values_sent asked) → In (n, q) (values_sent asked) → In (n, r) (requests_of answers)
    → WasExecuted alike_asked alike_said (next_of kept) log n q r ⊎ WasKept alike_asked alike_said equal kept n q r

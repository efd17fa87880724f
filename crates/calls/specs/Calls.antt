-- Calls by number: what a server executes and replies, what a client asks, and what lines that lose messages make of it.
use Rattle.std.specs.Prelude.{◌≡◌, ◌⊎◌, ℕ, ◌+◌, ◌<◌, ◌≤◌, ◌==◌, Bool, true, if◌then◌else◌, List, [], ◌∷◌, ◌++◌, Option, Some, None}
use Rattle.link.specs.Run.{Among}

-- a call that was executed: its number, what it asked, and what was said to it
pub record Execution (Q R : Type 0) : Type 0 where
  -- the call's number
  pub number : ℕ
  -- what was asked
  pub asks : Q
  -- what was said to it
  pub says : R

-- the execution of a request by this number, with this reply
abbrev pub call : {Q R : Type 0} → ℕ → Q → R → Execution Q R
call n q r = record { number = n; asks = q; says = r }

-- A server keeps the last call that it executed: its number is the highest. This is the least that it would execute.
abbrev pub next_of : {Q R : Type 0} → Option (Execution Q R) → ℕ
next_of None = 0
next_of (Some e) = e.number + 1

-- the greatest number: no call has it, and what is said of a request that was passed over goes out by it
abbrev pub no_call : ℕ
no_call = 18446744073709551615

-- what goes out of what is said of a request that was passed over, if anything is
abbrev pub notices : {R : Type 0} → Option R → List (ℕ × R)
notices None = []
notices (Some said) = (no_call, said) ∷ []

-- What is replied to a request that isn't executed. The last reply once more, where this is the same request by the same number: the
-- test of the requests' type says so. Else what is said of it by its number and by that of the last call, which it isn't.
abbrev pub again : {Q R : Type 0} → (Q → Q → Bool) → (ℕ → ℕ → Option R) → Option (Execution Q R) → ℕ → Q → List (ℕ × R)
again equal passes None n q = []
again equal passes (Some e) n q = if e.number == n then (if equal e.asks q then (e.number, e.says) ∷ [] else notices (passes n e.number)) else notices (passes n e.number)

-- One request: what is executed for it, what is replied, and what is kept then. A number below the least is not executed, nor is the
-- greatest, of which nothing is said.
pub data Serves {Q R : Type 0} (equal : Q → Q → Bool) (passes : ℕ → ℕ → Option R)
    (kept : Option (Execution Q R)) (n : ℕ) (asks : Q)
    : List (Execution Q R) → List (ℕ × R) → Option (Execution Q R) → Type 0 where
  greatest : no_call ≤ n → Serves equal passes kept n asks [] [] kept
  known : n < no_call → n < next_of kept
      → Serves equal passes kept n asks [] (again equal passes kept n asks) kept
  fresh : (says : R) → n < no_call → next_of kept ≤ n
      → Serves equal passes kept n asks (call n asks says ∷ []) ((n, says) ∷ [])
      (Some (call n asks says))

-- requests one after another
pub data ServesAll {Q R : Type 0} (equal : Q → Q → Bool) (passes : ℕ → ℕ → Option R)
    : Option (Execution Q R) → List (ℕ × Q) → List (Execution Q R) → List (ℕ × R)
    → Option (Execution Q R) → Type 0 where
  no_request : {kept : Option (Execution Q R)} → ServesAll equal passes kept [] [] [] kept
  request : {kept mid later : Option (Execution Q R)} {q : ℕ × Q} {qs : List (ℕ × Q)}
      {first log : List (Execution Q R)} {says out : List (ℕ × R)}
      → Serves equal passes kept q.0 q.1 first says mid
      → ServesAll equal passes mid qs log out later
      → ServesAll equal passes kept (q ∷ qs) (first ++ log) (says ++ out) later

-- each number is at least this, and above the one before
abbrev pub Rises : {Q R : Type 0} → ℕ → List (Execution Q R) → Type 0
Rises n [] = Unit {0}
Rises n (e ∷ es) = (n ≤ e.number) × Rises (e.number + 1) es

-- Whatever requests are served, each number is executed once at most, and none that is below the least.
abbrev pub ExecutesOnce : (Q R : Type 0) → Type 0
ExecutesOnce Q R = (equal : Q → Q → Bool) (passes : ℕ → ℕ → Option R) (kept later : Option (Execution Q R)) (qs : List (ℕ × Q)) (log : List (Execution Q R)) (out : List (ℕ × R)) → ServesAll equal passes kept qs log out later
    → Rises (next_of kept) log × (next_of kept ≤ next_of later)

-- the list has it
abbrev pub In : {A : Type 0} → A → List A → Type 0
In x [] = ⊥
In x (y ∷ ys) = (x ≡ y) ⊎ In x ys

-- Whatever requests are served, none by the greatest number is executed.
abbrev pub ExecutesCalls : (Q R : Type 0) → Type 0
ExecutesCalls Q R = (equal : Q → Q → Bool) (passes : ℕ → ℕ → Option R) (kept later : Option (Execution Q R)) (qs : List (ℕ × Q)) (log : List (Execution Q R)) (out : List (ℕ × R)) → ServesAll equal passes kept qs log out later
    → (e : Execution Q R) → In e log → e.number < no_call

-- no two requests have one number, however often each is sent
abbrev pub OnePerNumber : {Q : Type 0} → List (ℕ × Q) → Type 0
OnePerNumber {Q} sent = (a b : ℕ × Q) → In a sent → In b sent → a.0 ≡ b.0 → a ≡ b

-- The kept call has this number and this reply, and asked what is the same by the test of the requests' type.
abbrev pub KeptFor : {Q R : Type 0} → (Q → Q → Bool) → Option (Execution Q R) → ℕ → Q → R → Type 0
KeptFor equal None n q r = ⊥
KeptFor equal (Some e) n q r = (e.number ≡ n) × (equal e.asks q ≡ true) × (e.says ≡ r)

-- Whatever a server receives, and whatever it served before: each reply is to a request that it received by that number, and is what it said
-- when it executed that one; or what it had kept, of a request that is the same. A new server had kept nothing.
abbrev pub RepliesWereSaid : (Q R : Type 0) → Type 0
RepliesWereSaid Q R = (equal : Q → Q → Bool) (passes : ℕ → ℕ → Option R) (kept : Option (Execution Q R)) (heard : List (ℕ × Q)) (log : List (Execution Q R)) (out : List (ℕ × R)) (later : Option (Execution Q R)) (n : ℕ) (r : R)
    → n < no_call → ServesAll equal passes kept heard log out later → In (n, r) out
    → (q : Q) × In (n, q) heard × (In (call n q r) log ⊎ KeptFor equal kept n q r)

-- Whatever a new server received before, in any order, and however often requests had the same number: what it replies to one has that
-- one's number, and is what was said when this very request was executed by it, or one that is the same by the test of its type.
abbrev pub RepliesToTheSame : (Q R : Type 0) → Type 0
RepliesToTheSame Q R = (equal : Q → Q → Bool) (passes : ℕ → ℕ → Option R) (before : List (ℕ × Q)) (log now : List (Execution Q R)) (out said : List (ℕ × R)) (mid later : Option (Execution Q R)) (n m : ℕ) (q : Q) (r : R)
    → m < no_call → ServesAll equal passes None before log out mid → Serves equal passes mid n q now said later → In (m, r) said
    → (m ≡ n) × (executed : Q) × ((executed ≡ q) ⊎ (equal executed q ≡ true)) × In (call n executed r) (log ++ now)

-- Some of what a client sent is received by a server, whatever that has served before and whoever had asked it, and some of its replies
-- come back: a reply to a call's number is what the server said when it executed that call; or what it had kept already, of a request
-- that is the same by the test of its type. A new server had kept nothing.
abbrev pub MatchesCalls : (Q R : Type 0) → Type 0
MatchesCalls Q R = (equal : Q → Q → Bool) (passes : ℕ → ℕ → Option R) (sent heard : List (ℕ × Q)) (log : List (Execution Q R)) (out answered : List (ℕ × R)) (kept later : Option (Execution Q R)) (n : ℕ) (q : Q) (r : R)
    → n < no_call → OnePerNumber sent → Among heard sent → ServesAll equal passes kept heard log out later → Among answered out → In (n, q) sent → In (n, r) answered
    → In (call n q r) log ⊎ KeptFor equal kept n q r

-- Where a number was replied to, no lower one, nor it, is executed later.
abbrev pub SettlesCalls : (Q R : Type 0) → Type 0
SettlesCalls Q R = (equal : Q → Q → Bool) (passes : ℕ → ℕ → Option R) (kept mid later : Option (Execution Q R)) (qs qs' : List (ℕ × Q)) (log log' : List (Execution Q R)) (out out' : List (ℕ × R)) (n : ℕ) (r : R)
    → n < no_call → ServesAll equal passes kept qs log out mid → ServesAll equal passes mid qs' log' out' later → In (n, r) out → (e : Execution Q R) → In e log' → n < e.number

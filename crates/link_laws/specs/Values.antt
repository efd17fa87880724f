-- What a receiver is to be told of a run of values.
use Rattle.std.specs.Prelude.{◌≡◌, ℕ, Bool, false, List, [], ◌∷◌, ◌++◌, map, Option}
use Rattle.std.specs.List.{AllZip, AllByRecursion}
use Rattle.postcard_tree.specs.Tree.{Tree}
use Rattle.link.specs.Stream.{Verdict, value, damaged, too_long, cut}
use Rattle.link.specs.Run.{Send, completed, clean_after, session_line, IsRun, line, told_send}
use Rattle.link.specs.Listening.{HasAnswered}
use Rattle.link_laws.specs.Answered.{Sends}
use Rattle.link.specs.declared.receiver.Answer.{Answer}
use Rattle.link.specs.declared.receiver.Answer.TheVariants.{Value, Damaged, TooLong, Cut}

-- what came of each value, of one sender after another
abbrev pub sends_of : {V : Type 0} → List (V × Send) → List Send
sends_of calls = map (λ c. c.1) calls

-- the same of each sender
abbrev pub runs_of : {V : Type 0} → List (List (V × Send)) → List (List Send)
runs_of run = map sends_of run

-- an answer to a send of v
abbrev pub answer_of : {V : Type 0} → V → Verdict → Answer V
answer_of v (value t) = Value v
answer_of v damaged = Damaged
answer_of v too_long = TooLong
answer_of v cut = Cut

-- what is told of the sends of one sender, by their values, where these bytes came on the line later
abbrev pub told_values_session : {V : Type 0} → ℕ → Bool → List ℕ → List (V × Send)
    → List (Answer V)
told_values_session s clean later [] = []
told_values_session s clean later (c ∷ calls) =
    map (answer_of c.0)
    (told_send clean (session_line s (clean_after clean c.1) (sends_of calls) ++ later) c.1)
    ++ told_values_session s (clean_after clean c.1) later calls

-- what is told of one sender after another
abbrev pub told_values : {V : Type 0} → ℕ → List (List (V × Send)) → List (Answer V)
told_values s [] = []
told_values s (calls ∷ run) =
    told_values_session s false (line s (runs_of run)) calls ++ told_values s run

-- the same answer, of a value that is alike
abbrev pub AlikeAnswers : {V : Type 0} → (V → V → Type 0) → Answer V → Answer V → Type 0
AlikeAnswers alike (Value v) (Value w) = alike v w
AlikeAnswers alike Damaged Damaged = Unit {0}
AlikeAnswers alike TooLong TooLong = Unit {0}
AlikeAnswers alike Cut Cut = Unit {0}
AlikeAnswers alike _ _ = ⊥

-- each value is valid and writes the tree of its send, where that wasn't refused
abbrev pub AreSends : {V : Type 0} → (V → Option Tree)
    → (V → Type 0) → List (List (V × Send)) → Type 0
AreSends writes valid run =
    AllByRecursion (λ calls. AllByRecursion (λ c. Sends writes valid c.0 c.1) calls) run

-- What a receiver answers to the line of a run of values is, one by one, alike what is to be told of them.
abbrev pub IsToldByValues : {V : Type 0} → (Tree → Type 0) → (List ℕ → Tree → Type 0)
    → (Tree → V → Type 0) → (V → V → Type 0)
    → (V → Option Tree) → (V → Type 0) → List (Answer V) → ℕ → ℕ → Type 0
IsToldByValues {V} takes holds reads alike writes valid answers limit s =
    (run : List (List (V × Send))) → IsRun takes limit s (runs_of run) → AreSends writes valid run
    → HasAnswered holds reads limit s answers (line s (runs_of run))
    → AllZip (AlikeAnswers alike) (told_values s run) answers

-- every send completed
abbrev pub AllCompleted : {V : Type 0} → List (V × Send) → Type 0
AllCompleted [] = Unit {0}
AllCompleted (c ∷ calls) = ((t : Tree) × (c.1 ≡ completed t)) × AllCompleted calls

-- the values, one after another
abbrev pub values_sent : {V : Type 0} → List (List (V × Send)) → List V
values_sent [] = []
values_sent (calls ∷ run) = map (λ c. c.0) calls ++ values_sent run

-- What a receiver answers to the line of a run whose sends completed is, one by one, a value alike the one sent.
abbrev pub AreGivenBack : {V : Type 0} → (Tree → Type 0) → (List ℕ → Tree → Type 0)
    → (Tree → V → Type 0) → (V → V → Type 0)
    → (V → Option Tree) → (V → Type 0) → List (Answer V) → ℕ → ℕ → Type 0
AreGivenBack {V} takes holds reads alike writes valid answers limit s =
    (run : List (List (V × Send))) → IsRun takes limit s (runs_of run) → AreSends writes valid run
    → AllByRecursion AllCompleted run
    → HasAnswered holds reads limit s answers (line s (runs_of run))
    → AllZip (AlikeAnswers alike) (map Value (values_sent run)) answers

-- What a line that gives back what is sent says to either side.
use Rattle.std.specs.Prelude.{◌≡◌, ℕ, Bool, List, [], ◌++◌, map, Option, IfSome}
use Rattle.std.specs.List.{FoldsTo}
use Rattle.postcard_tree.specs.Tree.{Tree}
use Rattle.postcard_tree.specs.Spelling.{Spells}
use Rattle.sealed.specs.declared.keyed.Keyed.{Keyed}
use Rattle.link.specs.Run.{Send}
use Rattle.link.specs.declared.receiver.Answer.{Answer}
use Rattle.link.specs.declared.receiver.Answer.TheVariants.{Value, Damaged}
use Rattle.link_laws.specs.Values.{values_sent}
use Rattle.calls.specs.Calls.{Execution, ServesAll, In}
use Rattle.calls.specs.Serving.{Runs, requests_of}
use Rattle.calls.specs.Sealing.{compared, compared_reply, replied_inside, ExecutesNumbered, passes_numbered}
use Rattle.calls.specs.declared.sealing.Numbering.{Numbering}

-- a request: its number stands inside too
abbrev pub IsRequest : {T : Type 0} {K : ℕ} → ℕ × Keyed (ℕ × T) K → Type 0
IsRequest p = p.1.0.0 ≡ p.0

-- a reply or a notice: the number inside is after the one outside
abbrev pub IsReply : {T : Type 0} {K : ℕ} → ℕ × Keyed (ℕ × T) K → Type 0
IsReply p = p.1.0.0 ≡ replied_inside p.0

-- Requests are served for an application that numbers its replies, and what the server had kept, where it had, was a reply: all that it
-- says is a reply or a notice.
abbrev pub SaysReplies : {A Q R : Type 0} (K : ℕ) → (A → Q → R → A → Type 0) → (ℕ → ℕ → Option R) → Type 0
SaysReplies {A} {Q} {R} K executes passes = (equal : Keyed (ℕ × Q) K → Keyed (ℕ × Q) K → Bool) (kept later : Option (Execution (Keyed (ℕ × Q) K) (Keyed (ℕ × R) K)))
    (qs : List (ℕ × Keyed (ℕ × Q) K)) (log : List (Execution (Keyed (ℕ × Q) K) (Keyed (ℕ × R) K))) (out : List (ℕ × Keyed (ℕ × R) K)) (old new : Numbering A)
    → ServesAll equal (λ number last. passes_numbered (passes number last)) kept qs log out later → FoldsTo (Runs (ExecutesNumbered executes)) old log new
    → ((p : ℕ × Keyed (ℕ × Q) K) → In p qs → IsRequest p) → IfSome kept (λ e. IsReply (e.number, e.says)) → (p : ℕ × Keyed (ℕ × R) K) → In p out → IsReply p

-- Bytes that begin with a reply, however a message is read from them: it is damaged to a hearer that compares the numbers of requests.
abbrev pub NoRequest : {Q R : Type 0} {K L : ℕ} → (Tree → ℕ × Keyed (ℕ × R) K → Type 0) → (Tree → ℕ × Keyed (ℕ × Q) L → Type 0) → Type 0
NoRequest {Q} {R} {K} {L} says asks = (t u : Tree) (front before rest behind : List ℕ) (said : ℕ × Keyed (ℕ × R) K) (asked : ℕ × Keyed (ℕ × Q) L)
    → IsReply said → says t said → Spells t front → asks u asked → Spells u before → front ++ rest ≡ before ++ behind → compared (Value asked) ≡ Damaged

-- Bytes that begin with a request, however a message is read from them: it is damaged to a hearer that compares the numbers of replies.
abbrev pub NoReply : {Q R : Type 0} {K L : ℕ} → (Tree → ℕ × Keyed (ℕ × Q) L → Type 0) → (Tree → ℕ × Keyed (ℕ × R) K → Type 0) → Type 0
NoReply {Q} {R} {K} {L} asks says = (t u : Tree) (front before rest behind : List ℕ) (asked : ℕ × Keyed (ℕ × Q) L) (said : ℕ × Keyed (ℕ × R) K)
    → IsRequest asked → asks t asked → Spells t front → says u said → Spells u before → front ++ rest ≡ before ++ behind → compared_reply (Value said) ≡ Damaged

-- Replies went over a line: among what is received of it, numbers compared, is no request.
abbrev pub ServerHearsNothing : {T : Type 0} {K : ℕ} → (ℕ → ℕ → List (List ((ℕ × Keyed (ℕ × T) K) × Send)) → List (Answer (ℕ × Keyed (ℕ × T) K)) → Type 0) → Type 0
ServerHearsNothing {T} {K} over = (limit s : ℕ) (said : List (List ((ℕ × Keyed (ℕ × T) K) × Send))) (answers : List (Answer (ℕ × Keyed (ℕ × T) K)))
    → over limit s said answers → ((p : ℕ × Keyed (ℕ × T) K) → In p (values_sent said) → IsReply p) → requests_of (map compared answers) ≡ []

-- Requests went over a line: among what is received of it, numbers compared, is no reply.
abbrev pub ClientHearsNothing : {T : Type 0} {K : ℕ} → (ℕ → ℕ → List (List ((ℕ × Keyed (ℕ × T) K) × Send)) → List (Answer (ℕ × Keyed (ℕ × T) K)) → Type 0) → Type 0
ClientHearsNothing {T} {K} over = (limit s : ℕ) (asked : List (List ((ℕ × Keyed (ℕ × T) K) × Send))) (answers : List (Answer (ℕ × Keyed (ℕ × T) K)))
    → over limit s asked answers → ((p : ℕ × Keyed (ℕ × T) K) → In p (values_sent asked) → IsRequest p) → requests_of (map compared_reply answers) ≡ []

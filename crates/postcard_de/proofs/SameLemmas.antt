-- A value that was read, under another name of it; and what a call has done, told as what its caller does.
use Rattle.std.proofs.Common.{◌≡◌, ℕ, List, Bool, subst, Result, Ok, Err}
use Rattle.postcard_tree.specs.declared.error.Error.{Error}
use Rattle.postcard_de.specs.Source.{SourceState, Reads, Fails, Outcome}

pub read_as : {A : Type 0} {a b : SourceState} {gives : List ℕ → A → Type 0} {v : A} (w : A) → Reads a b gives v → v ≡ w → Reads a b gives w
read_as {a = a} {b = b} {gives = gives} w h e = subst (λ x. Reads a b gives x) e h

-- what the last of several calls answers
pub outcome_by : {A : Type 0} {a b c : SourceState} {G H : List ℕ → A → Type 0} {R S : List ℕ → Error → Type 0} {g k : Bool} (r : Result A Error)
    → ((v : A) → Reads b c G v → Reads a c H v) → ((e : Error) → Fails b c R g e → Fails a c S k e)
    → Outcome b c r G R g → Outcome a c r H S k
outcome_by (Ok v) f h o = f v o
outcome_by (Err e) f h o = h e o

-- what the only call answers, whose refusals are the caller's
pub outcome_as : {A : Type 0} {a b : SourceState} {G H : List ℕ → A → Type 0} (R : List ℕ → Error → Type 0) (g : Bool) (r : Result A Error)
    → ((v : A) → Reads a b G v → Reads a b H v) → Outcome a b r G R g → Outcome a b r H R g
outcome_as {a = a} {b = b} R g r f o = outcome_by r f (λ (e : Error) (h : Fails a b R g e). h) o

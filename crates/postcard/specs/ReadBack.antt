-- What bytes that a value was written as are read as.
use Rattle.std.specs.Prelude.{◌≡◌, ℕ, List, Bool, true, Option, Result, IfOk, IfErr}
use Rattle.postcard_tree.specs.declared.error.Error.{Error}
use Rattle.postcard_tree.specs.declared.error.Error.TheVariants.{OutOfMemory}
use Rattle.postcard_tree.specs.Tree.{Tree}
use Rattle.postcard_de.specs.Answer.{ReadsFront, AnswersFronts}
use Rattle.postcard.specs.Written.{WrittenWhole}

-- s is what v was written as: each value that is read at its start is alike v
abbrev pub IsReadBack : {A : Type 0} → (Tree → A → Type 0)
    → (A → A → Type 0) → Option Tree → A → Type 0
IsReadBack {A} reads alike o v =
    (s : List ℕ) (r : Result A Error) → WrittenWhole o (λ bytes. s ≡ bytes)
    → IfOk r (λ w. (rest : List ℕ) × ReadsFront reads s rest w) → IfOk r (λ w. alike v w)

-- and only being out of memory keeps it from being read
abbrev pub IsNotRefused : {A : Type 0} → (Tree → Type 0)
    → (Tree → A → Type 0) → Bool → Option Tree → Type 0
IsNotRefused {A} takes reads growing o =
    (s : List ℕ) (r : Result A Error) → WrittenWhole o (λ bytes. s ≡ bytes)
    → AnswersFronts takes reads growing s r → IfErr r (λ e. (e ≡ OutOfMemory) × (growing ≡ true))

-- What a name is answered as.
use Rattle.std.specs.Prelude.{◌≡◌, ◌⊎◌, ℕ, List, [], ◌∷◌}
use Rattle.declarations.specs.Candidates.{candidates}
use Rattle.declarations.specs.declared.names.Item.{Item}
use Rattle.declarations.specs.declared.names.Scopes.{Scopes}
use Rattle.declaration_parser.specs.declared.items.Scope.{Scope}
use Rattle.declarations.specs.declared.names.What.{What}
use Rattle.declarations.specs.declared.names.candidates.Space.{Space}
use Rattle.declarations.specs.declared.names.candidates.Step.{Step}
use Rattle.declarations.specs.declared.names.candidates.Step.TheVariants as step
use Rattle.declarations.specs.declared.names.answers.Found.{Found}
use Rattle.declarations.specs.declared.names.answers.Found.TheVariants as found

-- the candidates of a step among the items of files
abbrev pub candidates_in : Scopes → Step → ℕ → Space → List Item
candidates_in files step name space = candidates files.scopes.items step name space files.items.items

-- an item is answered as what it is, where it is, or refused
abbrev pub IsAnswerOf : Item → Found → Type 0
IsAnswerOf item (found.In it scope) = (item.what ≡ it) × (item.scope ≡ scope)
IsAnswerOf item (found.Wrong why) = Unit {0}
IsAnswerOf item (found.Known name) = ⊥
IsAnswerOf item found.Two = ⊥
IsAnswerOf item found.Outside = ⊥
IsAnswerOf item found.Not = ⊥

-- what is answered of a step's candidates: an item only if it is the only one, and that there is nothing only if there is none
abbrev pub IsStepAnswer : List Item → Found → Type 0
IsStepAnswer all (found.In it scope) =
    (item : Item) × (all ≡ item ∷ []) × (item.what ≡ it) × (item.scope ≡ scope)
IsStepAnswer all (found.Known name) = all ≡ []
IsStepAnswer all found.Not = all ≡ []
IsStepAnswer all (found.Wrong why) = Unit {0}
IsStepAnswer all found.Two = Unit {0}
IsStepAnswer all found.Outside = Unit {0}

-- a step is answered, or has no candidate and is passed
abbrev pub IsAnsweredOrPassed : List Item → Found → Type 0
IsAnsweredOrPassed all result = (all ≡ []) ⊎ IsStepAnswer all result

-- that a name is nowhere is answered only if there is no candidate
abbrev pub IsNowhereIfNone : List Item → Found → Type 0
IsNowhereIfNone all (found.In it scope) = Unit {0}
IsNowhereIfNone all (found.Known name) = Unit {0}
IsNowhereIfNone all found.Not = all ≡ []
IsNowhereIfNone all (found.Wrong why) = Unit {0}
IsNowhereIfNone all found.Two = Unit {0}
IsNowhereIfNone all found.Outside = Unit {0}

-- This is what one item declares, in this scope, and the item is the only candidate of a step.
pub record IsOnlyCandidate (scopes : List Scope) (items : List Item) (name : ℕ) (space : Space) (it : What)
    (scope : ℕ) : Type 0 where
  -- the step
  pub step : Step
  -- its only candidate
  pub item : Item
  pub alone : candidates scopes step name space items ≡ item ∷ []
  pub declares : item.what ≡ it
  pub within : item.scope ≡ scope

-- if an item is answered, it is the only candidate of a step
abbrev pub IsOnlyOfAStep : Scopes → ℕ → Space → Found → Type 0
IsOnlyOfAStep files name space (found.In it scope) =
    IsOnlyCandidate files.scopes.items files.items.items name space it scope
IsOnlyOfAStep files name space (found.Known other) = Unit {0}
IsOnlyOfAStep files name space (found.Wrong why) = Unit {0}
IsOnlyOfAStep files name space found.Two = Unit {0}
IsOnlyOfAStep files name space found.Outside = Unit {0}
IsOnlyOfAStep files name space found.Not = Unit {0}

-- if an item is answered, it is the only candidate of the scope that is answered with it
abbrev pub IsOnlyThere : Scopes → ℕ → Space → Found → Type 0
IsOnlyThere files name space (found.In it scope) =
    (item : Item) × (candidates_in files (step.Scope scope) name space ≡ item ∷ []) × (item.what ≡ it)
IsOnlyThere files name space (found.Known other) = Unit {0}
IsOnlyThere files name space (found.Wrong why) = Unit {0}
IsOnlyThere files name space found.Two = Unit {0}
IsOnlyThere files name space found.Outside = Unit {0}
IsOnlyThere files name space found.Not = Unit {0}

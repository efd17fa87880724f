-- What a call appended to the JSON before it.
use Rattle.std.specs.Prelude.{◌≡◌, ℕ, List, [], ◌∷◌, ◌++◌, OnOk, Result}
use Rattle.json.specs.Json.{Json}
use Rattle.json.specs.Token.{Token, key}
use Rattle.json.specs.Tree.{json_tokens}
use Rattle.json.specs.Written.{Written}

-- a value's JSON was appended, if it is said that this succeeded
abbrev pub AppendsJson : {E : Type 0} → Result (Unit {0}) E → Written → Written → Json → Type 0
AppendsJson r old new j = OnOk r (new.tokens ≡ old.tokens ++ json_tokens j)

-- a JSON value of this kind was appended
abbrev pub AppendsOne : {E : Type 0} → Result (Unit {0}) E → Written → Written → (Json → Type 0) → Type 0
AppendsOne r old new kind = OnOk r ((j : Json) × (new.tokens ≡ old.tokens ++ json_tokens j) × kind j)

-- the tokens of a member: its name, and its value
abbrev pub member_tokens : List ℕ × Json → List Token
member_tokens m = key m.0 ∷ json_tokens m.1

-- a key was appended
abbrev pub AppendsKey : {E : Type 0} → Result (Unit {0}) E → Written → Written → List ℕ → Type 0
AppendsKey r old new s = OnOk r (new.tokens ≡ old.tokens ++ key s ∷ [])

-- a member of this kind was appended
abbrev pub AppendsMember : {E : Type 0} → Result (Unit {0}) E → Written → Written → (List ℕ × Json → Type 0) → Type 0
AppendsMember r old new kind = OnOk r ((m : List ℕ × Json) × (new.tokens ≡ old.tokens ++ member_tokens m) × kind m)

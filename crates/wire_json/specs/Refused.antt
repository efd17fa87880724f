-- When nothing is read.
use Rattle.std.specs.Prelude.{◌≡◌, ℕ, List, [], ◌∷◌, ◌++◌, Option, Some, None, Result, IfErr, String, codes, decimal, string_bytes}
use Rattle.std.specs.Global.{Global}
use Rattle.std.specs.Option.{option_map}
use Rattle.schema_table.specs.declared.node.Node.{Node}
use Rattle.schema_table.specs.declared.node.Node.TheVariants as node
use Rattle.wire_json.specs.declared.wrong.Wrong.{Wrong as Fault}
use Rattle.wire_json.specs.declared.wrong.ParseError.{ParseError}
use Rattle.wire_json.specs.declared.wrong.ParseError.TheVariants.{Wrong, OutOfMemory}

-- a fault in a line, and not the want of memory
abbrev pub IsWrong : ParseError → Type 0
IsWrong (Wrong w) = Unit {0}
IsWrong OutOfMemory = ⊥

-- the error is this fault: the path to it, if it has one, and what is wrong
abbrev pub IsFault : Option (List ℕ) → List ℕ → ParseError → Type 0
IsFault path why (Wrong w) = (option_map string_bytes w.path ≡ path) × (w.why.now ≡ why)
IsFault path why OutOfMemory = ⊥

-- the error is this fault, or that the path to it couldn't be allocated
abbrev pub IsFaultAt : List ℕ → List ℕ → ParseError → Type 0
IsFaultAt path why OutOfMemory = Unit {0}
IsFaultAt path why e = IsFault (Some path) why e

-- the path of a line that isn't JSON from this column on
abbrev pub column_path : ℕ → List ℕ
column_path column = codes "column " ++ decimal column

-- the line that refuses the line of that number, with what is wrong
abbrev pub refusal_text : ℕ → List ℕ → List ℕ
refusal_text number why =
    codes "line " ++ (decimal number ++ (codes ": " ++ (why ++ 10 ∷ [])))

-- the path to what is wrong after a colon, if there is one
abbrev pub path_parts : Option (String Global) → List (List ℕ)
path_parts None = [] ∷ [] ∷ []
path_parts (Some path) = codes ": " ∷ string_bytes path ∷ []

-- the texts that are the line of a fault, by the digits of the line's number
abbrev pub line_parts : List ℕ → Fault → List (List ℕ)
line_parts digits w = codes "line " ∷ digits ∷ (path_parts w.path ++ codes ": " ∷ w.why.now ∷ codes "\n" ∷ [])

-- what is wrong, after the path to it, if there is one
abbrev pub located_why : Option (String Global) → List ℕ → List ℕ
located_why None why = why
located_why (Some path) why = string_bytes path ++ (codes ": " ++ why)

-- the line that refuses the line of that number for this fault
abbrev pub fault_line : ℕ → Fault → List ℕ
fault_line number w = refusal_text number (located_why w.path w.why.now)

-- a prefix of a text was appended to another one
pub record AppendsFront (old new text : List ℕ) : Type 0 where
  -- what was appended
  pub front : List ℕ
  -- what is missing
  pub rest : List ℕ
  -- together they are the text
  pub text_is : text ≡ front ++ rest
  -- nothing else was appended
  pub appended : new ≡ old ++ front

-- said of a call that found a fault
abbrev pub IfWrong : {A : Type 0} → Result A ParseError → Type 0 → Type 0
IfWrong r P = IfErr r (λ e. IsWrong e → P)

-- said of a call that found nothing
abbrev pub IfNone : {A : Type 0} → Option A → Type 0 → Type 0
IfNone None P = P
IfNone (Some x) P = Unit {0}

-- none of this kind is meant
abbrev pub NoneOf : {A : Type 0} → (A → Type 0) → (A → Type 0) → Type 0
NoneOf {A} kind means = (x : A) → kind x → means x → ⊥

-- a type of numbers
abbrev pub IsNumberNode : Node → Type 0
IsNumberNode node.Bool = ⊥
IsNumberNode node.Char = ⊥
IsNumberNode node.Text = ⊥
IsNumberNode (node.TextUpTo n) = ⊥
IsNumberNode node.Bytes = ⊥
IsNumberNode (node.Option k) = ⊥
IsNumberNode (node.List k) = ⊥
IsNumberNode (node.ListUpTo n k) = ⊥
IsNumberNode (node.Array n k) = ⊥
IsNumberNode (node.Struct is) = ⊥
IsNumberNode (node.Enum is) = ⊥
IsNumberNode _ = Unit {0}

-- The lines of a viewer: one for each result, as printable ASCII.
use Rattle.std.specs.Prelude.{◌≡◌, ℕ, List, [], ◌∷◌, ◌++◌, flat_map, get_or}
use Rattle.std.specs.List.{AllZip}
use Rattle.schema_table.specs.declared.value.Value.{Value}
use Rattle.link.specs.declared.receiver.Answer.{Answer}
use Rattle.link.specs.declared.receiver.Answer.TheVariants as answer
use Rattle.wire_lib.specs.Damages.{IsDamageWord, IsTextAt, IsTextOf}
use Rattle.wire_lib.specs.Kinds.{IsTextBeside, kind_in}
use Rattle.wire_lib.specs.Printable.{shown_line}
use Rattle.wire_lib.specs.declared.receive.Reading.{Reading}

-- the name of a kind; empty if there is no such kind
abbrev pub kind_name : List (List ℕ) → ℕ → List ℕ
kind_name names kind = get_or names kind []

-- what a message's line says: the name of its kind, and after a blank the text beside it, if there is one
abbrev pub message_said : List ℕ → List ℕ → List ℕ
message_said name [] = name
message_said name (b ∷ text) = name ++ 32 ∷ b ∷ text

-- a text is what a message's line says, if the kinds have these names
abbrev pub IsMessageText : Reading → List (List ℕ) → Value → List ℕ → Type 0
IsMessageText r names v text =
    (beside : List ℕ) × IsTextBeside r v beside × (text ≡ message_said (kind_name names (kind_in v)) beside)

-- a text is what a result's line says; that of a damage is made of a word
abbrev pub IsTextBy : Reading → List (List ℕ) → (List ℕ → List ℕ) → Answer Value → List ℕ → Type 0
IsTextBy r names by (answer.Value v) text = IsMessageText r names v text
IsTextBy r names by a text = (what : List ℕ) × IsDamageWord a what × (text ≡ by what)

-- the line of a result was appended, whose text is so made
abbrev pub AddsText : Reading → List (List ℕ) → (List ℕ → List ℕ) → Answer Value → List ℕ → List ℕ → Type 0
AddsText r names by a lines lines' = (text : List ℕ) × IsTextBy r names by a text × (lines' ≡ lines ++ shown_line text)

-- a text is what the line of a stream's result says, the next after these earlier ones
abbrev pub IsTextSeen : Reading → List (List ℕ) → List ℕ → List (Answer Value) → Answer Value → List ℕ → Type 0
IsTextSeen r names stream earlier (answer.Value v) text = IsMessageText r names v text
IsTextSeen r names stream earlier a text = IsTextOf r stream earlier a text

-- texts are what the lines of results after earlier ones say, one for each, in order
abbrev pub AreTextsSeen : Reading → List (List ℕ) → List ℕ → List (Answer Value) → List (Answer Value)
    → List (List ℕ) → Type 0
AreTextsSeen r names stream earlier [] texts = texts ≡ []
AreTextsSeen r names stream earlier (a ∷ more) texts = (text : List ℕ) × (rest : List (List ℕ))
    × (texts ≡ text ∷ rest) × IsTextSeen r names stream earlier a text
    × AreTextsSeen r names stream (earlier ++ a ∷ []) more rest

-- One line was appended for each of these results, in order, and nothing else.
pub record SeesEach (r : Reading) (names : List (List ℕ)) (stream : List ℕ) (earlier more : List (Answer Value))
    (lines lines' : List ℕ) : Type 0 where
  -- what the lines say
  pub texts : List (List ℕ)
  pub are : AreTextsSeen r names stream earlier more texts
  -- they alone were appended
  pub appended : lines' ≡ lines ++ flat_map shown_line texts

-- One line was appended for each result that the end of a stream adds, and nothing else.
pub record SeesEnd (s : ℕ) (stream : List ℕ) (added : List (Answer Value)) (lines lines' : List ℕ) : Type 0 where
  -- what the lines say
  pub texts : List (List ℕ)
  pub are : AllZip (IsTextAt s stream) added texts
  -- they alone were appended
  pub appended : lines' ≡ lines ++ flat_map shown_line texts

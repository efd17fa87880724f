-- The sends of a text's lines, and what is said of lines that are refused.
use Rattle.std.specs.Prelude.{◌≡◌, ℕ, ◌+◌, Bool, true, false, List, [], ◌∷◌, ◌++◌, codes, decimal, IsUtf8, ◌⊎◌, ◌==◌, All}
use Rattle.std.specs.List.{AllZip, slice_split}
use Rattle.postcard_tree.specs.Tree.{IsTree, text_of}
use Rattle.link.specs.Run.{Send, completed, refused, broken, IsFramed}

-- no byte is the mark
abbrev pub LacksMark : ℕ → List ℕ → Type 0
LacksMark mark bytes = All (λ b. (b == mark) ≡ false) bytes

-- what stands between the marks, and before the first and after the last: at least one piece
abbrev pub pieces : ℕ → List ℕ → List (List ℕ)
pieces mark bytes = slice_split (λ b. b == mark) bytes

-- the pieces but for an empty one at the end
abbrev pub filled : List (List ℕ) → List (List ℕ)
filled [] = []
filled ([] ∷ []) = []
filled ((b ∷ bytes) ∷ []) = (b ∷ bytes) ∷ []
filled (piece ∷ next ∷ pieces) = piece ∷ filled (next ∷ pieces)

-- the lines of a text: what stands between line feeds, and what stands behind the last one where that isn't empty
abbrev pub lines_in : List ℕ → List (List ℕ)
lines_in text = filled (pieces 10 text)

-- What comes of a line: it is sent as a text, where it is text and its frame is of at most 1024 bytes; else it is refused.
abbrev pub IsSendOfLine : List ℕ → Send → Type 0
IsSendOfLine line (completed t) =
    (t ≡ text_of line) × IsUtf8 line × IsFramed IsTree 1024 (text_of line)
IsSendOfLine line refused = (IsUtf8 line → ⊥) ⊎ (IsFramed IsTree 1024 (text_of line) → ⊥)
IsSendOfLine line (broken t k) = ⊥

-- what comes of each of these lines
abbrev pub AreSendsOf : List (List ℕ) → List Send → Type 0
AreSendsOf = AllZip IsSendOfLine

-- whether a send went out whole
abbrev pub is_whole : Send → Bool
is_whole (completed t) = true
is_whole _ = false

-- what is said of a refused line, by its number
abbrev pub refusal : ℕ → List ℕ
refusal number = codes "line " ++ (decimal number ++ (codes ": refused" ++ 10 ∷ []))

-- what is said of the send of the line with this number
abbrev pub said_of : ℕ → Send → List ℕ
said_of number refused = refusal number
said_of number _ = []

-- what is said of the sends of lines, the first of which has this number
abbrev pub refusals : ℕ → List Send → List ℕ
refusals number [] = []
refusals number (x ∷ xs) = said_of number x ++ refusals (number + 1) xs

-- what came of a text's first lines, where the rest of it is still to be read
pub record Sent (text rest : List ℕ) (done : List Send) : Type 0 where
  pub seen : List (List ℕ)
  pub lines_are : lines_in text ≡ seen ++ lines_in rest
  pub are : AreSendsOf seen done

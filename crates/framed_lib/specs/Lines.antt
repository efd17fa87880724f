-- The lines that say what a stream holds.
use Rattle.std.specs.Prelude.{◌≡◌, ℕ, ◌==◌, Bool, true, false, List, [], ◌∷◌, ◌++◌, take, flat_map, codes, string_bytes, if◌then◌else◌, Option, Some}
use Rattle.std.specs.declared.string.String.{String}
use Rattle.postcard_tree.specs.Tree.{Tree, byte, sequence, Trees, end, part}
use Rattle.postcard_tree.specs.Reading.{TakesText, ReadsText}
use Rattle.postcard.specs.Frames.{Holds}
use Rattle.link.specs.Listening.{AnswersBeginProperly}
use Rattle.link.specs.Pushes.{IsLost}
use Rattle.link.specs.Stream.{Verdict, value, damaged, too_long, cut, HoldsExactly, Given, Answers}
use Rattle.link.specs.declared.receiver.Answer.{Answer}
use Rattle.link.specs.declared.receiver.Answer.TheVariants.{Value, Damaged, TooLong, Cut}
use Rattle.line_io.specs.declared.transfers.End.{End}
use Rattle.line_io.specs.declared.transfers.End.TheVariants.{Ended, NoMemory}

-- which texts a stretch holds: a front of its message spells one, or strictly it is the frame that sending makes of one
abbrev pub holds_text : Bool → List ℕ → Tree → Type 0
holds_text false = Holds TakesText
holds_text true = HoldsExactly TakesText

-- the text of a tree
abbrev pub reads_text : {A : Type 0} → Tree → String A → Type 0
reads_text t s = ReadsText t (string_bytes s)

-- The answers to all that stands before a value that found no memory: whatever comes behind that value, they are the first answers, and
-- not all.
pub record StandBeforeLoss (strict : Bool) (sentinel : ℕ) (stream : List ℕ)
    (verdicts : List Verdict) : Type 0 where
  -- the bytes before the push that lost the value
  pub front : List ℕ
  -- the bytes from there on
  pub rest : List ℕ
  -- how many of them through its sentinel
  pub used : ℕ
  -- these are all bytes
  pub parts : stream ≡ front ++ rest
  -- the results are those of the bytes before
  pub given : Given (holds_text strict) 1024 sentinel front verdicts
  -- the value could not be allocated
  pub lost : IsLost (holds_text strict) 1024 sentinel front rest used
  -- whatever follows, the results are the first ones, and not all
  pub begins : (more : List ℕ) → AnswersBeginProperly (holds_text strict) 1024 sentinel
      ((front ++ take used rest) ++ more) verdicts

-- The answers to a stream in stretches of at most 1024 bytes, which sentinels end, by how far it was read: all of them where that is
-- to its end, all before a value that found no memory where one did, and else those that are given before its end is known.
abbrev pub AreAnswers : Bool → ℕ → Option End → List ℕ → List Verdict → Type 0
AreAnswers strict sentinel (Some Ended) stream verdicts =
    Answers (holds_text strict) 1024 sentinel stream verdicts
AreAnswers strict sentinel (Some NoMemory) stream verdicts =
    StandBeforeLoss strict sentinel stream verdicts
AreAnswers strict sentinel _ stream verdicts =
    Given (holds_text strict) 1024 sentinel stream verdicts

-- the bytes of these parts, each of which is one
abbrev pub bytes_in : Trees → List ℕ
bytes_in end = []
bytes_in (part (byte b) ts) = b ∷ bytes_in ts
bytes_in (part _ ts) = bytes_in ts

-- the bytes of a text's tree
abbrev pub text_in : Tree → List ℕ
text_in (sequence ts) = bytes_in ts
text_in _ = []

-- a backslash as two, a line feed as a backslash and an n
abbrev pub escape : ℕ → List ℕ
escape b = if b == 92 then 92 ∷ 92 ∷ [] else (if b == 10 then 92 ∷ 110 ∷ [] else b ∷ [])

-- the line of a text
abbrev pub value_line : List ℕ → List ℕ
value_line text = codes "value " ++ (flat_map escape text ++ 10 ∷ [])

-- the line of an answer, with its line feed
abbrev pub line_of : Verdict → List ℕ
line_of (value t) = value_line (text_in t)
line_of damaged = codes "damaged" ++ 10 ∷ []
line_of too_long = codes "too long" ++ 10 ∷ []
line_of cut = codes "cut" ++ 10 ∷ []

-- the lines of these answers, one after another
abbrev pub lines_of : List Verdict → List ℕ
lines_of verdicts = flat_map line_of verdicts

-- whether an answer is a value
abbrev pub is_value : Verdict → Bool
is_value (value t) = true
is_value _ = false

-- the same of an answer that carries a text
abbrev pub answer_line : {A : Type 0} → Answer (String A) → List ℕ
answer_line (Value text) = value_line (string_bytes text)
answer_line Damaged = codes "damaged" ++ 10 ∷ []
answer_line TooLong = codes "too long" ++ 10 ∷ []
answer_line Cut = codes "cut" ++ 10 ∷ []

-- the lines of answers that carry texts, one after another
abbrev pub answer_lines : {A : Type 0} → List (Answer (String A)) → List ℕ
answer_lines answers = flat_map answer_line answers

-- whether such an answer is a value
abbrev pub has_value : {A : Type 0} → Answer (String A) → Bool
has_value (Value text) = true
has_value _ = false

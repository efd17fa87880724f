-- What the program writes, what it says, and its status.
use Rattle.std.specs.Prelude.{◌≡◌, ◌≢◌, ℕ, ◌<◌, ◌≤◌, Bool, true, false, List, [], ◌∷◌, ◌++◌, length, ◌⊎◌, codes, if◌then◌else◌, Ok, IsErr, Option, Some, None}
use Rattle.std.specs.List.{list_all}
use Rattle.hex.specs.Hex.{encode_lower, decode_of}
use Rattle.line_io.specs.Transfers.{Fate, whole, broken}
use Rattle.line_io.specs.declared.transfers.End.{End}
use Rattle.line_io.specs.declared.transfers.End.TheVariants.{Ended, ReadFault, NoMemory}
use Rattle.link.specs.Stream.{Verdict}
use Rattle.link.specs.Run.{Send, session_line}
use Rattle.framed_lib.specs.declared.arguments.Mode.{Mode}
use Rattle.framed_lib.specs.declared.arguments.Mode.TheVariants.{Pack, Unpack, Strict}
use Rattle.framed_lib.specs.Lines.{AreAnswers, lines_of, is_value}
use Rattle.framed_lib.specs.Sending.{lines_in, AreSendsOf, refusals, is_whole}

-- the text without the line feed at its end, where it has one
abbrev pub DropsLineFeed : List ℕ → List ℕ → Type 0
DropsLineFeed text digits =
    (text ≡ digits ++ 10 ∷ [])
    ⊎ ((text ≡ digits) × ((front : List ℕ) → text ≡ front ++ 10 ∷ [] → ⊥))

-- some of the framed bytes as they are written: as they are, or as hexadecimal digits
abbrev pub shown : Bool → List ℕ → List ℕ
shown false bytes = bytes
shown true bytes = encode_lower bytes

-- what is written behind all of them: a line feed behind digits
abbrev pub shown_end : Bool → List ℕ
shown_end false = []
shown_end true = 10 ∷ []

-- framed bytes as they are written
abbrev pub framed_text : Bool → List ℕ → List ℕ
framed_text hex bytes = shown hex bytes ++ shown_end hex

-- the bytes that a text is read as: those that it has, or those of its digits
abbrev pub StandsFor : Bool → List ℕ → List ℕ → Type 0
StandsFor false text stream = stream ≡ text
StandsFor true text stream =
    (digits : List ℕ) × DropsLineFeed text digits × (decode_of digits ≡ Ok stream)

-- the text should be hexadecimal, and isn't
abbrev pub IsNotHex : Bool → List ℕ → Type 0
IsNotHex false text = ⊥
IsNotHex true text = (digits : List ℕ) × DropsLineFeed text digits × IsErr (decode_of digits)

-- what is said of a text that isn't hexadecimal
abbrev pub bad_hex : List ℕ
bad_hex = codes "bad hex" ++ 10 ∷ []

-- what is said of a failed read
abbrev pub read_failed : List ℕ
read_failed = codes "read failed" ++ 10 ∷ []

-- what is said of a failed write
abbrev pub write_failed : List ℕ
write_failed = codes "write failed" ++ 10 ∷ []

-- what is said when out of memory
abbrev pub no_memory : List ℕ
no_memory = codes "no memory" ++ 10 ∷ []

-- One session over the text's lines is written, and the refused lines are said.
pub record Packs (hex : Bool) (sentinel : ℕ) (text out said : List ℕ) (status : ℕ) : Type 0 where
  -- the sends of the lines
  pub sends : List Send
  -- one of each line, in order
  pub are : AreSendsOf (lines_in text) sends
  -- their session is written
  pub out_is : out ≡ framed_text hex (session_line sentinel false sends)
  -- the refused ones are reported
  pub said_is : said ≡ refusals 1 sends
  -- 0, if none is refused
  pub status_is : status ≡ (if list_all is_whole sends then 0 else 1)

-- The lines of the stream's answers are written, and nothing is said.
pub record Unpacks (strict hex : Bool) (sentinel : ℕ)
    (text out said : List ℕ) (status : ℕ) : Type 0 where
  -- the framed bytes
  pub stream : List ℕ
  -- the text is read as them
  pub stands : StandsFor hex text stream
  -- their results
  pub verdicts : List Verdict
  -- which are all of the stream
  pub are : AreAnswers strict sentinel (Some Ended) stream verdicts
  -- their lines are written
  pub out_is : out ≡ lines_of verdicts
  -- nothing is reported
  pub said_is : said ≡ []
  -- 0, if all are values
  pub status_is : status ≡ (if list_all is_value verdicts then 0 else 1)

-- Text that isn't hexadecimal is said to be so, and nothing is written.
pub record RefusesHex (hex : Bool) (text out said : List ℕ) (status : ℕ) : Type 0 where
  -- the text isn't hexadecimal
  pub not_hex : IsNotHex hex text
  -- nothing is written
  pub out_is : out ≡ []
  -- `bad hex` is reported
  pub said_is : said ≡ bad_hex
  -- and the status is 2
  pub status_is : status ≡ 2

-- whether a mode reads frames, and then whether strictly
abbrev pub unpacking : Mode → Option Bool
unpacking Pack = None
unpacking Unpack = Some false
unpacking Strict = Some true

-- the program's text: what a run writes for what it reads, what it says, and its status
abbrev pub Program : Option Bool → Bool → ℕ → List ℕ → List ℕ → List ℕ → ℕ → Type 0
Program None hex sentinel text out said status = Packs hex sentinel text out said status
Program (Some strict) hex sentinel text out said status =
    Unpacks strict hex sentinel text out said status ⊎ RefusesHex hex text out said status

-- what is written for a stream that was read so far: the lines of its answers
abbrev pub WritesLines : Bool → ℕ → Option End → List ℕ → List ℕ → Type 0
WritesLines strict sentinel end stream out = (verdicts : List Verdict)
    × AreAnswers strict sentinel end stream verdicts × (out ≡ lines_of verdicts)

-- What is written for a text before all of it was read: nothing while lines are sent, or where a text is to be hexadecimal.
abbrev pub WritesSoFar : Option Bool → Bool → ℕ → Option End → List ℕ → List ℕ → Type 0
WritesSoFar None hex sentinel end text out = out ≡ []
WritesSoFar (Some strict) true sentinel end text out = out ≡ []
WritesSoFar (Some strict) false sentinel end text out = WritesLines strict sentinel end text out

-- The lines of the answers to all that stands before a value of a stream that found no memory, which was read as far as this front.
pub record WritesFirst (strict : Bool) (sentinel : ℕ) (stream out : List ℕ) : Type 0 where
  -- the bytes before the push that lost the value
  pub front : List ℕ
  -- the bytes from there on
  pub rest : List ℕ
  -- these are all bytes
  pub stream_is : stream ≡ front ++ rest
  -- the lines of the first results are written
  pub first : WritesLines strict sentinel (Some NoMemory) front out

-- What is written for hexadecimal text that was read to its end, where one of its values found no memory: the lines before that one.
abbrev pub LacksBehind : Option Bool → Bool → ℕ → List ℕ → List ℕ → Type 0
LacksBehind (Some strict) true sentinel text out =
    (stream : List ℕ) × StandsFor true text stream × WritesFirst strict sentinel stream out
LacksBehind _ _ sentinel text out = ⊥

-- What is written and said for a text before 'no memory' is said, by how far it was read: to where no memory was found for more, which is
-- some of it, or to its end.
abbrev pub RunsOutOfMemory : Option Bool → Bool → ℕ → Option End → List ℕ → List ℕ → List ℕ → Type 0
RunsOutOfMemory way hex sentinel (Some NoMemory) text out said =
    WritesSoFar way hex sentinel (Some NoMemory) text out × (said ≡ []) × (0 < length text)
RunsOutOfMemory way hex sentinel (Some Ended) text out said =
    LacksBehind way hex sentinel text out × (said ≡ [])
RunsOutOfMemory way hex sentinel _ text out said = ⊥

-- The refusals of the text's first lines, as many as were looked at.
pub record SaysFirst (text said : List ℕ) : Type 0 where
  -- the lines that were judged
  pub seen : List (List ℕ)
  -- the others
  pub later : List (List ℕ)
  -- these are all lines
  pub lines_are : lines_in text ≡ seen ++ later
  -- the sends of those judged
  pub sends : List Send
  -- one of each, in order
  pub are : AreSendsOf seen sends
  -- the refused ones are reported
  pub said_is : said ≡ refusals 1 sends

-- what is said of a text before anything is written
abbrev pub SaysBeforehand : Option Bool → Bool → List ℕ → List ℕ → Type 0
SaysBeforehand None hex text said = SaysFirst text said
SaysBeforehand (Some strict) hex text said = IsNotHex hex text × (said ≡ bad_hex)

-- What is to be written and said for a text, by how far it was read: to its end, to where memory was wanting, to a fault, or to where
-- the writer failed.
abbrev pub IsToWrite : Option Bool → Bool → ℕ → Option End → List ℕ → List ℕ → List ℕ → Type 0
IsToWrite way hex sentinel (Some Ended) text out said =
    ((status : ℕ) × Program way hex sentinel text out said status)
    ⊎ RunsOutOfMemory way hex sentinel (Some Ended) text out said
IsToWrite way hex sentinel end text out said =
    WritesSoFar way hex sentinel end text out × (said ≡ [])

-- A line is said behind what was said before.
abbrev pub Behind : List ℕ → (List ℕ → Type 0) → List ℕ → Type 0
Behind line says said = says (said ++ line)

-- what is due of a text that was read so far: what is written and said
abbrev pub Due : Type 1
Due = Option End → List ℕ → List ℕ → List ℕ → Type 0

module _ (way : Option Bool) (hex : Bool) (sentinel : ℕ)
    (reading : Option End → List ℕ → Type 0) (writing : Fate → List ℕ → Type 0) where
  -- A text was read so far, this was due for it, and so it went out.
  pub record CarriesOut (due : Due) (fate : Fate) (says : List ℕ → Type 0) : Type 0 where
    -- how the reading ended
    pub end : Option End
    -- the bytes that were read
    pub text : List ℕ
    -- what was to be written
    pub out : List ℕ
    -- what was to be reported
    pub said : List ℕ
    -- this was due
    pub is : due end text out said
    -- the reader gave the text
    pub read : reading end text
    -- the writer took the output, or a proper prefix of it
    pub wrote : writing fate out
    -- and this was reported
    pub told : says said

  -- The text was read to its end, and the program's text went out. No device failed.
  abbrev pub RunsToItsEnd : ℕ → (List ℕ → Type 0) → Type 0
  RunsToItsEnd status = CarriesOut (λ end text out said.
      (end ≡ Some Ended) × Program way hex sentinel text out said status) whole

  -- A read failed: what the text so far gives was written.
  abbrev pub ReadFails : (List ℕ → Type 0) → Type 0
  ReadFails = CarriesOut (λ end text out said.
      (end ≡ Some ReadFault) × IsToWrite way hex sentinel end text out said) whole

  -- A write failed, and no read before it: the writer has a beginning.
  abbrev pub WriteFails : (List ℕ → Type 0) → Type 0
  WriteFails = CarriesOut (λ end text out said.
      (end ≢ Some ReadFault) × IsToWrite way hex sentinel end text out said) broken

  -- Memory ran out: what was answered by then went out.
  abbrev pub LacksMemory : (List ℕ → Type 0) → Type 0
  LacksMemory = CarriesOut (RunsOutOfMemory way hex sentinel) whole

  -- Standard error failed while the refusals or 'bad hex' were said: nothing was written.
  abbrev pub SaysInVain : (List ℕ → Type 0) → Type 0
  SaysInVain = CarriesOut (λ end text out said.
      (end ≡ Some Ended) × (out ≡ []) × SaysBeforehand way hex text said) whole

  -- a device failed, but for standard error while those were said, and the last line is said
  abbrev pub DeviceFails : (List ℕ → Type 0) → Type 0
  DeviceFails says = ReadFails (Behind read_failed says) ⊎ WriteFails (Behind write_failed says)

  -- Standard error failed, there or while the last line was said: it has a beginning of what was to
  -- be said.
  abbrev pub SayingFails : (List ℕ → Type 0) → Type 0
  SayingFails says = SaysInVain says ⊎ (DeviceFails says ⊎ LacksMemory (Behind no_memory says))

  -- How a run ends, by its status.
  pub record RunEnds (status : ℕ) (saying : Fate → List ℕ → Type 0) : Type 0 where
    -- the text was read to its end, and all that the program writes and says for it went out
    pub finished : status < 3 → RunsToItsEnd status (saying whole)
    -- a device failed
    pub failed : status ≡ 3 → DeviceFails (saying whole) ⊎ SayingFails (saying broken)
    -- memory ran out, and no device failed: the lines of all answers before the value that found none went out
    pub memory : status ≡ 4 → LacksMemory (Behind no_memory (saying whole))
    -- there are no other statuses
    pub range : status ≤ 4

-- What the lines of a text became: each a frame or a refusal.
use Rattle.std.specs.Prelude.{◌≡◌, ◌≢◌, ◌⊎◌, ℕ, ◌+◌, ◌-◌, ◌^◌, ◌<◌, ◌≤◌, ◌&&◌, Bool, true, false, min, List, [], ◌∷◌, ◌++◌, length, slice_index, All, flat_map}
use Rattle.cobs.specs.Sentinel.{frame_for}
use Rattle.postcard_tree.specs.Tree.{IsTree}
use Rattle.postcard_tree.specs.Spelling.{short}
use Rattle.schema_table.specs.declared.value.Value.{Value}
use Rattle.schema_table.specs.Values.{tree_of}
use Rattle.wire_json.specs.InRange.{Fits}
use Rattle.wire_json.specs.Meant.{MeansText}
use Rattle.wire_json.specs.Parsed.{IsOfType}
use Rattle.wire_json.specs.Refused.{NoneOf, refusal_text}
use Rattle.wire_lib.specs.Summed.{message_with}
use Rattle.wire_lib.specs.declared.send.Sending.{Sending}
use Rattle.wire_lib.specs.declared.send.FramesOfLines.{FramesOfLines}

-- The frame of the value of the type that a line means, followed by its sentinel: the shortest of its message, of at most 65536
-- bytes before the sentinel. The message is followed by its checksum if one is asked for.
pub record IsFrameToSend (s : Sending) (line frame : List ℕ) : Type 0 where
  -- the value
  pub value : Value
  -- the line means it
  pub means : MeansText s.schema.now s.depth s.place line value
  -- it is of the type
  pub of_type : IsOfType s.depth s.schema.now.nodes.items s.place value
  -- its tree is one that can be encoded
  pub is_tree : IsTree (tree_of value)
  -- the bytes are its shortest frame and the sentinel
  pub framed : frame ≡ frame_for s.sentinel (message_with s.summed (short (tree_of value))) ++ s.sentinel ∷ []
  -- the limit
  pub within : length frame ≤ 65536 + 1

-- What a line becomes: the bytes of its frame, or of the line that refuses it.
pub data LineMade : Type 0 where
  framed : List ℕ → LineMade
  refused : List ℕ → LineMade

-- a line means nothing of the type
abbrev pub MeansNothing : Sending → List ℕ → Type 0
MeansNothing s line = NoneOf (Fits s.schema.now s.depth s.place) (MeansText s.schema.now s.depth s.place line)

-- a line means a value of the type whose frame is past the limit
abbrev pub IsTooLong : Sending → List ℕ → Type 0
IsTooLong s line = (v : Value) × MeansText s.schema.now s.depth s.place line v × IsOfType s.depth s.schema.now.nodes.items s.place v
    × (65536 < length (frame_for s.sentinel (message_with s.summed (short (tree_of v)))))

-- a line to refuse
abbrev pub IsUnsendable : Sending → List ℕ → Type 0
IsUnsendable s line = MeansNothing s line ⊎ IsTooLong s line

-- The text of the line of that number became this: the frame of the value that it means, or a refusal with that number.
abbrev pub IsTextMade : Sending → ℕ → List ℕ → LineMade → Type 0
IsTextMade s number text (framed bytes) = IsFrameToSend s text bytes
IsTextMade s number text (refused bytes) = IsUnsendable s text × ((why : List ℕ) × (bytes ≡ refusal_text number why))

-- a line is this text, with or without a carriage return at its end
abbrev pub IsLineWith : List ℕ → List ℕ → Type 0
IsLineWith text line = (line ≡ text) ⊎ (line ≡ text ++ 13 ∷ [])

-- the line of that number became this, by its text
abbrev pub IsLineMade : Sending → ℕ → List ℕ → LineMade → Type 0
IsLineMade s number line m = (text : List ℕ) × IsLineWith text line × IsTextMade s number text m

-- whether it is a frame
abbrev pub is_framed : LineMade → Bool
is_framed (framed bytes) = true
is_framed (refused bytes) = false

-- its bytes among the frames
abbrev pub framed_bytes : LineMade → List ℕ
framed_bytes (framed bytes) = bytes
framed_bytes (refused bytes) = []

-- its bytes among the refusals
abbrev pub refused_bytes : LineMade → List ℕ
refused_bytes (framed bytes) = []
refused_bytes (refused bytes) = bytes

-- whether all are frames
abbrev pub are_all_framed : List LineMade → Bool
are_all_framed [] = true
are_all_framed (m ∷ ms) = is_framed m && are_all_framed ms

-- the number of a line after `before` others; at most the greatest of 64 bits
abbrev pub number_behind : ℕ → ℕ
number_behind before = min (before + 1) (2 ^ 64 - 1)

-- these lines, after `before` others, became these, one each
abbrev pub AreLinesMade : Sending → ℕ → List (List ℕ) → List LineMade → Type 0
AreLinesMade s before [] [] = Unit {0}
AreLinesMade s before (line ∷ lines) (m ∷ ms) = IsLineMade s (number_behind before) line m × AreLinesMade s (before + 1) lines ms
AreLinesMade s before _ _ = ⊥

-- the last line, if one is begun
abbrev pub last_line : List ℕ → List (List ℕ)
last_line [] = []
last_line (x ∷ xs) = (x ∷ xs) ∷ []

-- no byte is a line feed
abbrev pub LacksFeed : List ℕ → Type 0
LacksFeed bytes = (k : ℕ) → k < length bytes → slice_index bytes k ≢ 10

-- a line with the line feed that ends it
abbrev pub with_feed : List ℕ → List ℕ
with_feed line = line ++ 10 ∷ []

-- A text of lines, each ended by a line feed, and the begun line after them.
pub record IsTextOf (text : List ℕ) (lines : List (List ℕ)) (begun : List ℕ) : Type 0 where
  -- the parts of the text
  pub whole : text ≡ flat_map with_feed lines ++ begun
  -- no line has a line feed inside
  pub apart : All LacksFeed lines
  -- nor has the begun one
  pub begun_apart : LacksFeed begun

-- What the lines of a text became, with the begun line, the number of lines, and whether all became frames.
pub record HasMadeBy (s : Sending) (begun : List ℕ) (number : ℕ) (good : Bool)
    (text : List ℕ) (made : List LineMade) : Type 0 where
  -- the lines
  pub lines : List (List ℕ)
  -- they are the text's
  pub parts : IsTextOf text lines begun
  -- each became its frame, or its refusal
  pub are : AreLinesMade s 0 lines made
  -- the number of lines, at most the greatest of 64 bits
  pub counted : number ≡ min (length made) (2 ^ 64 - 1)
  -- whether all became frames
  pub good_is : good ≡ are_all_framed made

-- how lines are sent
abbrev pub sending_of : FramesOfLines → Sending
sending_of r = r.sending

-- the begun line
abbrev pub begun_line : FramesOfLines → List ℕ
begun_line r = r.line.items

-- The lines of this text that a line feed ended became these, one each.
abbrev pub HasMade : FramesOfLines → List ℕ → List LineMade → Type 0
HasMade r = HasMadeBy r.sending r.line.items r.number r.is_good

-- The bytes of what lines became were appended: a frame's to the frames alone, a refusal's to the refusals alone.
pub record AppendedApart (frames frames' wrongs wrongs' : List ℕ) (made : List LineMade) : Type 0 where
  -- to the frames
  pub to_frames : frames' ≡ frames ++ flat_map framed_bytes made
  -- to the refusals
  pub to_wrongs : wrongs' ≡ wrongs ++ flat_map refused_bytes made

-- The lines of this text that a line feed ended became these, one each, whatever line is begun.
abbrev pub HaveBecome : Sending → List ℕ → List LineMade → Type 0
HaveBecome s text made = (begun : List ℕ) × (number : ℕ) × (good : Bool) × HasMadeBy s begun number good text made

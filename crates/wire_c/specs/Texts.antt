-- The frames of lines that are written by a call that stands alone, and its failures.
use Rattle.std.specs.Prelude.{◌≡◌, ℕ, Bool, true, false, List, [], ◌++◌, length, IsUtf8, codes, string_bytes}
use Rattle.wire_lib.specs.declared.send.Sending.{Sending}
use Rattle.wire_lib.specs.Sent.{LineMade, AreLinesMade, last_line, HasMadeBy, AppendedApart, are_all_framed}
use Rattle.wire_c.specs.declared.terms.WireTerms.{WireTerms}
use Rattle.wire_c.specs.declared.types.WireFailure.{WireFailure}
use Rattle.wire_c.specs.declared.types.WireFailure.TheVariants as failure
use Rattle.wire_c.specs.Flags.{is_set}
use Rattle.wire_c.specs.Status.{wrong, refused, no_memory}

-- What was made of a text: of each line that a line feed ends, and of what follows the last one.
pub record MakesFrames (s : Sending) (text frames wrongs : List ℕ) (good : Bool) : Type 0 where
  -- what is begun behind the last line feed
  pub begun : List ℕ
  -- how many lines were ended
  pub number : ℕ
  -- whether all of these became frames
  pub good_before : Bool
  -- what the ended lines became
  pub made : List LineMade
  -- one each
  pub has_made : HasMadeBy s begun number good_before text made
  -- what the last line became, if one is begun
  pub last : List LineMade
  pub are : AreLinesMade s (length made) (last_line begun) last
  -- frames and refusals of the ended lines
  pub frames_before : List ℕ
  pub wrongs_before : List ℕ
  pub ended : AppendedApart [] frames_before [] wrongs_before made
  -- and those of the last line behind them
  pub at_end : AppendedApart frames_before frames wrongs_before wrongs last
  -- whether all became frames
  pub all_good : good ≡ are_all_framed (made ++ last)

-- The frames of a text's lines, all of them, as these terms say, for some table of types: that of the declarations.
pub record WritesFrames (terms : WireTerms) (text frames : List ℕ) : Type 0 where
  -- as what lines are sent
  pub sending : Sending
  -- by this sentinel
  pub sentinel : sending.sentinel ≡ terms.sentinel
  -- with a checksum or not
  pub summed : sending.summed ≡ is_set terms.crc32
  -- with at most so many nested nodes
  pub depth : sending.depth ≡ 60
  -- no line is refused
  pub wrongs : List ℕ
  pub frames_are : MakesFrames sending text frames wrongs true

-- What is said of a text's lines that are no values of the type, as these terms say, for some table of types: that of the
-- declarations. Some line is refused.
pub record RefusesLines (terms : WireTerms) (text wrongs : List ℕ) : Type 0 where
  -- as what lines are sent
  pub sending : Sending
  -- by this sentinel
  pub sentinel : sending.sentinel ≡ terms.sentinel
  -- with a checksum or not
  pub summed : sending.summed ≡ is_set terms.crc32
  -- with at most so many nested nodes
  pub depth : sending.depth ≡ 60
  -- the frames of the other lines, which nobody gets
  pub frames : List ℕ
  pub wrongs_are : MakesFrames sending text frames wrongs false

-- the text of a failure: its lines, or none if out of memory
abbrev pub failure_text : WireFailure → List ℕ
failure_text (failure.Wrong why) = string_bytes why
failure_text (failure.Refused why) = string_bytes why
failure_text failure.OutOfMemory = []

-- the number of a failure
abbrev pub failure_number : WireFailure → ℕ
failure_number (failure.Wrong why) = wrong
failure_number (failure.Refused why) = refused
failure_number failure.OutOfMemory = no_memory

-- Why declarations or the words of a type can't be taken: that one of them is no text, the declarations first; else what is wrong
-- with the type, of which nothing is stated.
pub record IsWhyWrong (declarations type_words text : List ℕ) : Type 0 where
  -- the declarations are no text
  pub no_text : (IsUtf8 declarations → ⊥) → text ≡ codes "the text of the declarations isn't UTF-8\n"
  -- they are one, and the words are none
  pub no_words : IsUtf8 declarations → (IsUtf8 type_words → ⊥) → text ≡ codes "the type isn't UTF-8\n"

-- a failure that says of this that it is no text, if memory suffices
abbrev pub SaysNoText : List ℕ → WireFailure → Type 0
SaysNoText what (failure.Wrong why) = string_bytes why ≡ what ++ codes " isn't UTF-8\n"
SaysNoText what _ = Unit {0}

-- if the failure is of the declarations or the type, it says why
abbrev pub IsOfDeclarations : List ℕ → List ℕ → WireFailure → Type 0
IsOfDeclarations declarations type_words (failure.Wrong why) = IsWhyWrong declarations type_words (string_bytes why)
IsOfDeclarations declarations type_words _ = Unit {0}

-- the failure is no refusal of lines
abbrev pub IsUnrefused : WireFailure → Type 0
IsUnrefused (failure.Refused why) = ⊥
IsUnrefused _ = Unit {0}

-- if the failure is a refusal of lines, it says what is wrong with those of this text
abbrev pub IsOfLines : WireTerms → List ℕ → WireFailure → Type 0
IsOfLines terms text (failure.Refused why) = RefusesLines terms text (string_bytes why)
IsOfLines terms text _ = Unit {0}

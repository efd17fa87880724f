-- What was handed on, and what was written, before the last read.
use Rattle.std.specs.Prelude.{◌≡◌, ℕ, ◌⊎◌, Bool, false, List, [], ◌++◌, Option, None, Some}
use Rattle.std.specs.declared.string.String.{String}
use Rattle.line_io.specs.Device.{LineState, Wrote, Gave}
use Rattle.line_io.specs.Transfers.{whole}
use Rattle.line_io.specs.declared.transfers.End.{End}
use Rattle.line_io.specs.declared.transfers.End.TheVariants.{NoMemory}
use Rattle.link.specs.Each.{Handed, HasReadNow, Hearing, IsReceivedNow, LastRead}
use Rattle.link.specs.Listening.{EndsAtLoss, HasGiven}
use Rattle.link.specs.Stream.{Verdict, Given}
use Rattle.link.specs.declared.receiver.Answer.{Answer}
use Rattle.framed_lib.specs.Lines.{holds_text, reads_text, lines_of}
use Rattle.framed_lib.specs.Output.{WritingByFew}

-- there was no read
abbrev pub MadeNoRead : LineState → LineState → Option End → List ℕ → Type 0
MadeNoRead line now end bytes = (end ≡ None) × (now ≡ line) × (bytes ≡ [])

-- The last read was one call of at most 1024 bytes, and this is so of the bytes before it.
pub record BeforeLastRead (line now : LineState) (end : Option End) (bytes : List ℕ)
    (So : List ℕ → Type 0) : Type 0 where
  -- the bytes of all reads but the last
  pub before : List ℕ
  -- the bytes of the last read
  pub last : List ℕ
  -- these are all bytes
  pub parts : bytes ≡ before ++ last
  -- the last read is one call
  pub read : LastRead 1024 line now end before last
  -- and this is so
  pub so : So before

-- A hearer was asked when it had been handed the first of these results, of which this is so: it hadn't had enough, and put nothing off.
pub record WasAskedFor {H V : Type 0} (h : Hearing H V) (old new : H) (answers : List (Answer V))
    (So : List (Answer V) → Type 0) : Type 0 where
  -- the results that it had been handed
  pub early : List (Answer V)
  -- the results that came later
  pub later : List (Answer V)
  -- these are all results
  pub said : answers ≡ early ++ later
  -- this is so of the early ones
  pub so : So early
  -- the hearer when it was asked
  pub asked : H
  -- it had the early results
  pub heard : h.hears old early asked
  -- it hadn't had enough
  pub wants : h.enough asked ≡ false
  -- and had nothing left to flush, if it had nothing at first
  pub settles : h.settled old → h.settled asked
  -- the later results made of it what it is now
  pub hears_on : h.hears asked later new

-- The results of all that a reader gave were handed on as texts, until the reading ended so. (The pairs are where the reader is, and
-- the hearer.)
pub record HandsTexts {H A : Type 0} (h : Hearing H (String A)) (strict : Bool) (sentinel : ℕ)
    (old new : LineState × H) (end : Option End) : Type 0 where
  -- the bytes that the reads brought
  pub bytes : List ℕ
  -- the reader gave them, and the reading ended so
  pub read : HasReadNow old.0 new.0 end bytes
  -- the results of these bytes were handed on; out of memory, those before the first value that found none
  pub hands : Handed h.hears old.1 new.1 (λ answers.
      IsReceivedNow (holds_text strict) reads_text 1024 sentinel end answers bytes
      × (end ≡ Some NoMemory
      → EndsAtLoss (holds_text strict) reads_text 1024 sentinel answers bytes))
  -- Before each read the hearer was asked, and had the results of all bytes before: there was no read, or it was so before the last.
  pub asked : (MadeNoRead old.0 new.0 end bytes × (new.1 ≡ old.1))
      ⊎ BeforeLastRead old.0 new.0 end bytes (λ before. WasAskedFor h old.1 new.1 hands.answers
      (λ early. HasGiven (holds_text strict) reads_text 1024 sentinel early before))

-- A writer had taken the lines of the results of these bytes; the rest was written after them.
pub record HadWritten {W : Type 0} (line : W → LineState) (strict : Bool) (sentinel : ℕ)
    (old new : W) (before : List ℕ) : Type 0 where
  -- the results of the bytes
  pub verdicts : List Verdict
  -- no result of them is missing
  pub given : Given (holds_text strict) 1024 sentinel before verdicts
  -- the writer then
  pub then : W
  -- it had their lines
  pub went : WritingByFew (line old) (line then) whole (lines_of verdicts)
  -- what was written later
  pub more : List ℕ
  -- and it was written after them
  pub on : Wrote (line then) (line new) more

-- The results of all that a reader gave were written live. (The pairs are where the reader is, and the writer.)
pub record AnswersLive {W : Type 0} (line : W → LineState) (strict : Bool) (sentinel : ℕ)
    (old new : LineState × W) : Type 0 where
  -- how the reading ended
  pub end : Option End
  -- the bytes that the reads brought
  pub bytes : List ℕ
  -- the reader gave them
  pub gave : Gave old.0 new.0 bytes
  -- Before each read the lines of the results of all bytes before had gone out: there was no read, or it was so before the last.
  pub written : MadeNoRead old.0 new.0 end bytes
      ⊎ BeforeLastRead old.0 new.0 end bytes (HadWritten line strict sentinel old.1 new.1)

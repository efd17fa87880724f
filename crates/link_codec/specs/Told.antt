-- What is told of what codecs write and read.
use Rattle.std.specs.Prelude.{◌≡◌, ℕ, false, List, All, IsOk, Option, Some, None, Result, map}
use Rattle.std.specs.List.{AllZip}
use Rattle.std.specs.declared.io.Error.{Error}
use Rattle.postcard_tree.specs.Tree.{Tree, IsTree}
use Rattle.link.specs.Run.{Send, completed, IsRun, IsSession, line, told, session_line}
use Rattle.link.specs.Pushes.{Matches}
use Rattle.link.specs.declared.receiver.Answer.{Answer}
use Rattle.link.specs.declared.receiver.Answer.TheVariants.{Value}
use Rattle.link_laws.specs.Values.{AlikeAnswers}
use Rattle.link_codec.specs.declared.encoder.LinkEncoder.{LinkEncoder}
use Rattle.link_codec.specs.declared.error.DecodeError.{DecodeError}
use Rattle.link_codec.specs.Gives.{GivenBy}
use Rattle.link_codec.specs.Encoding.{encoder_clean, encoder_sentinel, Encodes}
use Rattle.link_codec.specs.Whole.{answers_of, Begins, IsOfReader}
use Rattle.tokio.specs.Io.Moved.{Passes}
use Rattle.tokio.specs.Io.Steps.{Yields}
use Rattle.tokio_util.specs.Codec.Next.{Gives}
use Rattle.tokio_util.specs.Codec.Framed.{Reads, PollsFrame}
use Rattle.tokio_util.specs.Codec.Whole.{EndIsFinal, EncodesAll}

-- all that the reader gives up to its end are these bytes
abbrev pub GivesToItsEnd : {R : Type 0} → Passes R → (R → Type 0) → R → List ℕ → Type 0
GivesToItsEnd {R} gave is_at_end reader stream =
    (bytes : List ℕ) (last : R) → gave reader bytes last → is_at_end last → bytes ≡ stream

-- a completed send of each value
abbrev pub SendsEach : {V : Type 0} → (V → Option Tree) → (V → Type 0) → List V → List Send → Type 0
SendsEach writes valid =
    AllZip (λ v x. (t : Tree) × (writes v ≡ Some t) × valid v × (x ≡ completed t))

-- the encoder wrote these bytes for these values, one after another
abbrev pub WroteValues : {V : Type 0} {N : ℕ} → LinkEncoder N → (V → Option Tree) → (V → Type 0)
    → List V → List ℕ → LinkEncoder N → Type 0
WroteValues e writes valid values bytes later =
    EncodesAll (λ s v frame t. Encodes s (writes v) (valid v) frame t) e values bytes later

-- the bytes are those of a session of these values from where the encoder stands
abbrev pub IsSessionOf : {V : Type 0} {N : ℕ} → LinkEncoder N
    → (V → Option Tree) → (V → Type 0) → List V → Type 0
IsSessionOf {V} {N} e writes valid values =
    (bytes : List ℕ) (later : LinkEncoder N) → WroteValues e writes valid values bytes later
    → (sends : List Send) × SendsEach writes valid values sends
    × IsSession IsTree N (encoder_sentinel e) (encoder_clean e) sends
    × (bytes ≡ session_line (encoder_sentinel e) (encoder_clean e) sends)

module _ {R C V : Type 0} (gave : Passes R) (is_at_end : R → Type 0) (fails : R → Error → Type 0) (IsGiven : GivenBy C) (gives : Gives C (Answer V) DecodeError) where
  -- Polled up to its end, a framed reader over a reader whose end is final and that brings this stream yielded these items, of which
  -- none is an error. It had begun with a decoder that was given nothing.
  pub record YieldsOf (limit s : ℕ) (f : Reads R C) (stream : List ℕ)
      (items : List (Result (Answer V) DecodeError)) : Type 0 where
    pub final : EndIsFinal gave is_at_end
    pub begins : Begins (λ d. d) IsGiven limit s f
    pub oks : All IsOk items
    pub yields : Yields (PollsFrame gave is_at_end fails gives IsOfReader) f items None
    pub brings : GivesToItsEnd gave is_at_end f.io stream

  -- From a reader that brings the line of a run, the items up to the end, where none is an error, are what is to be told of the run.
  abbrev pub IsToldWhole : (Tree → Type 0) → (Tree → V → Type 0) → Reads R C → Type 0
  IsToldWhole takes reads f =
      (limit s : ℕ) (items : List (Result (Answer V) DecodeError)) (run : List (List Send))
      → IsRun takes limit s run → YieldsOf limit s f (line s run) items
      → AllZip (Matches reads) (answers_of items) (told s run)

  -- From a reader that brings what a new encoder wrote for some values, these are values alike those.
  abbrev pub IsCarriedWhole : {N : ℕ} → (V → Option Tree) → (V → Type 0)
      → (V → V → Type 0) → LinkEncoder N → List V → ℕ → Reads R C → Type 0
  IsCarriedWhole {N} writes valid alike e values limit f =
      (bytes : List ℕ) (later : LinkEncoder N) (items : List (Result (Answer V) DecodeError))
      → encoder_clean e ≡ false → WroteValues e writes valid values bytes later
      → YieldsOf limit (encoder_sentinel e) f bytes items
      → AllZip (AlikeAnswers alike) (map Value values) (answers_of items)

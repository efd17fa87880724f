-- What a framed reader of answers yields as a whole.
use Rattle.std.specs.Prelude.{◌≡◌, ℕ, ◌⊎◌, Bool, List, [], ◌∷◌, ◌++◌, All, IsOk, Option, None, Result, Ok, Err}
use Rattle.std.specs.declared.io.Error.{Error}
use Rattle.postcard_tree.specs.Tree.{Tree}
use Rattle.link.specs.Judged.{Judging}
use Rattle.link.specs.Listening.{HasGiven, HasAnswered}
use Rattle.link.specs.declared.receiver.Answer.{Answer}
use Rattle.link_codec.specs.declared.error.DecodeError.{DecodeError}
use Rattle.link_codec.specs.declared.error.DecodeError.TheVariants.{Io}
use Rattle.link_codec.specs.Gives.{GivenBy}
use Rattle.tokio.specs.Io.Moved.{Passes}
use Rattle.tokio.specs.Io.Steps.{Yields}
use Rattle.tokio_util.specs.Codec.Next.{Gives}
use Rattle.tokio_util.specs.Codec.Framing.{unframed, IsReading}
use Rattle.tokio_util.specs.Codec.Framed.{Reads, PollsFrame}
use Rattle.tokio_util.specs.Codec.Whole.{EndIsFinal}

-- the answers among the items
abbrev pub answers_of : {V : Type 0} → List (Result (Answer V) DecodeError) → List (Answer V)
answers_of [] = []
answers_of (Ok a ∷ items) = a ∷ answers_of items
answers_of (Err e ∷ items) = answers_of items

-- an error of the reader as the stream gives it
abbrev pub IsOfReader : Error → DecodeError → Type 0
IsOfReader e r = r ≡ Io e

-- a framed reader that hasn't been polled, whose decoder was given nothing, under this limit and with this sentinel
pub record Begins {R D C : Type 0} (decoder_in : D → C) (IsGiven : GivenBy C)
    (limit s : ℕ) (f : Reads R D) : Type 0 where
  pub reading : IsReading f.frame
  pub none : unframed f.frame ≡ []
  pub given : IsGiven limit s (decoder_in f.codec) []

-- these are the answers given of a front of the stream, or all answers of the whole stream
abbrev pub IsHeardOf : {V : Type 0} → (List ℕ → Tree → Type 0) → (Tree → V → Type 0)
    → ℕ → ℕ → List (Answer V) → List ℕ → Type 0
IsHeardOf holds reads limit s answers stream = ((front : List ℕ) × (rest : List ℕ)
    × (stream ≡ front ++ rest) × HasGiven holds reads limit s answers front)
    ⊎ HasAnswered holds reads limit s answers stream

-- before its first error, and before any other item, a list of items of the stream has the answers given of a front of it, or all
-- answers of one
abbrev pub IsHeardSoFar : {V : Type 0} → (List ℕ → Tree → Type 0) → (Tree → V → Type 0)
    → ℕ → ℕ → List (Result (Answer V) DecodeError) → List ℕ → Type 0
IsHeardSoFar {V} holds reads limit s items stream =
    (front behind : List (Result (Answer V) DecodeError)) → items ≡ front ++ behind → All IsOk front
    → (bytes : List ℕ) × (rest : List ℕ) × (stream ≡ bytes ++ rest)
    × IsHeardOf holds reads limit s (answers_of front) bytes

module _ {R D C V : Type 0} (gave : Passes R) (is_at_end : R → Type 0) (fails : R → Error → Type 0) (decoder_in : D → C) (IsGiven : GivenBy C) (gives : Gives D (Answer V) DecodeError) (judging : C → Judging V) (f : Reads R D) where
  -- From a reader whose end is final, items that are no errors, up to the end, are the answers of all the bytes that it gave.
  abbrev pub IsAnsweredWhole : Type 0
  IsAnsweredWhole =
      (limit s : ℕ) (items : List (Result (Answer V) DecodeError)) → EndIsFinal gave is_at_end
      → Begins decoder_in IsGiven limit s f → All IsOk items
      → Yields (PollsFrame gave is_at_end fails gives IsOfReader) f items None
      → (bytes : List ℕ) × (last : R) × gave f.io bytes last × is_at_end last
      × HasAnswered (judging (decoder_in f.codec)).holds (judging (decoder_in f.codec)).reads
      limit s (answers_of items) bytes

  -- From a reader whose end is final, the items before an error, or before any other item or the end, are answers given of a front of
  -- the bytes that it gave, or all their answers.
  abbrev pub IsAnsweredSoFar : Type 0
  IsAnsweredSoFar =
      (limit s : ℕ) (items : List (Result (Answer V) DecodeError))
      (next : Option (Result (Answer V) DecodeError))
      → EndIsFinal gave is_at_end → Begins decoder_in IsGiven limit s f → All IsOk items
      → Yields (PollsFrame gave is_at_end fails gives IsOfReader) f items next
      → (bytes : List ℕ) × (last : R) × gave f.io bytes last
      × IsHeardOf (judging (decoder_in f.codec)).holds (judging (decoder_in f.codec)).reads
      limit s (answers_of items) bytes

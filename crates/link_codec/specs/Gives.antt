-- What a decoder of answers gives, by the definitions of link.
use Rattle.std.specs.Prelude.{◌≡◌, ℕ, ◌≤◌, Bool, true, List, [], ◌++◌, length, take, drop, Option, Some, None, Result, Ok, Err}
use Rattle.postcard_tree.specs.Tree.{Tree}
use Rattle.link.specs.Stream.{begun}
use Rattle.link.specs.Pushes.{IsPush, IsLost, Answered, finished}
use Rattle.link.specs.declared.receiver.Answer.{Answer}
use Rattle.link_codec.specs.declared.error.DecodeError.{DecodeError}
use Rattle.link_codec.specs.declared.error.DecodeError.TheVariants.{NoMemory, Io}
use Rattle.tokio_util.specs.Codec.Next.{Gives, decoded, partial, at_end}

-- Of a decoder that was given a stream, under a limit and with a sentinel; `IsGiven` says so.
abbrev pub GivenBy : Type 0 → Type 1
GivenBy C = (limit s : ℕ) → C → List ℕ → Type 0

-- the first bytes of xs were taken, in so many
pub record Takes {C : Type 0} (IsGiven : GivenBy C) (d : C) (xs : List ℕ)
    (used : ℕ) (t : C) (ys : List ℕ) : Type 0 where
  pub within : used ≤ length xs
  pub rest : ys ≡ drop used xs
  pub given : (limit s : ℕ) (stream : List ℕ) → IsGiven limit s d stream
      → IsGiven limit s t (stream ++ take used xs)

module _ {C V : Type 0} (IsGiven : GivenBy C) (holds : List ℕ → Tree → Type 0) (reads : Tree → V → Type 0) (growing : Bool) where
  -- what the taken bytes add to the answers of the stream so far
  abbrev pub AddsAnswer : C → List ℕ → ℕ → Result (Answer V) DecodeError → Type 0
  AddsAnswer d xs used (Ok a) = (limit s : ℕ) (stream : List ℕ) → IsGiven limit s d stream
      → Answered holds reads limit s stream xs used (Ok (Some a))
  AddsAnswer d xs used (Err NoMemory) = (growing ≡ true)
      × ((limit s : ℕ) (stream : List ℕ) → IsGiven limit s d stream
      → IsLost holds limit s stream xs used)
  AddsAnswer d xs used (Err (Io e)) = ⊥

  -- they add nothing
  abbrev pub AddsNothing : C → List ℕ → Type 0
  AddsNothing d xs = (limit s : ℕ) (stream : List ℕ) → IsGiven limit s d stream
      → IsPush holds limit s stream xs (length xs) None

  -- the end of the stream adds Cut or nothing, and the decoder begins anew
  pub record Ends (d : C) (xs : List ℕ)
      (r : Result (Option (Answer V)) DecodeError) (t : C) (ys : List ℕ) : Type 0 where
    pub nothing : AddsNothing d xs
    pub rest : ys ≡ []
    pub anew : (limit s : ℕ) (stream : List ℕ) → IsGiven limit s d stream → IsGiven limit s t []
    pub answer : (limit s : ℕ) (stream : List ℕ) → IsGiven limit s d stream
        → r ≡ Ok (finished (begun limit s (stream ++ xs)))

  -- what decoding gives: an answer that the used bytes add, none that a part adds, and what the end adds
  abbrev pub gives_answers : Gives C (Answer V) DecodeError
  gives_answers d xs (decoded r t ys) = (used : ℕ) × Takes IsGiven d xs used t ys × AddsAnswer d xs used r
  gives_answers d xs partial = AddsNothing d xs
  gives_answers d xs (at_end r t ys) = Ends d xs r t ys

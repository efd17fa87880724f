-- The laws of decoding.
use Rattle.std.specs.Prelude.{◌≡◌, ◌≢◌, ℕ, ◌+◌, ◌-◌, ◌<◌, nat_lt, min, if◌then◌else◌, List, [], ◌∷◌, ◌++◌, length, Option, Some, None, Result, Ok, Err}
use Rattle.std.specs.List.{AllByRecursion}
use Rattle.cobs.specs.Frames.{Frame, part}
use Rattle.cobs.specs.Feeding.{fed, next, told_by, listed, at_zero}
use Rattle.cobs.specs.Pieces.{first_answer, frame_left, buffer_left}
use Rattle.cobs.specs.Reports.{report, parsed_size, frame_size}
use Rattle.cobs.specs.Whole.{unpadded, frame_in, decoded_from, decoded_into, message_of_stretch}
use Rattle.cobs.specs.declared.dec.state.DecoderState.{DecoderState}
use Rattle.cobs.specs.declared.dec.state.DecoderState.TheVariants.{Idle}
use Rattle.cobs.specs.declared.dec.state.DecodeResult.TheVariants.{DataComplete}
use Rattle.cobs.specs.declared.dec.report.DecodeReport.{DecodeReport}
use Rattle.cobs.specs.declared.dec.report.DecodeError.{DecodeError}
use Rattle.cobs.specs.declared.dec.report.DecodeError.TheVariants.{EmptyFrame, InvalidFrame, TargetBufTooSmall}

-- the bytes of a message that the table returns while it is fed these
abbrev pub data_from : DecoderState → List ℕ → List ℕ
data_from state [] = []
data_from state (byte ∷ bytes) =
    listed (told_by (fed state byte)) ++ data_from (next state byte) bytes

-- its state after them
abbrev pub state_from : DecoderState → List ℕ → DecoderState
state_from state [] = state
state_from state (byte ∷ bytes) = state_from (next state byte) bytes

-- Over a frame and a zero, from Idle, the table returns the frame's message, and the zero completes it.
abbrev pub TellsMessages : Type 0
TellsMessages = (frame message : List ℕ) → Frame frame message
    → (data_from Idle (frame ++ 0 ∷ []) ≡ message)
    × (fed (state_from Idle frame) 0 ≡ Ok DataComplete)

-- The zero after a frame gives the length of its message, if the message fits.
abbrev pub AnswersFrames : Type 0
AnswersFrames = (room : ℕ) (frame message : List ℕ) → Frame frame message → at_zero room frame
    ≡ (if nat_lt room (length message) then Err TargetBufTooSmall else Ok (Some (length message)))

-- The zero after other bytes is refused, with how many bytes they determine that fitted.
abbrev pub RefusesOthers : Type 0
RefusesOthers = (room : ℕ) (bytes : List ℕ) → AllByRecursion (λ b. (0 < b) × (b < 256)) bytes
    → bytes ≢ [] → ((message : List ℕ) → Frame bytes message → ⊥)
    → at_zero room bytes ≡ Err (InvalidFrame (min (length (part bytes)) room))

-- Bytes whose zero gives a length are a frame, of a message of that length.
abbrev pub AnswersOnlyFrames : Type 0
AnswersOnlyFrames = (room n : ℕ) (bytes : List ℕ) → AllByRecursion (λ b. (0 < b) × (b < 256)) bytes
    → at_zero room bytes ≡ Ok (Some n) → Frame bytes (part bytes) × (n ≡ length (part bytes))

-- A source that has a frame after its leading zeros gives the length of the message, if the message fits. Used are the zeros, the frame,
-- and its zero if there is one.
abbrev pub DecodesFrames : Type 0
DecodesFrames = (room : ℕ) (source message : List ℕ) → Frame (frame_in source) message
    → decoded_from room source ≡ (if nat_lt room (length message) then Err TargetBufTooSmall
    else Ok (report (min (length source - length (unpadded source) + length (frame_in source) + 1)
    (length source)) (length message)))

-- the refusal of bytes that are no frame: there are none, or what they determine doesn't fit, or they end inside a block
abbrev pub refusal : ℕ → List ℕ → DecodeError
refusal room [] = EmptyFrame
refusal room (code ∷ bytes) =
    if nat_lt room (length (part (code ∷ bytes))) then TargetBufTooSmall
    else InvalidFrame (length (part (code ∷ bytes)))

-- Every other source is refused so.
abbrev pub RefusesSources : Type 0
RefusesSources = (room : ℕ) (source : List ℕ) → AllByRecursion (λ b. b < 256) (frame_in source)
    → ((message : List ℕ) → Frame (frame_in source) message → ⊥)
    → decoded_from room source ≡ Err (refusal room (frame_in source))

-- If bytes that were XORed with a sentinel, or go into a vector, are a frame, they give its message.
abbrev pub DecodesStretches : Type 0
DecodesStretches = (room : ℕ) (bytes message : List ℕ) → Frame bytes message
    → (decoded_into room bytes
    ≡ (if nat_lt room (length message) then Err TargetBufTooSmall else Ok (length message)))
    × (message_of_stretch bytes ≡ Ok message)

-- Other such bytes are refused, with how many bytes they determine.
abbrev pub RefusesStretches : Type 0
RefusesStretches = (room : ℕ) (bytes : List ℕ) → AllByRecursion (λ b. (0 < b) × (b < 256)) bytes
    → bytes ≢ [] → ((message : List ℕ) → Frame bytes message → ⊥)
    → (decoded_into room bytes ≡ Err (InvalidFrame (length (part bytes))))
    × (message_of_stretch bytes ≡ Err (InvalidFrame (length (part bytes))))

-- what pushing comes to: the result, the bytes of the frame so far, and the buffer
pub record DecodingOutcome : Type 0 where
  -- The first result, or none.
  pub answer : Result (Option DecodeReport) DecodeError
  -- The bytes of the unfinished frame.
  pub frame : List ℕ
  -- The contents of the buffer.
  pub buffer : List ℕ

-- what pushing a chunk comes to, of a decoder with so much space that is after these bytes of a frame
abbrev pub pushed : ℕ → List ℕ → List ℕ → List ℕ → DecodingOutcome
pushed room frame buffer piece = record { answer = first_answer room frame piece 0; frame = frame_left room frame piece; buffer = buffer_left room frame piece buffer }

-- the same result, counted from so many bytes earlier
abbrev pub moved : ℕ → Result (Option DecodeReport) DecodeError
    → Result (Option DecodeReport) DecodeError
moved earlier (Ok None) = Ok None
moved earlier (Ok (Some r)) = Ok (Some (report (earlier + parsed_size r) (frame_size r)))
moved earlier (Err e) = Err e

-- the first outcome that has a result
abbrev pub or_later : Result (Option DecodeReport) DecodeError → DecodingOutcome → ℕ → DecodingOutcome → DecodingOutcome
or_later (Ok None) now used later =
    record { answer = moved used later.answer; frame = later.frame; buffer = later.buffer }
or_later (Ok (Some r)) now used later = now
or_later (Err e) now used later = now

-- what pushing chunks in turn comes to, up to the first result
abbrev pub pushed_in_turn : ℕ → List ℕ → List ℕ → List (List ℕ) → DecodingOutcome
pushed_in_turn room frame buffer [] = record { answer = Ok None; frame = frame; buffer = buffer }
pushed_in_turn room frame buffer (piece ∷ pieces) =
    or_later (first_answer room frame piece 0) (pushed room frame buffer piece) (length piece)
    (pushed_in_turn room (frame_left room frame piece) (buffer_left room frame piece buffer) pieces)

-- chunks, one after another
abbrev pub joined_up : List (List ℕ) → List ℕ
joined_up [] = []
joined_up (piece ∷ pieces) = piece ++ joined_up pieces

-- Chunk boundaries have no effect.
abbrev pub IgnoresCuts : Type 0
IgnoresCuts = (room : ℕ) (frame buffer : List ℕ) (pieces : List (List ℕ))
    → pushed_in_turn room frame buffer pieces ≡ pushed room frame buffer (joined_up pieces)

-- What decoding a whole source returns.
use Rattle.std.specs.Prelude.{◌≡◌, ℕ, ◌-◌, ◌==◌, nat_lt, min, if◌then◌else◌, List, [], ◌∷◌, ◌++◌, length, Option, Some, None, Result, Ok, Err}
use Rattle.cobs.specs.Frames.{part, missing}
use Rattle.cobs.specs.Reports.{report, parsed_size, frame_size}
use Rattle.cobs.specs.InPlace.{stretch}
use Rattle.cobs.specs.Pieces.{first_answer}
use Rattle.cobs.specs.declared.dec.report.DecodeReport.{DecodeReport}
use Rattle.cobs.specs.declared.dec.report.DecodeError.{DecodeError}
use Rattle.cobs.specs.declared.dec.report.DecodeError.TheVariants.{EmptyFrame, InvalidFrame, TargetBufTooSmall}
use Rattle.cobs.specs.declared.dec.report.DecodeVecError.{DecodeVecError}
use Rattle.cobs.specs.declared.dec.report.DecodeVecError.TheVariants.{Decode, OutOfMemory}

-- what is after leading zeros
abbrev pub unpadded : List ℕ → List ℕ
unpadded [] = []
unpadded (byte ∷ bytes) = if byte == 0 then unpadded bytes else (byte ∷ bytes)

-- the bytes that are decoded: those before the first zero after leading zeros
abbrev pub frame_in : List ℕ → List ℕ
frame_in source = stretch (unpadded source)

-- a streaming decoder's result as that to a source of so many bytes
abbrev pub reported : ℕ → Result (Option DecodeReport) DecodeError → Result DecodeReport DecodeError
reported limit (Ok None) = Err EmptyFrame
reported limit (Ok (Some r)) = Ok (report (min (parsed_size r) limit) (frame_size r))
reported limit (Err e) = Err e

-- the result, with so much space: the first that a streaming decoder gives, where the end of the source counts as a zero would
abbrev pub decoded_from : ℕ → List ℕ → Result DecodeReport DecodeError
decoded_from room source = reported (length source)
    (first_answer room [] (frame_in source ++ 0 ∷ []) (length source - length (unpadded source)))

-- the result for bytes without zeros, with so much space
abbrev pub decoded_into : ℕ → List ℕ → Result ℕ DecodeError
decoded_into room bytes =
    if missing bytes == 0 then (if nat_lt room (length (part bytes)) then Err TargetBufTooSmall
    else Ok (length (part bytes)))
    else Err (InvalidFrame (length (part bytes)))

-- the message of bytes without zeros
abbrev pub message_of_stretch : List ℕ → Result (List ℕ) DecodeError
message_of_stretch bytes =
    if missing bytes == 0 then Ok (part bytes) else Err (InvalidFrame (length (part bytes)))

-- the same if no bytes are no frame
abbrev pub message_of_frame : List ℕ → Result (List ℕ) DecodeError
message_of_frame [] = Err EmptyFrame
message_of_frame (code ∷ bytes) = message_of_stretch (code ∷ bytes)

-- the error is that of the decoding, or out of memory
abbrev pub RefusesWhole : DecodeVecError → Result (List ℕ) DecodeError → Type 0
RefusesWhole (Decode e) message = message ≡ Err e
RefusesWhole OutOfMemory message = Unit {0}

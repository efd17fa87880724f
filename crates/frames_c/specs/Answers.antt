-- Results by numbers.
use Rattle.std.specs.Prelude.{◌≡◌, ℕ, ◌==◌, if◌then◌else◌, Option, Some, None, Result, Ok, Err}
use Rattle.cobs.specs.Reports.{parsed_size, frame_size}
use Rattle.cobs.specs.declared.dec.report.DecodeReport.{DecodeReport}
use Rattle.cobs.specs.declared.dec.report.DecodeError.{DecodeError}
use Rattle.cobs.specs.declared.dec.report.DecodeError.TheVariants.{EmptyFrame, InvalidFrame, TargetBufTooSmall}
use Rattle.cobs.specs.declared.enc.DestBufTooSmallError.{DestBufTooSmallError}
use Rattle.frames.specs.declared.receiving.FrameEvent.{FrameEvent}
use Rattle.frames.specs.declared.receiving.FrameEvent.TheVariants.{Message, Damaged, TooLong}
use Rattle.frames.specs.declared.receiving.FramePush.{FramePush}
use Rattle.frames.specs.declared.receiving.WrongBuffer.{WrongBuffer}
use Rattle.frames_c.specs.declared.answers.FramesWritten.{FramesWritten}
use Rattle.frames_c.specs.declared.answers.FramesEvent.{FramesEvent}
use Rattle.frames_c.specs.Status.{done, no_room, invalid, empty, more, message, damaged, too_long, misused}

-- an error of a decoding: bytes that aren't a frame say how many bytes of a message they determine, and the others 0
abbrev pub IsRefusedBy : DecodeError → ℕ → ℕ → Type 0
IsRefusedBy EmptyFrame status size = (status ≡ empty) × (size ≡ 0)
IsRefusedBy (InvalidFrame n) status size = (status ≡ invalid) × (size ≡ n)
IsRefusedBy TargetBufTooSmall status size = (status ≡ no_room) × (size ≡ 0)

-- the result of a decoding: how many bytes were used, none after an error, and the message's length
abbrev pub IsReport : Result DecodeReport DecodeError → ℕ → ℕ → ℕ → Type 0
IsReport (Ok r) status used size = (status ≡ done) × (used ≡ parsed_size r) × (size ≡ frame_size r)
IsReport (Err e) status used size = (used ≡ 0) × IsRefusedBy e status size

-- the same with the message's length only
abbrev pub IsLength : Result ℕ DecodeError → ℕ → ℕ → Type 0
IsLength (Ok n) status size = (status ≡ done) × (size ≡ n)
IsLength (Err e) status size = IsRefusedBy e status size

-- how many bytes were written, or that they don't fit
abbrev pub IsWritten : Result ℕ DestBufTooSmallError → FramesWritten → Type 0
IsWritten (Ok n) w = (w.status ≡ done) × (w.length ≡ n)
IsWritten (Err e) w = (w.status ≡ no_room) × (w.length ≡ 0)

-- how many bytes precede a sum, or that there is no sum
abbrev pub IsUnsealed : Option ℕ → FramesWritten → Type 0
IsUnsealed (Some n) w = (w.status ≡ done) × (w.length ≡ n)
IsUnsealed None w = (w.status ≡ invalid) × (w.length ≡ 0)

-- an event, by its kind, its position and its length
abbrev pub event_by : ℕ → ℕ → ℕ → Option FrameEvent
event_by kind start size = if kind == message then Some (Message start size)
    else (if kind == damaged then Some Damaged
    else (if kind == too_long then Some TooLong else None))

-- the result of a push, by its numbers
abbrev pub push_by : FramesEvent → FramePush
push_by e = record { used = e.used; stretch = e.stretch; event = event_by e.kind e.start e.length }

-- the result of a push by numbers: that of `frames`, or misused
abbrev pub IsPushed : Result FramePush WrongBuffer → FramesEvent → Type 0
IsPushed (Ok p) e = (push_by e ≡ p) × (e.kind ≡ misused → ⊥)
IsPushed (Err x) e = (e.kind ≡ misused) × (e.used ≡ 0) × (e.stretch ≡ 0)

-- the result of a push of one byte, by the kind that it returned and the event that it wrote
abbrev pub push_told : ℕ → FramesEvent → FramePush
push_told kind e = if kind == more then record { used = 1; stretch = 0; event = None } else push_by e

-- What the streaming decoders do with what they are given, each byte XORed with the sentinel: what each keeps, and its buffer,
-- before and afterwards.
use Rattle.std.specs.Prelude.{◌≡◌, ℕ, ◌+◌, ◌-◌, ◌==◌, if◌then◌else◌, ◌<◌, ◌≤◌, false, List, ◌++◌, length, take, Option, None, Result, Ok, Err, IfOk, IfSome, ◌≢◌, slice_index}
use Rattle.cobs.specs.Frames.{NoZero, part, part_from, after}
use Rattle.cobs.specs.Feeding.{answer_of, frame_after, placed, by_code, told_by, fed, next}
use Rattle.cobs.specs.InPlace.{overwritten, written_over}
use Rattle.cobs.specs.Pieces.{first_answer, frame_left, frame_met, buffer_left}
use Rattle.cobs.specs.Sentinel.{masked}
use Rattle.cobs.specs.Reports.{parsed_size, frame_size, report}
use Rattle.cobs.specs.Streaming.{HasStreamed, Decoded}
use Rattle.cobs.specs.Whole.{frame_in, decoded_from, decoded_into}
use Rattle.cobs.specs.declared.dec.report.DecodeError.{DecodeError}
use Rattle.cobs.specs.declared.dec.report.DecodeError.TheVariants.{InvalidFrame}
use Rattle.cobs.specs.declared.dec.state.DecoderState.{DecoderState}
use Rattle.cobs.specs.declared.dec.state.DecoderState.TheVariants.{Idle, Grab, GrabChain}
use Rattle.cobs.specs.declared.dec.report.DecodeReport.{DecodeReport}
use Rattle.cobs.specs.declared.dec.progress.Progress.{Progress}

-- A byte is fed, after any bytes p of a frame: which bytes those are then, the result, what is in the buffer; where it began
-- with the message so far, that it still does, and that a result is a whole message.
pub record FeedsByte (before : Progress) (old : List ℕ) (byte : ℕ)
    (result : Result (Option ℕ) DecodeError) (behind : Progress) (new : List ℕ) : Type 0 where
  -- The decoder then has taken the bytes of the frame with this one.
  pub has : (p : List ℕ) → HasStreamed before p → HasStreamed behind (frame_after p byte)
  -- The result is the one that the table gives.
  pub answer : (p : List ℕ) → HasStreamed before p → result ≡ answer_of (length old) p byte
  -- The byte of the message, if there is one, is written after the others.
  pub buffer : (p : List ℕ) → HasStreamed before p → new ≡ placed p byte old
  -- A buffer that began with the message so far still does.
  pub decoded : (p : List ℕ) → HasStreamed before p → Decoded old p → Decoded new (frame_after p byte)
  -- A length that is returned is that of a message, which is at the start of the buffer.
  pub message : (p : List ℕ) → HasStreamed before p → Decoded old p
      → IfOk result (λ o. IfSome o (λ n. take n new ≡ part p))
  -- A length that is returned is within the buffer.
  pub within : IfOk result (λ o. IfSome o (λ n. n ≤ length new))
  -- The buffer's length is unchanged.
  pub room : length new ≡ length old

-- A chunk is pushed: the same, up to the first result.
pub record TakesPiece (before : Progress) (old piece : List ℕ)
    (result : Result (Option DecodeReport) DecodeError)
    (behind : Progress) (new : List ℕ) : Type 0 where
  -- The decoder then has taken the bytes up to the first result.
  pub has : (p : List ℕ) → HasStreamed before p → HasStreamed behind (frame_left (length old) p piece)
  -- The result is the first one that feeding the bytes gives.
  pub answer : (p : List ℕ) → HasStreamed before p → result ≡ first_answer (length old) p piece 0
  -- The buffer is what feeding them up to that result leaves.
  pub buffer : (p : List ℕ) → HasStreamed before p → new ≡ buffer_left (length old) p piece old
  -- A buffer that began with the message so far still does.
  pub decoded : (p : List ℕ) → HasStreamed before p → Decoded old p
      → Decoded new (frame_left (length old) p piece)
  -- A report that is returned is of a message, which is at the start of the buffer.
  pub message : (p : List ℕ) → HasStreamed before p → Decoded old p → IfOk result
      (λ o. IfSome o (λ r. take (frame_size r) new ≡ part (frame_met (length old) p piece)))
  -- The sizes in a report are within the chunk and the buffer.
  pub within : IfOk result
      (λ o. IfSome o (λ r. (parsed_size r ≤ length piece) × (frame_size r ≤ length new)))
  -- The buffer's length is unchanged.
  pub room : length new ≡ length old

-- The first n bytes of a chunk are taken at once (private contracts alone): none is zero, and all that they determine fits, if
-- there are any.
pub record TakesFront (p piece old : List ℕ) (n : ℕ)
    (behind : Progress) (new : List ℕ) : Type 0 where
  pub within : n ≤ length piece
  pub clear : NoZero (take n piece)
  pub fits : 0 < n → length (part (p ++ take n piece)) ≤ length old
  pub has : HasStreamed behind (p ++ take n piece)
  pub buffer : 0 < n → new ≡ written_over (length (part p))
      (part_from (after 0 false p).0 (after 0 false p).1 (take n piece)) old
  pub same : n ≡ 0 → new ≡ old

-- The same of bytes that are each XORed with the sentinel, whatever bytes p of a frame came before (private contracts alone).
abbrev pub TakesOn : Progress → List ℕ → ℕ → List ℕ → ℕ → Progress → List ℕ → Type 0
TakesOn before old sentinel bytes n behind new =
    (p : List ℕ) → HasStreamed before p → TakesFront p (masked sentinel bytes) old n behind new

-- Bytes without zeros, some, were decoded, and they fitted: the result, how many they are, and the buffer (private contracts
-- alone).
pub record DecodesFront (old frame new : List ℕ) (answer : Result ℕ DecodeError) (count : ℕ) : Type 0 where
  pub answers : answer ≡ decoded_into (length old) frame
  pub end : count ≡ length frame
  pub some : 0 < length frame
  pub room : length frame ≤ length old + 1
  pub buffer : new ≡ overwritten (part frame) old

-- A source begins with a frame for a sentinel, and all of it fits a buffer (private contracts alone).
pub record FitsWhole (source buffer : List ℕ) (sentinel : ℕ) : Type 0 where
  pub some : 0 < length source
  pub room : length source ≤ length buffer + 1
  pub begins : slice_index source 0 ≢ sentinel

-- A frame was decoded into a buffer: the result, and the buffer (private contracts alone).
pub record DecodesInto (old frame new : List ℕ) (told : Result ℕ DecodeError) : Type 0 where
  pub answer : told ≡ decoded_into (length old) frame
  pub dest : new ≡ overwritten (part frame) old

-- The first frame of a source was decoded into a buffer: the result, and the buffer (private contracts alone).
pub record DecodesSource (old source new : List ℕ) (told : Result DecodeReport DecodeError) : Type 0 where
  pub answer : told ≡ decoded_from (length old) source
  pub dest : new ≡ overwritten (part (frame_in source)) old

-- How many bytes of the open block are left, and the state of a decoder after some of them (private contracts alone).
abbrev pub left_in : DecoderState → ℕ
left_in Idle = 0
left_in (Grab left) = left
left_in (GrabChain left) = left

-- the state of a decoder once n of them were taken
abbrev pub left_behind : DecoderState → ℕ → DecoderState
left_behind Idle n = Idle
left_behind (Grab left) n = Grab (left - n)
left_behind (GrabChain left) n = GrabChain (left - n)

-- a code is next that gives no byte of a message: the first one, or that after a full block
abbrev pub Owes : DecoderState → Type 0
Owes state = (code : ℕ) → 0 < code → (told_by (fed state code) ≡ None) × (next state code ≡ by_code code)

-- what is returned after a whole frame, with so many bytes of a message, by the state of a decoder
abbrev pub answer_behind : DecoderState → ℕ → Result ℕ DecodeError
answer_behind state len = if left_in state == 0 then Ok len else Err (InvalidFrame len)

-- a result with how many bytes of the source were used
abbrev pub with_parsed : ℕ → Result ℕ DecodeError → Result DecodeReport DecodeError
with_parsed parsed (Ok decoded) = Ok (report parsed decoded)
with_parsed parsed (Err e) = Err e

-- A receiver's buffer, and the message that is decoded into one.
use Rattle.std.specs.Prelude.{◌≢◌, ℕ, ◌≤◌, List, [], length, take, Option, IfSome, IfNone}
use Rattle.cobs.specs.Frames.{Frame}

-- the bytes of a buffer, and how many of them it holds
pub record Filled : Type 0 where
  pub bytes : List ℕ
  pub count : ℕ

-- The result of decoding some bytes into a buffer: the length of their message, which is then at the start, if they are a frame.
pub record IsMessageOf (frame : List ℕ) (result : Option ℕ) (buffer : List ℕ) : Type 0 where
  -- the message is within the buffer
  pub within : IfSome result (λ size. size ≤ length buffer)
  -- it is the frame's
  pub message : IfSome result (λ size. frame ≢ [] → Frame frame (take size buffer))
  -- without a length they aren't a frame
  pub no_frame : IfNone result ((m : List ℕ) → Frame frame m → ⊥)

-- Which stream a small receiver has received, by what it and its caller's buffer hold.
use Rattle.std.specs.Prelude.{◌≡◌, ℕ, ◌<◌, ◌≤◌, true, false, List, length, take, Option, Some, None}
use Rattle.std.specs.List.{AllByRecursion}
use Rattle.cobs.specs.Frames.{part, after}
use Rattle.link.specs.Stream.{Begun, kept, over, begun}
use Rattle.frames.specs.Events.{found}
use Rattle.frames.specs.declared.receiving.FrameEvent.{FrameEvent}
use Rattle.frames.specs.declared.receiving.FramePush.{FramePush}
use Rattle.frames_small.specs.declared.receiving.SmallReceiver.{SmallReceiver}

-- bytes that can be of a frame
abbrev pub AreCodes : List ℕ → Type 0
AreCodes p = AllByRecursion (λ b. (0 < b) × (b < 256)) p

-- These bytes of a stretch (without the sentinel's XOR) were taken: the part of the message that they determine is in front of the
-- buffer, and the receiver knows what their last block still needs.
pub record Decides (r : SmallReceiver) (buffer p : List ℕ) : Type 0 where
  -- how many they are
  pub stretch : r.stretch ≡ length p
  -- how many bytes of a message they determine
  pub decided : r.decided ≡ length (part p)
  -- these are in front of the buffer
  pub stands : take r.decided buffer ≡ part p
  -- how many bytes the last block still needs
  pub left : r.left ≡ (after 0 false p).0
  -- whether a zero comes before the next block
  pub owes : r.owes ≡ (after 0 false p).1
  -- none of them is the sentinel
  pub codes : AreCodes p

-- what has begun of a stretch, by what a receiver and its buffer hold: these bytes, or too many
abbrev pub SmallIsBegunOver : SmallReceiver → List ℕ → Begun → Type 0
SmallIsBegunOver r buffer (kept p) = (r.past ≡ false) × Decides r buffer p
SmallIsBegunOver r buffer over = r.past ≡ true

-- A receiver of this sentinel, over a buffer of this limit, has begun this.
pub record SmallStandsAt (limit s : ℕ) (r : SmallReceiver) (buffer : List ℕ) (b : Begun) : Type 0 where
  -- the limit is the buffer's length
  pub room : length buffer ≡ limit
  -- the sentinel is the receiver's
  pub sentinel : r.sentinel ≡ s
  -- a stretch determines no more bytes than it has
  pub decided : r.decided ≤ r.stretch
  -- the stretch is within the limit
  pub stretch : r.stretch ≤ limit
  -- what has begun
  pub begun : SmallIsBegunOver r buffer b

-- What a push needs. A new receiver has it over any buffer, and each push keeps it.
pub record MayPush (r : SmallReceiver) (buffer : List ℕ) : Type 0 where
  -- no more bytes are determined than begun
  pub decided : r.decided ≤ r.stretch
  -- no more bytes are begun than the buffer has
  pub fits : r.stretch ≤ length buffer

-- it has received this stream
abbrev pub SmallStandsBehind : ℕ → ℕ → SmallReceiver → List ℕ → List ℕ → Type 0
SmallStandsBehind limit s r buffer stream = SmallStandsAt limit s r buffer (begun limit s stream)

-- the push of one byte with this event, after so many bytes of a stretch
abbrev pub by_byte : ℕ → Option FrameEvent → FramePush
by_byte n None = found 1 0 None
by_byte n (Some e) = found 1 n (Some e)

-- Which stream a receiver has received, by what it and its caller's buffer hold.
use Rattle.std.specs.Prelude.{◌≡◌, ◌≢◌, ℕ, ◌≤◌, Bool, true, false, List, ◌∷◌, length, take}
use Rattle.cobs.specs.Frames.{NoZero}
use Rattle.cobs.specs.Sentinel.{masked}
use Rattle.link.specs.Stream.{Begun, kept, over, begun}
use Rattle.frames.specs.declared.receiving.FrameReceiver.{FrameReceiver}

-- The limit and the sentinel are those of the buffer and the receiver.
pub record HasBuffer (limit s : ℕ) (r : FrameReceiver) (buffer : List ℕ) : Type 0 where
  -- the limit is the buffer's length
  pub room : length buffer ≡ limit
  -- the sentinel is the receiver's
  pub sentinel : r.sentinel ≡ s

-- The begun stretch has these bytes (without the sentinel's XOR), which are in front of the buffer.
pub record KeepsFront (s : ℕ) (r : FrameReceiver) (buffer p : List ℕ) : Type 0 where
  -- in the buffer each byte is XORed with the sentinel
  pub stands : masked s (take r.count buffer) ≡ p
  -- the receiver has counted them
  pub counted : r.count ≡ length p
  -- they fit
  pub within : r.count ≤ length buffer
  -- none of them is the sentinel
  pub nonzero : NoZero p

-- what has begun of a stretch, by what a receiver and its buffer hold: these bytes, or too many
abbrev pub IsBegunOver : ℕ → FrameReceiver → List ℕ → Begun → Type 0
IsBegunOver s r buffer (kept p) = (r.past ≡ 0) × KeepsFront s r buffer p
IsBegunOver s r buffer over = (r.past ≢ 0) × (r.count ≡ 0)

-- A receiver of this sentinel, over a buffer of this limit, has begun this.
pub record StandsAt (limit s : ℕ) (r : FrameReceiver) (buffer : List ℕ) (b : Begun) : Type 0 where
  -- limit and sentinel
  pub terms : HasBuffer limit s r buffer
  -- what has begun
  pub begun : IsBegunOver s r buffer b

-- it has received this stream
abbrev pub StandsBehind : ℕ → ℕ → FrameReceiver → List ℕ → List ℕ → Type 0
StandsBehind limit s r buffer stream = StandsAt limit s r buffer (begun limit s stream)

-- whether a stretch has begun without an answer
abbrev pub is_cut : Begun → Bool
is_cut (kept (b ∷ p)) = true
is_cut _ = false

-- the limit and the sentinel are the same
abbrev pub KeepsTerms : FrameReceiver → List ℕ → FrameReceiver → List ℕ → Type 0
KeepsTerms old before new after = (length after ≡ length before) × (new.sentinel ≡ old.sentinel)

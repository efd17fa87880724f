-- How many messages came in a window of time.
use Rattle.std.specs.Prelude.{◌≡◌, ◌==◌, ℕ, ◌+◌, ◌-◌, ◌<◌, ◌≤◌, ◌^◌, min, nat_le, List, [], ◌∷◌, if◌then◌else◌}
use Rattle.wire_lib.specs.declared.watching.rate.Rate.{Rate}

-- the number, or the greatest of 64 bits
abbrev pub capped : ℕ → ℕ
capped n = min n (2 ^ 64 - 1)

-- a count that grew by one, up to the greatest of 64 bits
abbrev pub CountsOneMore : ℕ → ℕ → Type 0
CountsOneMore old new = new ≡ capped (old + 1)

-- how many of these windows are w
abbrev pub count_at : ℕ → List ℕ → ℕ
count_at w [] = 0
count_at w (t ∷ times) = (if t == w then count_at w times + 1 else count_at w times)

-- the latest of the windows in which messages came; they are listed latest first
abbrev pub newest : List ℕ → ℕ
newest [] = 0
newest (t ∷ times) = t

-- Messages came in these windows, latest first, and the rate has the numbers of the latest window and the one before.
pub record HasTimed (r : Rate) (times : List ℕ) : Type 0 where
  -- the window that the rate has is the latest
  pub last : r.window ≡ newest times
  -- no message came in a later one
  pub none_later : (w : ℕ) → r.window < w → count_at w times ≡ 0
  -- the number of the latest window
  pub here : r.here ≡ capped (count_at r.window times)
  -- the first window has none before it
  pub first : r.window ≡ 0 → r.before ≡ 0
  -- the number of the window before it
  pub before : (w : ℕ) → w + 1 ≡ r.window → r.before ≡ capped (count_at w times)

-- the number that a rate has for the window before this one
abbrev pub rate_in : Rate → ℕ → ℕ
rate_in r window = if nat_le window r.window then r.before else (if window - 1 == r.window then r.here else 0)

-- n messages came in the window before this one, which isn't earlier than the latest in which any came
abbrev pub IsRate : List ℕ → ℕ → ℕ → Type 0
IsRate times window n = (w : ℕ) → w + 1 ≡ window → newest times ≤ window
    → n ≡ capped (count_at w times)

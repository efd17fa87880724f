-- The sum CRC-32, bit by bit: reflected, by the polynomial EDB88320, from a register of ones, whose bits are inverted at the
-- end.
use Rattle.std.specs.Prelude.{◌≡◌, ℕ, zero, suc, ◌/◌, ◌%◌, nat_eq, if◌then◌else◌, List, [], ◌∷◌, ◌++◌, refl, bit_xor}

-- EDB88320, the polynomial with its bits reversed
abbrev pub polynomial : ℕ
polynomial = 3988292384

-- 32 ones
abbrev pub all_ones : ℕ
all_ones = 4294967295

-- the register moved by one bit
abbrev pub shifted : ℕ → ℕ
shifted r = if nat_eq (r % 2) 0 then r / 2 else bit_xor (r / 2) polynomial

-- the same for so many bits
abbrev pub shifted_by : ℕ → ℕ → ℕ
shifted_by zero r = r
shifted_by (suc k) r = shifted_by k (shifted r)

-- the register after one more byte
unfoldable pub behind_byte : ℕ → ℕ → ℕ
behind_byte r b = shifted_by 8 (bit_xor r b)

-- the register after these bytes
abbrev pub behind_bytes : ℕ → List ℕ → ℕ
behind_bytes r [] = r
behind_bytes r (b ∷ bs) = behind_bytes (behind_byte r b) bs

pub behind_joined : (r : ℕ) (a b : List ℕ) → behind_bytes r (a ++ b) ≡ behind_bytes (behind_bytes r a) b
behind_joined r [] b = refl
behind_joined r (x ∷ a) b = behind_joined (behind_byte r x) a b

-- the sum of these bytes
abbrev pub sum_of_bytes : List ℕ → ℕ
sum_of_bytes bytes = bit_xor (behind_bytes all_ones bytes) all_ones

-- that of the text 123456789, which is published for each kind of CRC
pub check_value : sum_of_bytes (49 ∷ 50 ∷ 51 ∷ 52 ∷ 53 ∷ 54 ∷ 55 ∷ 56 ∷ 57 ∷ []) ≡ 3421780262
unfolding behind_byte
check_value = refl

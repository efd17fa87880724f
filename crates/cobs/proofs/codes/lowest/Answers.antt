use Rattle.std.proofs.Common.{◌≡◌, ◌≢◌, ℕ, suc, ◌+◌, ◌-◌, ◌*◌, ◌/◌, ◌%◌, ◌^◌, ◌<◌, sym, ap, ◌∙◌, inl, inr, arith, w64, pow_pos}
use Rattle.std.specs.Int.{bit_at, trailing_zeros}
use Rattle.std.proofs.lemmas.Bool.{cases_lt}
use Rattle.std.proofs.lemmas.Nat.Bits.{bit_at-trailing_zeros, bit_at_and, bit_at-lt, bit_at-pow_same, bit_at-pow_other, bit_at_ones_above, bit_at_cat_low, bit_at_cat_high, same_from_bits_below}
use Rattle.std.proofs.lemmas.Nat.{div-add-mod', and_le_r}
use Rattle.std.proofs.Math.Nat.{two-pow-succ, mod-lt}
use Rattle.cobs.proofs.codes.lowest.Goals as goal

-- a number whose lowest bit is the one at n
module _ (m n : ℕ) (set : bit_at m n ≡ 1) (below : (k : ℕ) → k < n → bit_at m k ≡ 0) where
  abbrev high : ℕ
  high = m / 2 ^ suc n

  abbrev low : ℕ
  low = m % 2 ^ suc n

  parts : high * 2 ^ suc n + low ≡ m
  parts = div-add-mod' m (2 ^ suc n)

  low_fits : low < 2 ^ suc n
  low_fits = mod-lt m (pow_pos (suc n))

  one_fits : 2 ^ n < 2 ^ suc n
  one_fits = omega (arith, two-pow-succ n, pow_pos n)

  low_bit : (i : ℕ) → i < suc n → bit_at low i ≡ bit_at (2 ^ n) i
  low_bit i l = sym (bit_at_cat_low high (suc n) low i l) ∙ ap (λ x. bit_at x i) parts ∙ elim (cases_lt i n) [
    | inl a ↦ below i a ∙ sym (bit_at-pow_other n i (omega (arith, a)))
    | inr b ↦ let same : i ≡ n = omega (arith, b, l) in ap (bit_at m) same ∙ set ∙ sym (bit_at-pow_same n) ∙ sym (ap (bit_at (2 ^ n)) same)
  ]

  is : m ≡ high * 2 ^ suc n + 2 ^ n
  is = sym parts ∙ ap (λ x. high * 2 ^ suc n + x) (same_from_bits_below (suc n) low (2 ^ n) low_fits one_fits low_bit)

  less : m - 1 ≡ high * 2 ^ suc n + (2 ^ n - 1)
  less = omega (arith, is, pow_pos n)

  off : bit_at (m - 1) n ≡ 0
  off = ap (λ x. bit_at x n) less ∙ bit_at_cat_low high (suc n) (2 ^ n - 1) n (omega arith) ∙ bit_at_ones_above n n (omega arith)

  kept : (i : ℕ) → n < i → bit_at (m - 1) i ≡ bit_at m i
  kept i l =
      ap (λ x. bit_at x i) less ∙ bit_at_cat_high high (suc n) (2 ^ n - 1) i (omega (arith, one_fits)) (omega (arith, l))
      ∙ sym (bit_at_cat_high high (suc n) (2 ^ n) i one_fits (omega (arith, l))) ∙ sym (ap (λ x. bit_at x i) is)

pub returns : goal.returns
returns c =
    let m = c.args.bits in
    let h = bit_at-trailing_zeros w64 m (omega (arith, c.requires)) c.ranges.bits.fits in
    let n = trailing_zeros w64 m in
    record {
      bound = h.0;
      set = h.1;
      below = h.2;
      smaller = omega (arith, and_le_r m (m - 1), c.requires);
      others = λ k l b. omega (arith, bit_at_and m (m - 1) k, kept m n h.1 h.2 k l);
      no_more = λ k e.
          let bit : bit_at m k ≡ 1 = omega (arith, bit_at_and m (m - 1) k, bit_at-lt m k, bit_at-lt (m - 1) k, e) in
          let also : bit_at (m - 1) k ≡ 1 = omega (arith, bit_at_and m (m - 1) k, bit_at-lt m k, bit_at-lt (m - 1) k, e) in
          let apart : k ≢ n = λ same. omega (arith, off m n h.1 h.2, ap (bit_at (m - 1)) (sym same), also) in
          let behind : k < n → ⊥ = λ l. omega (arith, h.2 k l, bit) in
          (bit, omega arith);
    }

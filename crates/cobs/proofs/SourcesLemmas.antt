-- The bytes of a source that are decoded.
use Rattle.std.proofs.Common.{◌≡◌, ◌≢◌, ℕ, zero, suc, ◌<◌, ◌≤◌, List, [], ◌∷◌, length, take, get_or, inl, inr, refl, ap, sym, ◌∙◌, arith}
use Rattle.std.proofs.lemmas.Bool.{eq-eqb, ne_eqb}
use Rattle.std.proofs.lemmas.Bool.Decides.{eqb_tells}
use Rattle.std.proofs.lemmas.Nat.{xor_comm}
use Rattle.std.specs.Prelude.{bit_xor}
use Rattle.std.specs.Int.Bits.{xor_assoc, xor_self}
use Rattle.std.specs.Int.{bit_at}
use Rattle.cobs.specs.Codes.{Marks}
use Rattle.cobs.specs.Frames.{NoZero}
use Rattle.cobs.specs.InPlace.{stretch}
use Rattle.cobs.specs.Sentinel.{masked}
use Rattle.cobs.proofs.MaskingLemmas.{masked_get, masked_length}

-- only the sentinel becomes zero
becomes_zero : (sentinel byte : ℕ) → bit_xor sentinel byte ≡ 0 → byte ≡ sentinel
becomes_zero s b e = ap (λ z. bit_xor z b) (sym (xor_self s)) ∙ xor_assoc s s b ∙ ap (bit_xor s) e ∙ xor_comm s 0

pub masked_positive : (sentinel byte : ℕ) → byte ≢ sentinel → 0 < bit_xor sentinel byte
masked_positive s b n = elim (eqb_tells (bit_xor s b) 0) [
  | inl t ↦ absurd (n (becomes_zero s b t.1))
  | inr t ↦ omega (arith, t.1)
]

-- the bytes before the first sentinel
pub stretch_front : (sentinel : ℕ) (bytes : List ℕ) (n : ℕ) → n ≤ length bytes → ((k : ℕ) → k < n → get_or bytes k 0 ≢ sentinel) → (n < length bytes → get_or bytes n 0 ≡ sentinel)
    → masked sentinel (take n bytes) ≡ stretch (masked sentinel bytes)
stretch_front s [] zero l none end = refl
stretch_front s [] (suc n) l none end = absurd (omega arith)
stretch_front s (b ∷ bytes) zero l none end =
    let z : bit_xor s b ≡ 0 = ap (bit_xor s) (end (omega arith)) ∙ xor_self s in
    rw (eq-eqb (bit_xor s b) 0 z) refl
stretch_front s (b ∷ bytes) (suc n) l none end =
    let p : 0 < bit_xor s b = masked_positive s b (none 0 (omega arith)) in
    rw (ne_eqb (bit_xor s b) 0 (λ z. omega (arith, p))) (ap (λ r. bit_xor s b ∷ r) (stretch_front s bytes n (omega arith) (λ k q. none (suc k) (omega arith)) (λ q. end (omega arith))))

-- no byte of a stretch is zero
pub stretch_clear : (bytes : List ℕ) → NoZero (stretch bytes)
stretch_clear [] = tt
stretch_clear (b ∷ bytes) = elim (eqb_tells b 0) [
  | inl t ↦ rw (t.1) tt
  | inr t ↦ rw (ne_eqb b 0 t.1) (omega (arith, t.1), stretch_clear bytes)
]

pub clear_at : (bytes : List ℕ) (i : ℕ) → NoZero bytes → i < length bytes → 0 < get_or bytes i 0
clear_at [] i h l = absurd (omega arith)
clear_at (b ∷ bytes) zero h l = h.0
clear_at (b ∷ bytes) (suc i) h l = clear_at bytes i h.1 (omega arith)

-- a stretch is its own
pub stretch_of : (bytes : List ℕ) → NoZero bytes → stretch bytes ≡ bytes
stretch_of [] h = refl
stretch_of (b ∷ bytes) h = rw (ne_eqb b 0 (λ e. omega (arith, h.0))) (ap (λ r. b ∷ r) (stretch_of bytes h.1))

-- the marks of masked bytes are those of the sentinel
module _ (sentinel bits : ℕ) (bytes : List ℕ) (m : Marks bits 0 (masked sentinel bytes)) where
  pub marked_byte : (k : ℕ) → bit_at bits k ≡ 1 → (k < length bytes) × (get_or bytes k 0 ≡ sentinel)
  marked_byte k b =
      let l : k < length bytes = omega (arith, m.high k b, masked_length sentinel bytes) in
      (l, becomes_zero sentinel (get_or bytes k 0) (sym (masked_get sentinel bytes k l) ∙ m.zeros k b))

  pub unmarked_byte : (k : ℕ) → k < length bytes → bit_at bits k ≡ 0 → get_or bytes k 0 ≢ sentinel
  unmarked_byte k l b e =
      let bit : bit_at bits k ≡ 1 = m.all k (omega arith) (omega (arith, l, masked_length sentinel bytes)) (masked_get sentinel bytes k l ∙ ap (bit_xor sentinel) e ∙ xor_self sentinel) in
      omega (arith, bit, b)

-- the same of bytes that aren't zero once they are XORed
pub clear_byte : (sentinel : ℕ) (bytes : List ℕ) (k : ℕ) → k < length bytes → 0 < get_or (masked sentinel bytes) k 0 → get_or bytes k 0 ≢ sentinel
clear_byte s bytes k l p e =
    let z : get_or (masked s bytes) k 0 ≡ 0 = masked_get s bytes k l ∙ ap (bit_xor s) e ∙ xor_self s in
    omega (arith, p, z)

-- a stretch is no longer than what it begins
pub stretch_within : (bytes : List ℕ) → length (stretch bytes) ≤ length bytes
stretch_within [] = omega arith
stretch_within (b ∷ bytes) = elim (eqb_tells b 0) [
  | inl t ↦ rw (t.1) (omega arith)
  | inr t ↦ rw (ne_eqb b 0 t.1) (omega (arith, stretch_within bytes))
]

-- it doesn't go past a sentinel
pub reach_end : (sentinel n : ℕ) (bytes : List ℕ) → n < length bytes → get_or bytes n 0 ≡ sentinel → length (stretch (masked sentinel bytes)) ≤ n
reach_end s n [] l e = absurd (omega arith)
reach_end s zero (b ∷ bytes) l e = rw (eq-eqb (bit_xor s b) 0 (ap (bit_xor s) e ∙ xor_self s)) (omega arith)
reach_end s (suc n) (b ∷ bytes) l e = elim (eqb_tells (bit_xor s b) 0) [
  | inl t ↦ rw (eq-eqb (bit_xor s b) 0 t.1) (omega arith)
  | inr t ↦ rw (ne_eqb (bit_xor s b) 0 t.1) (omega (arith, reach_end s n bytes (omega arith) e))
]

-- what comes before the first sentinel ends there
pub stretch_again : (s : ℕ) (bytes front : List ℕ) → masked s front ≡ stretch (masked s bytes) → stretch (masked s front) ≡ stretch (masked s bytes)
stretch_again s bytes front e = ap stretch e ∙ stretch_of (stretch (masked s bytes)) (stretch_clear (masked s bytes))

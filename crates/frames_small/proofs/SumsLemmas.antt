-- A sum bit by bit, and byte by byte.
use Rattle.std.proofs.Common.{◌≡◌, ℕ, suc, ◌+◌, ◌-◌, ◌<◌, List, [], ◌∷◌, length, take, get_or, ap, ◌∙◌, sym, arith}
use Rattle.std.proofs.lemmas.List.{take_more}
use Rattle.std.specs.Prelude.{bit_xor}
use Rattle.sealed.specs.Checksum.{shifted, shifted_by, behind_byte, behind_bytes, behind_joined}

pub byte_begins : (r b c : ℕ) → c ≡ b → shifted_by 8 (bit_xor r c) ≡ behind_byte r b
unfolding behind_byte
byte_begins r b c e = ap (λ x. shifted_by 8 (bit_xor r x)) e

pub bit_moves : (bit m n x : ℕ) → bit < 8 → n ≡ shifted m → shifted_by (8 - bit) m ≡ x → shifted_by (8 - (bit + 1)) n ≡ x
bit_moves bit m n x few e h =
    let one : 8 - bit ≡ suc (8 - (bit + 1)) = omega (arith, few) in
    ap (shifted_by (8 - (bit + 1))) e ∙ sym (ap (λ k. shifted_by k m) one) ∙ h

pub behind_more : (r : ℕ) (xs : List ℕ) (i : ℕ) → i < length xs → behind_byte (behind_bytes r (take i xs)) (get_or xs i 0) ≡ behind_bytes r (take (i + 1) xs)
behind_more r xs i h = sym (ap (behind_bytes r) (take_more xs i 0 h) ∙ behind_joined r (take i xs) (get_or xs i 0 ∷ []))

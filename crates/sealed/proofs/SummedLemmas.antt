-- Sums piece by piece.
use Rattle.std.proofs.Common.{◌≡◌, ℕ, ◌+◌, ◌<◌, List, [], ◌∷◌, length, take, get_or, sym, ap, ◌∙◌}
use Rattle.std.proofs.lemmas.List.{take_more}
use Rattle.sealed.specs.Checksum.{behind_byte, behind_bytes, behind_joined}

-- one byte more
pub behind_more : (r : ℕ) (xs : List ℕ) (i : ℕ) → i < length xs → behind_byte (behind_bytes r (take i xs)) (get_or xs i 0) ≡ behind_bytes r (take (i + 1) xs)
behind_more r xs i h = sym (ap (behind_bytes r) (take_more xs i 0 h) ∙ behind_joined r (take i xs) (get_or xs i 0 ∷ []))

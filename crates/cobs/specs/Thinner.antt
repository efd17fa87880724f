-- Messages whose bytes are among those of another.
use Rattle.std.specs.Prelude.{◌≡◌, ◌<◌, ◌⊎◌, ℕ, List, [], ◌∷◌}

-- the zeros and the other bytes of the first are, in order, some of those of the second
abbrev pub IsThinner : List ℕ → List ℕ → Type 0
IsThinner [] b = Unit {0}
IsThinner (x ∷ a) [] = ⊥
IsThinner (x ∷ a) (y ∷ b) =
    (((x ≡ 0) × (y ≡ 0) × IsThinner a b) ⊎ ((0 < x) × (0 < y) × IsThinner a b)) ⊎ IsThinner (x ∷ a) b

-- The first bytes of a partial frame, and the text of a damage.
use Rattle.std.specs.Prelude.{◌==◌, nat_le, ℕ, List, [], ◌∷◌, ◌++◌, length, take, codes, decimal, if◌then◌else◌}
use Rattle.hex.specs.Hex.{encode_lower}

-- how many bytes are kept of a partial frame
abbrev pub most_kept : ℕ
most_kept = 24

-- what is kept of the partial frame after these bytes, if `front` was kept before them
abbrev pub kept_behind : ℕ → List ℕ → List ℕ → List ℕ
kept_behind s front [] = front
kept_behind s front (b ∷ bytes) =
    kept_behind s (if b == s then [] else take most_kept (front ++ b ∷ [])) bytes

-- two dots if there are more than these bytes, else nothing
abbrev pub dots_after : ℕ → List ℕ → List ℕ
dots_after count bytes = if nat_le count (length bytes) then [] else codes ".."

-- the text of a damage: what it is, the position of its first byte, how many bytes it has, and its first bytes in hexadecimal
abbrev pub damage_said : List ℕ → ℕ → ℕ → List ℕ → List ℕ
damage_said what from count bytes = what ++ (codes " at " ++ (decimal from ++ (codes ", "
    ++ (decimal count ++ (codes " bytes: " ++ (encode_lower bytes ++ dots_after count bytes))))))

-- Flags by numbers.
use Rattle.std.specs.Prelude.{ℕ, Bool, nat_lt}

-- a flag is set if its number isn't 0
abbrev pub is_set : ℕ → Bool
is_set n = nat_lt 0 n

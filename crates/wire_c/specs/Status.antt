-- The numbers of results.
use Rattle.std.specs.Prelude.{ℕ}

-- it was done
abbrev pub done : ℕ
done = 0

-- the text doesn't fit the room
abbrev pub no_room : ℕ
no_room = 1

-- the declarations or the type can't be taken
abbrev pub wrong : ℕ
wrong = 2

-- lines aren't of the type
abbrev pub refused : ℕ
refused = 3

-- out of memory
abbrev pub no_memory : ℕ
no_memory = 4

-- The numbers of results.
use Rattle.std.specs.Prelude.{ℕ}

-- it was done
abbrev pub done : ℕ
done = 0

-- what is to be written doesn't fit
abbrev pub no_room : ℕ
no_room = 1

-- the bytes aren't a frame
abbrev pub invalid : ℕ
invalid = 2

-- no byte could be of a frame
abbrev pub empty : ℕ
empty = 3

-- a push has no event yet
abbrev pub more : ℕ
more = 0

-- its event is a message
abbrev pub message : ℕ
message = 1

-- a stretch that isn't a frame, or holds no counted message
abbrev pub damaged : ℕ
damaged = 2

-- a stretch that is longer than the buffer
abbrev pub too_long : ℕ
too_long = 3

-- more bytes are begun than the buffer has
abbrev pub misused : ℕ
misused = 4

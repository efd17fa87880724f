-- What contracts see of a span: the bytes before the cursor, and those ahead.
use Rattle.std.specs.Prelude.{ℕ, List, take, drop}
use Rattle.spans.specs.Memory.{Place}
use Rattle.spans.specs.declared.memory.span.Span.{Span}

-- the bytes before the cursor
abbrev pub behind_of : {K : Type 0} → Span K → List ℕ
behind_of s = take s.behind s.memory.bytes

-- the bytes ahead of the cursor
abbrev pub ahead_of : {K : Type 0} → Span K → List ℕ
ahead_of s = drop s.behind s.memory.bytes

-- the position of its first byte
abbrev pub place_of : {K : Type 0} → Span K → Place
place_of s = s.memory.place

-- the name under which its memory is borrowed
abbrev pub lent_as : {K : Type 0} → Span K → ℕ
lent_as s = s.memory.name

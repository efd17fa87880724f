use Rattle.std.proofs.Common.{◌≡◌, ◌+◌, ◌++◌, length, take}
use Rattle.postcard.proofs.accumulator.put_over.Given as goal

-- so many bytes were put behind those before the position
abbrev pub invariant-loop-i : goal.invariant-loop-i
invariant-loop-i l =
    (length l.buf ≡ length l.fn.buf) × (take (l.place + l.i) l.buf ≡ take l.place l.fn.buf ++ take l.i l.bytes)

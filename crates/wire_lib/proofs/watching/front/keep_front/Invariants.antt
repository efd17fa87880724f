use Rattle.std.proofs.Common.{◌≡◌, drop}
use Rattle.wire_lib.specs.Fronts.{kept_behind}
use Rattle.wire_lib.proofs.watching.front.keep_front.Given as goal

-- what the rest of the piece makes of what is kept is what the whole makes of what was kept
abbrev pub invariant-loop-byte : goal.invariant-loop-byte
invariant-loop-byte l =
    kept_behind l.sentinel l.bytes.items (drop l.byte-index l.piece) ≡ kept_behind l.sentinel l.fn.bytes.items l.piece

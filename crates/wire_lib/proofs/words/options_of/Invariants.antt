use Rattle.std.proofs.Common.{take, map, string_bytes}
use Rattle.std.specs.List.{All}
use Rattle.wire_lib.specs.Arguments.{AreSetBy, IsArgument}
use Rattle.wire_lib.proofs.words.options_of.Given as goal

-- the arguments so far are of the mode, and set these options
abbrev pub invariant-loop-word : goal.invariant-loop-word
invariant-loop-word l = AreSetBy (map string_bytes (take l.word-index l.words)) l.options
    × All (IsArgument l.mode) (map string_bytes (take l.word-index l.words))

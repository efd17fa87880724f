use Rattle.std.proofs.Common.{◌≡◌, ◌++◌, IsUtf8}
use Rattle.std.specs.Str.Iter.{chars_rest}
use Rattle.wire_lib.specs.Printable.{shown_text}
use Rattle.wire_lib.proofs.watching.printable.put_all.Given as goal

-- what was appended so far, and what is left, are the whole text's
abbrev pub invariant-loop-character : goal.invariant-loop-character
invariant-loop-character l = IsUtf8 (chars_rest l.character-iterator)
    × (l.line.items ++ shown_text (chars_rest l.character-iterator) ≡ l.fn.line.items ++ shown_text l.fn.text)

use Rattle.std.proofs.Common.{◌≡◌, ◌-◌, ◌++◌, IsUtf8, chars, string_bytes, string_len}
use Rattle.std.specs.Str.Iter.{chars_rest}
use Rattle.wire_lib.specs.Kinds.{shortened, shortened_to}
use Rattle.wire_lib.proofs.watching.kinds.short.Given as goal

-- what was kept so far, and what will be of the rest, are the whole
abbrev pub invariant-loop-character : goal.invariant-loop-character
invariant-loop-character l = IsUtf8 (chars_rest l.character-iterator)
    × (string_bytes l.kept ++ shortened_to (1024 - string_len l.kept) (chars (chars_rest l.character-iterator)) ≡ shortened l.fn.text)

-- The bytes that can be shown on a terminal.
use Rattle.std.specs.Prelude.{ℕ, ◌/◌, ◌%◌, ◌≤◌, ◌&&◌, nat_le, List, [], ◌∷◌, ◌++◌, flat_map, if◌then◌else◌}
use Rattle.std.specs.Char.{digit_char}
use Rattle.std.specs.Char.Escape.{encode_utf16}
use Rattle.std.specs.List.{All}
use Rattle.std.specs.Str.{chars}

-- the byte is a printable character of ASCII, which controls nothing
abbrev pub IsPrintable : ℕ → Type 0
IsPrintable b = (32 ≤ b) × (b ≤ 126)

-- all bytes are
abbrev pub ArePrintable : List ℕ → Type 0
ArePrintable bytes = All IsPrintable bytes

-- a UTF-16 code unit as JSON escapes it: a backslash, `u` and four hexadecimal digits
abbrev pub escaped_unit : ℕ → List ℕ
escaped_unit unit = 92 ∷ 117 ∷ digit_char (unit / 4096 % 16) ∷ digit_char (unit / 256 % 16)
    ∷ digit_char (unit / 16 % 16) ∷ digit_char (unit % 16) ∷ []

-- a character as it is if it can be shown, else its code units escaped
abbrev pub shown_character : ℕ → List ℕ
shown_character c = if nat_le 32 c && nat_le c 126 then c ∷ [] else flat_map escaped_unit (encode_utf16 c)

-- a text as printable ASCII
abbrev pub shown_text : List ℕ → List ℕ
shown_text text = flat_map shown_character (chars text)

-- a text as a line of printable ASCII, with its line feed
abbrev pub shown_line : List ℕ → List ℕ
shown_line text = shown_text text ++ 10 ∷ []

-- The lines of a picture.
use Rattle.std.specs.Prelude.{◌≡◌, ◌==◌, ℕ, ◌-◌, ◌*◌, ◌/◌, ◌%◌, ◌^◌, ◌≤◌, false, Option, Some, None, List, [], ◌∷◌, ◌++◌, length, map, take, Vec, codes, decimal, string_bytes, if◌then◌else◌}
use Rattle.std.specs.Fmt.{format_spec, padded, padded_integral}
use Rattle.std.specs.List.{All}
use Rattle.std.specs.Global.{Global}
use Rattle.std.specs.Str.{trim_end}
use Rattle.wire_lib.specs.Printable.{ArePrintable, shown_text}
use Rattle.wire_lib.specs.Rates.{rate_in}
use Rattle.wire_lib.specs.declared.watching.table.Row.{Row}
use Rattle.wire_lib.specs.declared.watching.table.Table.{Table}
use Rattle.wire_lib.specs.declared.watching.picture.View.{View}

-- a printable line of at most so many columns
abbrev pub FitsInColumns : ℕ → Vec ℕ Global → Type 0
FitsInColumns columns line = ArePrintable line.items × (length line.items ≤ columns)

-- all lines are
abbrev pub FitInColumns : ℕ → List (Vec ℕ Global) → Type 0
FitInColumns columns lines = All (FitsInColumns columns) lines

-- a text as a line: without white space at its end, as printable ASCII, and what exceeds the columns is cut off
abbrev pub line_in : ℕ → List ℕ → List ℕ
line_in columns text = take columns (shown_text (trim_end text))

-- the bytes of lines
abbrev pub line_bytes : List (Vec ℕ Global) → List (List ℕ)
line_bytes lines = map (λ line. line.items) lines

-- these texts were appended as lines, and nothing else
abbrev pub AppendsLines : ℕ → List (List ℕ) → List (Vec ℕ Global) → List (Vec ℕ Global) → Type 0
AppendsLines columns texts lines lines' = line_bytes lines' ≡ line_bytes lines ++ map (line_in columns) texts

-- a text at the left of 16 columns
abbrev pub at_left : List ℕ → List ℕ
at_left text = padded (format_spec 32 1 0 16 (2 ^ 64 - 1)) text

-- a text at the right of 9 columns
abbrev pub at_right : List ℕ → List ℕ
at_right text = padded (format_spec 32 3 0 9 (2 ^ 64 - 1)) text

-- a number at the right of 9 columns
abbrev pub number_at_right : ℕ → List ℕ
number_at_right n = padded_integral (format_spec 32 3 0 9 (2 ^ 64 - 1)) false [] (decimal n)

-- the rate per second with one decimal, by the number in a window of two seconds
abbrev pub rate_text : ℕ → List ℕ
rate_text came = decimal (came / 2) ++ (codes "." ++ decimal (came % 2 * 5))

-- the text of a row: its kind, the number of messages, the rate if there is a window, and the last message
abbrev pub row_text : Option ℕ → Row → List ℕ
row_text None row = at_left (string_bytes row.name) ++ (codes " " ++ (number_at_right row.count ++ (codes "  " ++ string_bytes row.last)))
row_text (Some window) row = at_left (string_bytes row.name) ++ (codes " " ++ (number_at_right row.count ++ (codes " "
    ++ (at_right (rate_text (rate_in row.rate window)) ++ (codes "  " ++ string_bytes row.last)))))

-- the texts of the rows of which a message came, of at most so many; `..` in place of the others
abbrev pub row_texts : Option ℕ → List Row → ℕ → List (List ℕ)
row_texts window [] left = []
row_texts window (row ∷ rows) left = if row.count == 0 then row_texts window rows left
    else (if left == 0 then codes ".." ∷ [] else row_text window row ∷ row_texts window rows (left - 1))

-- the text above the rows
abbrev pub head_text : Option ℕ → List ℕ
head_text None = codes "message              count  last"
head_text (Some window) = codes "message              count     per s  last"

-- the text that says how many damages there were
abbrev pub damage_count : ℕ → List ℕ
damage_count n = at_left (codes "no message") ++ (codes " " ++ number_at_right n)

-- the texts about damage: the number, and the last ones; none without damage
abbrev pub damage_texts : Table → List (List ℕ)
damage_texts table = if table.damaged == 0 then []
    else damage_count table.damaged ∷ map (λ text. codes "  " ++ string_bytes text) table.damages.items

-- the texts of a picture: the head, the rows, the damages
abbrev pub picture_texts : View → Table → List (List ℕ)
picture_texts view table = head_text view.window ∷ (row_texts view.window table.rows.items view.kinds ++ damage_texts table)

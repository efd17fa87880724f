-- When what is printed is read as the same value.
use Rattle.std.specs.Prelude.{◌≢◌, ◌++◌, ◌≤◌, ℕ, List, Bool, codes}
use Rattle.json.specs.Json.{Json, object, no_members, member}
use Rattle.schema_table.specs.declared.schema.Schema.{Schema}
use Rattle.schema_table.specs.declared.value.Value.{Value}
use Rattle.schema_table.specs.Values.{AreOneTree}
use Rattle.wire_json.specs.InRange.{Fits}
use Rattle.wire_json.specs.Meant.{MeansText}
use Rattle.wire_json.specs.Parsed.{IsOfType}
use Rattle.schema_table.specs.Printed.{IsJsonOf, Prints}

-- a text is no object with the only member `value`
abbrev pub IsBare : List ℕ → Type 0
IsBare text = (j k : Json) → IsJsonOf text j → j ≢ object (member (codes "value") k no_members)

-- what is read from such a text that was printed of a value, has its bytes
abbrev pub ReadsPrinted : Schema → ℕ → Type 0
ReadsPrinted schema i = (hex : Bool) (depth most : ℕ) (v w : Value) (text : List ℕ) → Fits schema depth i v → IsOfType most schema.nodes.items i w → Prints hex schema depth i v text → IsBare text → MeansText schema most i text w → AreOneTree v w

-- such a text means the value, so it isn't refused
abbrev pub TakesPrinted : Schema → ℕ → Type 0
TakesPrinted schema i = (hex : Bool) (depth most : ℕ) (v : Value) (text : List ℕ) → Fits schema depth i v → depth ≤ most → Prints hex schema depth i v text → IsBare text → MeansText schema most i text v

-- the line of a receiver for a value with this text, without the line feed
abbrev pub line_inside : List ℕ → List ℕ
line_inside text = codes "{\"value\":" ++ (text ++ codes "}")

-- what is read from that line, has the bytes of the value
abbrev pub ReadsLine : Schema → ℕ → Type 0
ReadsLine schema i =
    (hex : Bool) (depth most : ℕ) (v w : Value) (text : List ℕ) → Fits schema depth i v → IsOfType most schema.nodes.items i w → depth ≤ most → Prints hex schema depth i v text → MeansText schema most i (line_inside text) w
    → AreOneTree v w

-- that line means the value, so it isn't refused
abbrev pub TakesLine : Schema → ℕ → Type 0
TakesLine schema i = (hex : Bool) (depth most : ℕ) (v : Value) (text : List ℕ) → Fits schema depth i v → depth ≤ most → Prints hex schema depth i v text → MeansText schema most i (line_inside text) v

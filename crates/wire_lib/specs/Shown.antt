-- Which lines of a stream are shown, with their time, and in which colour.
use Rattle.std.specs.Prelude.{◌≡◌, ◌<◌, ℕ, ◌/◌, ◌%◌, Bool, true, false, ◌&&◌, ◌||◌, not, List, [], ◌∷◌, ◌++◌, length, take, All, flat_map, Option, Some, None, Vec, bytes_eq, codes, decimal, if◌then◌else◌}
use Rattle.std.specs.Global.{Global}
use Rattle.wire_lib.specs.Sent.{IsTextOf, LacksFeed, last_line, with_feed}
use Rattle.wire_lib.specs.declared.shown.Shown.{Shown}
use Rattle.wire_lib.specs.declared.watching.screen.TheConstants.{RED, PLAIN}

-- a line begins with these bytes
abbrev pub begins_with : List ℕ → List ℕ → Bool
begins_with front line = bytes_eq front (take (length front) line)

-- a line is a value's
abbrev pub is_value_line : List ℕ → Bool
is_value_line line = begins_with (codes "{\"value\":") line

-- how the lines of a variant begin that has no payload
abbrev pub name_line : List ℕ → List ℕ
name_line name = codes "{\"value\":" ++ (codes "\"" ++ (name ++ codes "\"}"))

-- how the lines of a variant begin that has one
abbrev pub payload_line : List ℕ → List ℕ
payload_line name = codes "{\"value\":" ++ (codes "{\"" ++ (name ++ codes "\":"))

-- a line is shown if it isn't a value's, if all values are shown, or if its value is of the variant
abbrev pub is_line_shown : Option (List ℕ) → List ℕ → Bool
is_line_shown None line = true
is_line_shown (Some name) line =
    not (is_value_line line) || (begins_with (name_line name) line || begins_with (payload_line name) line)

-- the first member of an object, the time in seconds with three decimals, by milliseconds
abbrev pub time_front : ℕ → List ℕ
time_front t = codes "{\"time\":" ++ (decimal (t / 1000) ++ (codes "." ++ (decimal (t / 100 % 10)
    ++ (decimal (t / 10 % 10) ++ (decimal (t % 10) ++ codes ",")))))

-- a line with the time, if there is one, as the first member of its object
abbrev pub line_timed : Option ℕ → List ℕ → List ℕ
line_timed None line = line
line_timed (Some t) [] = []
line_timed (Some t) (brace ∷ members) = time_front t ++ members

-- a line in red, or without colour
abbrev pub line_coloured : Bool → List ℕ → List ℕ
line_coloured false line = line
line_coloured true line = RED.now ++ (line ++ PLAIN.now)

-- what is shown of a line: nothing, or the line with a line feed; with its time, and with damage in red if there is colour
abbrev pub line_shown : Option (List ℕ) → Bool → Option ℕ → List ℕ → List ℕ
line_shown only colour time line = if is_line_shown only line
    then line_coloured (colour && not (is_value_line line)) (line_timed time line) ++ 10 ∷ [] else []

-- how the lines of a variant begin, if one is shown alone: as those without and with a payload
abbrev pub BeginWith : Option (Vec ℕ Global × Vec ℕ Global) → Option (List ℕ) → Type 0
BeginWith None None = Unit {0}
BeginWith (Some both) (Some name) = (both.0.items ≡ name_line name) × (both.1.items ≡ payload_line name)
BeginWith _ _ = ⊥

-- Of lines all are shown, or of the values only those of this variant; with colour or without.
pub record ShowsBy (s : Shown) (only : Option (List ℕ)) (colour : Bool) : Type 0 where
  -- how the lines of the variant begin, if one is shown alone
  pub begin : BeginWith s.only only
  -- whether damage is red
  pub colour_is : s.colour ≡ colour

-- What is shown of each line of a text was appended, also of a last one without a line feed.
pub record PutsShown (only : Option (List ℕ)) (colour : Bool) (time : Option ℕ) (text out out' : List ℕ) : Type 0 where
  -- the lines of the text, and what is begun after them
  pub lines : List (List ℕ)
  pub begun : List ℕ
  pub parts : IsTextOf text lines begun
  -- nothing else was appended
  pub appended : out' ≡ out ++ flat_map (line_shown only colour time) (lines ++ last_line begun)

-- What is shown of the first lines of a text was appended, and nothing of what is behind them.
pub record PutsFirst (only : Option (List ℕ)) (colour : Bool) (time : Option ℕ) (text out out' : List ℕ) : Type 0 where
  -- the first lines of the text, and what is behind them
  pub lines : List (List ℕ)
  pub rest : List ℕ
  pub parts : text ≡ flat_map with_feed lines ++ rest
  pub apart : All LacksFeed lines
  -- there is something behind them
  pub some : 0 < length rest
  -- nothing else was appended
  pub appended : out' ≡ out ++ flat_map (line_shown only colour time) lines

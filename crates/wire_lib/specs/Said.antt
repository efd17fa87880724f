-- The lines of results.
use Rattle.std.specs.Prelude.{◌≡◌, ℕ, ◌+◌, ◌-◌, ◌^◌, ◌⊎◌, min, List, ◌++◌, length, codes, decimal}
use Rattle.cobs.specs.InPlace.{stretch}
use Rattle.cobs.specs.Sentinel.{masked}
use Rattle.schema_table.specs.declared.value.Value.{Value}
use Rattle.link.specs.declared.receiver.Answer.{Answer}
use Rattle.link.specs.declared.receiver.Answer.TheVariants as answer
use Rattle.schema_table.specs.Printed.{Prints}
use Rattle.wire_lib.specs.Sent.{LacksFeed}
use Rattle.wire_lib.specs.declared.receive.Reading.{Reading}

-- bytes may have been appended to others, which stand unchanged
abbrev pub OnlyAppended : List ℕ → List ℕ → Type 0
OnlyAppended lines lines' = (more : List ℕ) × (lines' ≡ lines ++ more)

-- The line of a value, by the text of its JSON.
abbrev pub value_line : List ℕ → List ℕ
value_line text = codes "{\"value\":" ++ (text ++ codes "}\n")

-- The line of a stretch that isn't a value: its word, the position of its first byte in the stream, and the position after its
-- last.
abbrev pub stretch_line : List ℕ → ℕ → ℕ → List ℕ
stretch_line what from to = codes "{\"" ++ (what ++ (codes "\":{\"from\":"
    ++ (decimal from ++ (codes ",\"to\":" ++ (decimal to ++ codes "}}\n")))))

-- A text is the JSON of a value, as it is read: it has no line feed.
abbrev pub IsTextFor : Reading → Value → List ℕ → Type 0
IsTextFor r v text = Prints r.hex r.schema.now r.depth r.place v text × LacksFeed text

-- This is the line of a result, with these two positions if it isn't a value.
abbrev pub IsLineOf : Reading → Answer Value → ℕ → ℕ → List ℕ → Type 0
IsLineOf r (answer.Value v) from to line = (text : List ℕ) × IsTextFor r v text × (line ≡ value_line text)
IsLineOf r answer.Damaged from to line = (line ≡ stretch_line (codes "damaged") from to)
    ⊎ (line ≡ stretch_line (codes "too_deep") from to)
IsLineOf r answer.TooLong from to line = line ≡ stretch_line (codes "too_long") from to
IsLineOf r answer.Cut from to line = line ≡ stretch_line (codes "cut") from to

-- The line of a result was appended to others.
pub record SaysLine (r : Reading) (a : Answer Value) (from to : ℕ) (lines lines' : List ℕ) : Type 0 where
  -- the line
  pub line : List ℕ
  -- it is the line of this result
  pub is : IsLineOf r a from to line
  -- and nothing else was appended
  pub appended : lines' ≡ lines ++ line

-- the end of what is known of a stretch that is too long: all that came, and the rest of the chunk before the next sentinel
abbrev pub known_to : ℕ → ℕ → List ℕ → ℕ
known_to came sentinel left = min (came + length (stretch (masked sentinel left))) (2 ^ 64 - 1)

-- the second position in a result's line: of a stretch that is too long, the end of what is known of it
abbrev pub end_said : Answer Value → ℕ → ℕ → ℕ
end_said answer.TooLong last known = known
end_said _ last known = last

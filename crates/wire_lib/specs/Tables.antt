-- What a table of messages keeps.
use Rattle.std.specs.Prelude.{◌≡◌, ℕ, ◌+◌, ◌-◌, List, ◌∷◌, ◌++◌, length, drop, map, max, String, string_bytes}
use Rattle.std.specs.Global.{Global}
use Rattle.wire_lib.specs.Rates.{capped, HasTimed, newest}
use Rattle.wire_lib.specs.declared.watching.table.Row.{Row}
use Rattle.wire_lib.specs.declared.watching.table.Table.{Table}

-- A message with this text was counted in a row, in this window of time.
pub record IsNoted (text : String Global) (window : ℕ) (old new : Row) : Type 0 where
  -- the kind keeps its name
  pub name : new.name ≡ old.name
  -- one message more
  pub count : new.count ≡ capped (old.count + 1)
  -- its text is the last one's
  pub last : new.last ≡ text
  -- the rate has it too, in its window or the latest
  pub rate : (times : List ℕ) → HasTimed old.rate times
      → HasTimed new.rate (max window (newest times) ∷ times)

-- the last n of these, or all if there are fewer
abbrev pub last_of : {A : Type 0} → ℕ → List A → List A
last_of n xs = drop (length xs - n) xs

-- the names of the kinds that rows are of
abbrev pub row_names : List Row → List (List ℕ)
row_names rows = map (λ row. string_bytes row.name) rows

-- of the damages that a table kept, and of these texts after them, it keeps the last three
abbrev pub KeepsToo : List (List ℕ) → Table → Table → Type 0
KeepsToo texts old new =
    map string_bytes new.damages.items ≡ last_of 3 (map string_bytes old.damages.items ++ texts)

-- A table counts and keeps what it did before.
pub record StaysAs (old new : Table) : Type 0 where
  -- the kinds, with their numbers and last messages
  pub rows : new.rows ≡ old.rows
  -- the number of damages
  pub damaged : new.damaged ≡ old.damaged
  -- the texts of the last ones
  pub damages : new.damages.items ≡ old.damages.items

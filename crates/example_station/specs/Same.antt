-- Commands with equal fields.
use Rattle.std.specs.Prelude.{◌≡◌, string_bytes}
use Rattle.postcard_tree.specs.Alike.{AlikeLists}
use Rattle.example_station.specs.declared.messages.SensorReading.{SensorReading}
use Rattle.example_station.specs.declared.messages.Command.{Command}
use Rattle.example_station.specs.declared.messages.Command.TheVariants.{Stop, Sample, Move, Both, Say, Many}

-- the same variant, with equal fields; texts by their bytes, readings one by one
abbrev pub SameCommand : (SensorReading → SensorReading → Type 0) → Command → Command → Type 0
SameCommand same Stop Stop = Unit {0}
SameCommand same (Sample v) (Sample w) = v ≡ w
SameCommand same (Move a b) (Move c d) = (a ≡ c) × (b ≡ d)
SameCommand same (Both a b) (Both c d) = (a ≡ c) × (b ≡ d)
SameCommand same (Say v) (Say w) = string_bytes v ≡ string_bytes w
SameCommand same (Many v) (Many w) = AlikeLists same v.items w.items
SameCommand same _ _ = ⊥

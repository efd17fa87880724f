-- The tree of a reading.
use Rattle.std.specs.Prelude.{[], ◌∷◌, Option, Some, if◌then◌else◌}
use Rattle.postcard_tree.specs.Tree.{Tree, byte, number, parts, group_of, zigzag}
use Rattle.example_station.specs.declared.messages.SensorReading.{SensorReading}

-- the sensor, the time, the hundredths of a degree, and whether they are valid
abbrev pub reading_tree : SensorReading → Option Tree
reading_tree v = group_of (parts (Some (number 16 v.sensor) ∷ Some (number 64 v.at)
    ∷ Some (number 16 (zigzag v.celsius)) ∷ Some (byte (if v.valid then 1 else 0)) ∷ []))

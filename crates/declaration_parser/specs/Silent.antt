-- Whether anything is said to be wrong.
use Rattle.std.specs.Prelude.{◌≡◌, false, [], string_bytes}
use Rattle.declaration_parser.specs.declared.faults.Faults.{Faults}

-- nothing is said, and memory was never short
abbrev pub SaysNothing : Faults → Type 0
SaysNothing faults = (string_bytes faults.whole ≡ []) × (faults.failed ≡ false)

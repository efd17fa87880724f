-- What a clause reads of a store over a file.
use Rattle.std.specs.Prelude.{None}
use Rattle.line_io.specs.Device.{LineState}
use Rattle.journal.specs.declared.stores.file.Stored.{Stored}

-- its state: no contract can say what a file holds
abbrev pub file_line : {F : Type 0} → Stored F → LineState
file_line s = record { told = None; faults = s.faults; calls_left = s.calls }

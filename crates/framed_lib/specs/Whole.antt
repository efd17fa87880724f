-- Where a reader of bytes that lie in memory stands.
use Rattle.std.specs.Prelude.{Some}
use Rattle.line_io.specs.Device.{LineState}
use Rattle.framed_lib.specs.declared.whole.Whole.{Whole}

-- the bytes that are left, no fault, and the calls that it still answers
abbrev pub whole_line : Whole → LineState
whole_line w = record { told = Some w.rest.now; faults = 0; calls_left = w.calls }

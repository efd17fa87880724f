-- What a report says.
use Rattle.std.specs.Prelude.{ℕ}
use Rattle.cobs.specs.declared.dec.report.DecodeReport.{DecodeReport}

-- how many bytes of the source were used
abbrev pub parsed_size : DecodeReport → ℕ
parsed_size r = r.parsed

-- how long the message is
abbrev pub frame_size : DecodeReport → ℕ
frame_size r = r.decoded

-- the report of these sizes
abbrev pub report : ℕ → ℕ → DecodeReport
report parsed decoded = record { parsed = parsed; decoded = decoded }

-- What a clause reads of a device over a writer or a reader of std.
use Rattle.std.specs.Prelude.{ℕ, List, Option, None, ◌==◌, if◌then◌else◌}
use Rattle.line_io.specs.Device.{LineState}
use Rattle.line_io.specs.declared.writers.Writes.{Writes}
use Rattle.line_io.specs.declared.readers.Reads.{Reads}

-- `w.into_inner()`
abbrev pub inner_writer : {W : Type 0} → Writes W → W
inner_writer w = w.inner

-- `r.into_inner()`
abbrev pub inner_reader : {R : Type 0} → Reads R → R
inner_reader r = r.inner

-- the state of a device over a writer: the bytes that the writer holds, if it reports them; none from a fault on
abbrev pub writes_line : {W : Type 0} → (W → Option (List ℕ)) → Writes W → LineState
writes_line contents w = record {
  told = if w.faults == 0 then contents w.inner else None;
  faults = w.faults;
  calls_left = w.calls;
}

-- the state of a device over a reader: the bytes that the reader will give, likewise
abbrev pub reads_line : {R : Type 0} → (R → Option (List ℕ)) → Reads R → LineState
reads_line remaining r = record {
  told = if r.faults == 0 then remaining r.inner else None;
  faults = r.faults;
  calls_left = r.calls;
}

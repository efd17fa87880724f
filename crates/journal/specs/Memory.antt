-- What a clause reads of a store in memory.
use Rattle.std.specs.Prelude.{ℕ, List, Option, Some}
use Rattle.line_io.specs.Device.{LineState}
use Rattle.journal.specs.declared.stores.memory.MemoryStore.{MemoryStore}

-- the bytes that it holds
abbrev pub bytes_in : MemoryStore → List ℕ
bytes_in m = m.bytes.items

-- its state: it reports all bytes that it holds
abbrev pub line_in : MemoryStore → LineState
line_in m = record { told = Some m.bytes.items; faults = m.faults; calls_left = m.calls }

-- how many no crash takes
abbrev pub settled_in : MemoryStore → ℕ
settled_in m = m.settled

-- after how many more bytes an append fails once, if one will
abbrev pub fault_in : MemoryStore → Option ℕ
fault_in m = m.fault

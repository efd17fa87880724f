-- What a clause reads of a device over memory.
use Rattle.std.specs.Prelude.{ℕ, ◌-◌, List, length, take, Some, vec_capacity}
use Rattle.line_io.specs.Device.{LineState}
use Rattle.std.specs.Borrow.{MutBor}
use Rattle.line_io.specs.Plan.{Plan, failing}
use Rattle.line_io.specs.declared.memory.Out.{Out}
use Rattle.line_io.specs.declared.memory.In.{In}
use Rattle.line_io.specs.declared.memory.owned.OwnedOut.{OwnedOut}

-- the buffer that it writes into
abbrev pub out_buffer : Out → MutBor (List ℕ)
out_buffer o = o.buffer

-- the bytes that it has taken, at the front of its buffer
abbrev pub out_bytes : Out → List ℕ
out_bytes o = take o.moved o.buffer.now

-- how many bytes it has taken
abbrev pub out_moved : Out → ℕ
out_moved o = o.moved

-- how many more bytes fit its buffer
abbrev pub out_room : Out → ℕ
out_room o = length o.buffer.now - o.moved

-- its plan
abbrev pub out_plan : Out → Plan
out_plan o = record { each = o.each; fault = o.fault }

-- the bytes that are still to come
abbrev pub in_bytes : In → List ℕ
in_bytes i = i.rest.now

-- how many bytes it has given
abbrev pub in_moved : In → ℕ
in_moved i = i.given

-- its plan
abbrev pub in_plan : In → Plan
in_plan i = record { each = i.each; fault = failing i.fault }

-- the bytes that it holds
abbrev pub owned_bytes : OwnedOut → List ℕ
owned_bytes o = o.bytes.items

-- how many more bytes fit its vector without an allocation
abbrev pub owned_room : OwnedOut → ℕ
owned_room o = vec_capacity o.bytes - length o.bytes.items

-- its plan
abbrev pub owned_plan : OwnedOut → Plan
owned_plan o = record { each = o.each; fault = o.fault }

-- its state
abbrev pub out_line : Out → LineState
out_line d = record { told = Some (out_bytes d); faults = d.faults; calls_left = d.calls }

-- its state
abbrev pub in_line : In → LineState
in_line d = record { told = Some (in_bytes d); faults = d.faults; calls_left = d.calls }

-- its state
abbrev pub owned_line : OwnedOut → LineState
owned_line d = record { told = Some (owned_bytes d); faults = d.faults; calls_left = d.calls }

-- What the right to bytes ends as, once a `&mut` of them has ended.
use Rattle.std.specs.Prelude.{ℕ, List, []}
use Rattle.std.specs.Borrow.{Fml, MutBor, Array, Lends, u8}
use mir.Syntax.{named}
use Rattle.spans.specs.declared.memory.Memory.{Memory}
use Rattle.spans.specs.contracts.memory.Memory.{the_row}
use Rattle.spans.specs.declared.memory.Writable.{Writable}
use Rattle.spans.specs.contracts.memory.Writable as W'
use Rattle.spans.specs.contracts.memory.WritableAccess.TheImpl as wa

-- a memory with other bytes
abbrev pub with_bytes : Memory Writable → List ℕ → Memory Writable
with_bytes m ws = record { mark = m.mark; place = m.place; name = m.name; bytes = ws }

-- all of a memory's bytes are borrowed: it ends with what is left of them, and is otherwise unchanged
abbrev pub lends_all : MutBor (Memory Writable) → MutBor (List ℕ) → Fml
lends_all m r = Lends (the_row (record { mir = named 1; lft = [] }) W'.the_row wa.ghosts)
    (Array u8 0) m r (with_bytes m.now)

use Rattle.std.proofs.Common.{arith}
use Rattle.journal.proofs.MovingLemmas.{gave}
use Rattle.journal.proofs.stores.memory.MemoryStoreStore.read_at.Goals as goal

pub returns-clause-bytes : goal.returns-clause-bytes
returns-clause-bytes c =
    gave _ _ _ _ c.min-start.result c.min-count.result _ (omega arith) (omega arith) (omega arith) (rw c.deref.ensures.value at c.copy_from_slice.ensures.after)

use Rattle.std.proofs.Common.{length}
use Rattle.cobs.proofs.LengthsLemmas.{Counted}
use Rattle.cobs.proofs.enc.whole.length_of_blocks.Given as goal

abbrev pub invariant-loop-rest : goal.invariant-loop-rest
invariant-loop-rest l = Counted l.fn.source l.full_runs l.rest

abbrev pub decreases-loop-rest : goal.decreases-loop-rest
decreases-loop-rest l = length l.rest

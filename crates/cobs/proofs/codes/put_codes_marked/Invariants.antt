use Rattle.std.proofs.Common.{take, drop}
use Rattle.cobs.specs.Sentinel.{masked}
use Rattle.cobs.proofs.LanesLemmas.{Going}
use Rattle.cobs.proofs.codes.put_codes_marked.Given as goal

abbrev pub invariant-loop-zeros : goal.invariant-loop-zeros
invariant-loop-zeros l = Going (masked l.sentinel l.fn.dest) l.fn.at.code_at l.fn.at.len (masked l.sentinel (take l.n (drop l.fn.at.len l.fn.dest))) (masked l.sentinel l.dest) l.code l.zeros

abbrev pub decreases-loop-zeros : goal.decreases-loop-zeros
decreases-loop-zeros l = l.zeros

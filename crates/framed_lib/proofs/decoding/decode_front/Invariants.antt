use Rattle.framed_lib.proofs.PairsLemmas.{Turned}
use Rattle.framed_lib.proofs.decoding.decode_front.Given as goal

abbrev pub invariant-loop-at : goal.invariant-loop-at
invariant-loop-at l = Turned l.fn.digits l.digits l.at

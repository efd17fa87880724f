use Rattle.std.proofs.Common.{length}
use Rattle.bench_layers.proofs.receiving.push_piece.Given as goal

abbrev pub decreases-loop-rest : goal.decreases-loop-rest
decreases-loop-rest g l = length l.rest

use Rattle.std.proofs.Common.{◌+◌, ◌*◌}
use Rattle.declarations.proofs.builder.Builder.+lengths.Given as goal

abbrev pub decreases-operand : goal.decreases-operand
decreases-operand l = 8 * l.depth

abbrev pub decreases-value : goal.decreases-value
decreases-value l = 8 * l.depth + l.kinds + 1

use Rattle.std.specs.Float.{binary32}
use Rattle.std.proofs.Common.{◌∙◌}
use Rattle.std.proofs.lemmas.Bool.{le-ltb, lt-ltb}
use Rattle.std.proofs.lemmas.Float.{T_from_false}
use lib.Ieee.Bits.{nan_bits_above}
use Rattle.wire_print.proofs.FloatLemmas.{nan_above}
use Rattle.wire_print.proofs.floats.single.Goals as goal

pub float_from_bits-float : goal.float_from_bits-float
float_from_bits-float c = T_from_false _ (nan_bits_above binary32 c.args.bits ∙ le-ltb _ _ c.if-bits-gt-EXPONENT.false)

pub returns-then-bits-gt-EXPONENT-clause-none : goal.returns-then-bits-gt-EXPONENT-clause-none
returns-then-bits-gt-EXPONENT-clause-none c n = nan_above binary32 c.args.bits (lt-ltb _ _ c.if-bits-gt-EXPONENT.true)

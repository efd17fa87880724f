use Rattle.std.proofs.Common.{rules}
use Rattle.std.specs.Float.{binary32}
use Rattle.std.proofs.lemmas.Float.{T_from_true}
use lib.Ieee.Bits.{of_bits-to_bits}
use Rattle.wire_json.proofs.floats.single_bits.Goals as goal

pub returns-then-is_finite-clause-some : goal.returns-then-is_finite-clause-some
returns-then-is_finite-clause-some c = (of_bits-to_bits binary32 c.args.number (T_from_true _ c.well_formed.0.1), search rules)

use Rattle.std.proofs.Common.{refl}
use Rattle.cobs.proofs.MaskingLemmas.{masked_zero, masked_twice}
use Rattle.cobs.proofs.laws.unmasked.Goals as goal

pub returns : goal.returns
returns c = record { zero = masked_zero; zero_byte = λ b. refl; twice = masked_twice }

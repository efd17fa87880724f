use Rattle.cobs.proofs.ZerosLemmas.{zero_answers, zero_refuses, zero_gives}
use Rattle.cobs.proofs.laws.answers.Goals as goal

pub returns : goal.returns
returns c = record { frames = zero_answers; others = zero_refuses; only = zero_gives }

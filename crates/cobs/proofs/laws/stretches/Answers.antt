use Rattle.cobs.proofs.AnsweringLemmas.{decodes_stretches, refuses_stretches}
use Rattle.cobs.proofs.laws.stretches.Goals as goal

pub returns : goal.returns
returns c = record { frames = decodes_stretches; others = refuses_stretches }

use Rattle.cobs.proofs.AnsweringLemmas.{decodes_frames, refuses_sources}
use Rattle.cobs.proofs.laws.sources.Goals as goal

pub returns : goal.returns
returns c = record { frames = decodes_frames; others = refuses_sources }

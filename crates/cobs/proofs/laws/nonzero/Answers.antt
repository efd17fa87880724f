use Rattle.cobs.proofs.DecodingLemmas.{frame_nonzero}
use Rattle.cobs.proofs.MaskingLemmas.{none_is_sentinel}
use Rattle.cobs.proofs.laws.nonzero.Goals as goal

pub returns : goal.returns
returns c = record { zero = frame_nonzero; sentinel = λ s f m h. none_is_sentinel s f (frame_nonzero f m h) }

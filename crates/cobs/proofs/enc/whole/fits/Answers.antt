use Rattle.std.proofs.Common.{arith, sym, ◌∙◌}
use Rattle.std.proofs.lemmas.Bool.{leb-true, ltb-true}
use Rattle.cobs.proofs.LengthsLemmas.{frame_at_least, frame_at_most}
use Rattle.cobs.proofs.enc.whole.fits.Goals as goal
use Rattle.cobs.proofs.enc.whole.fits.Goals.{then-n-le254, else-n-le254}

pub returns-then-max_encoding_length-room : goal.returns-then-max_encoding_length-room
returns-then-max_encoding_length-room c = (
  λ _. elim c.if-n-le254.branch [
    | then-n-le254 w ↦ omega (arith, frame_at_most c.args.source.now, w.if-n-le254.true, c.if-n-room.true)
    | else-n-le254 w ↦ omega (arith, frame_at_most c.args.source.now, w.max_encoding_length.ensures, leb-true _ _ (sym w.value-is ∙ c.if-max_encoding_length-room.true))
  ],
  λ _. c.if-max_encoding_length-room.true,
)

pub returns-else-n-room : goal.returns-else-n-room
returns-else-n-room c = (
  λ t. absurd (omega (arith, ltb-true _ _ t, c.if-n-room.false)),
  λ l. absurd (omega (arith, frame_at_least c.args.source.now, c.if-n-room.false, l)),
)

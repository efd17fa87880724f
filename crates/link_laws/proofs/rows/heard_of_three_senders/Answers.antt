use Rattle.std.proofs.Common.{◌<◌, false, List, [], ◌∷◌, length, refl, arith}
use Rattle.postcard_tree.specs.Spelling.{varint}
use Rattle.postcard_tree.specs.Reading.{TakesNumber}
use Rattle.link.specs.Run.{Send, completed, broken, IsFramed, sent}
use Rattle.link_laws.specs.Rows.{t300, t5}
use Rattle.link_laws.proofs.rows.heard_of_three_senders.Goals as goal

framed_300 : IsFramed (TakesNumber 32) 8 t300
unfolding varint
framed_300 = record { taken = (refl, omega arith); within = omega arith }

framed_5 : IsFramed (TakesNumber 32) 8 t5
unfolding varint
framed_5 = record { taken = (refl, omega arith); within = omega arith }

short_300 : 2 < length (sent 0 false t300)
unfolding varint
short_300 = omega arith

short_5 : 1 < length (sent 0 false t5)
unfolding varint
short_5 = omega arith

run : List (List Send)
run = (broken t300 2 ∷ []) ∷ (broken t5 1 ∷ []) ∷ (completed t5 ∷ []) ∷ []

pub returns : goal.returns
unfolding varint run
returns c = ((c.told.ensures.ordinary 8 0) run _ (((framed_300, short_300), tt), (((framed_5, short_5), tt), ((framed_5, tt), tt)))).1 refl

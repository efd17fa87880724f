use Rattle.std.proofs.Common.{◌<◌, false, List, [], ◌∷◌, length, refl, arith}
use Rattle.postcard_tree.specs.Spelling.{varint}
use Rattle.postcard_tree.specs.Reading.{TakesNumber}
use Rattle.link.specs.Run.{Send, completed, broken, IsFramed, sent}
use Rattle.link_laws.specs.Rows.{t300}
use Rattle.link_laws.proofs.rows.heard_with_another_sentinel.Goals as goal

framed_300 : IsFramed (TakesNumber 32) 8 t300
unfolding varint
framed_300 = record { taken = (refl, omega arith); within = omega arith }

short_300 : 2 < length (sent 10 false t300)
unfolding varint
short_300 = omega arith

run : List (List Send)
run = (broken t300 2 ∷ []) ∷ (completed t300 ∷ []) ∷ []

pub returns-clause-heard : goal.returns-clause-heard
unfolding varint run
returns-clause-heard c = ((c.told.ensures.ordinary 8 10) run _ (((framed_300, short_300), tt), ((framed_300, tt), tt))).1 refl

use Rattle.framed_lib.specs.Telling.{tells_one}
use Rattle.framed_lib.proofs.telling.TellingHearerString.hear.Goals as goal

pub returns : goal.returns
returns g c = tells_one g.W.Outlet.line _ _ c.args.answer c.tell.ensures

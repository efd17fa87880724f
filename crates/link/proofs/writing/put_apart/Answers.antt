use Rattle.std.proofs.Common.{◌∷◌, [], append_assoc}
use Rattle.link.specs.Run.{lead}
use Rattle.link.proofs.SendingLemmas.{writes_then, writes_more}
use Rattle.link.proofs.writing.put_apart.Goals as goal

pub returns-in-Ok : goal.returns-in-Ok
returns-in-Ok g c =
    rw (← append_assoc (lead c.args.sentinel c.args.clean) c.args.frame.now (c.args.sentinel ∷ [])) (writes_then _ _ _ _ _ _ c.in-Ok.ensures c.write_all.ensures)

pub returns-in-Err : goal.returns-in-Err
returns-in-Err g c =
    rw (← append_assoc (lead c.args.sentinel c.args.clean) c.args.frame.now (c.args.sentinel ∷ [])) (writes_more _ _ _ _ _ c.in-Err.ensures)

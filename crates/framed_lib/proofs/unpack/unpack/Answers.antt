use Rattle.std.proofs.Common.{refl}
use Rattle.link.specs.Each.{HasReadNow}
use Rattle.link.specs.Firsts.{not_both as no_both}
use Rattle.framed_lib.specs.Output.{WritingByFew, few-none}
use Rattle.framed_lib.proofs.WorkLemmas.{bytes-worked, most-few}
use Rattle.framed_lib.proofs.unpack.unpack.Goals as goal

pub returns-then-hex-clause-worked : goal.returns-then-hex-clause-worked
returns-then-hex-clause-worked g c = rw c.if-hex.true c.unpack_hex.ensures.worked

pub returns-then-hex-clause-live : goal.returns-then-hex-clause-live
returns-then-hex-clause-live g c = λ bytes. absurd (no_both c.args.hex c.if-hex.true bytes)

pub returns-clause-live : goal.returns-clause-live
returns-clause-live g c = λ bytes. c.tell_answers-told.ensures.live refl

pub returns-clause-worked : goal.returns-clause-worked
returns-clause-worked g c =
    let t = c.tell_answers-told.ensures in
    let told = c.tell_answers-told.result in
    rw (c.if-hex.false, c.outcome.ensures)
    (bytes-worked c.args.strict c.args.sentinel t.told.0
    (HasReadNow (g.R.Inlet.line c.args.reader.now) (g.R.Inlet.line c.tell_answers-told.new.reader))
    (WritingByFew (g.W.Outlet.line c.args.writer) (g.W.Outlet.line told.writer))
    (WritingByFew (g.E.Outlet.line c.args.faults.now) (g.E.Outlet.line c.args.faults.now))
    told.good (few-none _) told.end told.written t.told.2 t.told.1 (λ none. (t.stopped none).1) (t.first refl))

pub returns-then-hex-clause-calls : goal.returns-then-hex-clause-calls
returns-then-hex-clause-calls g c = c.unpack_hex.ensures.calls

pub returns-clause-calls : goal.returns-clause-calls
returns-clause-calls g c = most-few _ _ c.tell_answers-told.result.end c.tell_answers-told.ensures.few

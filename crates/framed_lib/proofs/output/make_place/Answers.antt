use Rattle.framed_lib.proofs.OutputLemmas.{on_err, few-ok, few-err, put-none, put-away}
use Rattle.std.proofs.Common.{take}
use Rattle.framed_lib.proofs.output.make_place.Goals as goal

pub returns-then-room-held-ge-PLACE-clause-ok : goal.returns-then-room-held-ge-PLACE-clause-ok
returns-then-room-held-ge-PLACE-clause-ok g c = put-none _ (take c.args.held c.args.room.now)

pub returns-clause-ok : goal.returns-clause-ok
returns-clause-ok g c = put-away (take c.args.held c.args.room.now) c.args.room.now (few-ok _ c.in_ok-write_all.ensures)

pub returns-in_err-write_all-clause-err : goal.returns-in_err-write_all-clause-err
returns-in_err-write_all-clause-err g c = on_err _ (few-err _ c.in_err-write_all.ensures)

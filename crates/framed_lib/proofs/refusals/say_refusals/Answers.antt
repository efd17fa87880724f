use Rattle.std.proofs.Common.{ℕ, List}
use Rattle.line_io.specs.Transfers.{broken}
use Rattle.framed_lib.specs.Output.{WritingByFew}
use Rattle.framed_lib.specs.Program.{SaysFirst}
use Rattle.framed_lib.specs.Sending.{refusals}
use Rattle.framed_lib.proofs.OutputLemmas.{on_err, few-ok, few-err, put-flush, put-went}
use Rattle.framed_lib.proofs.SendingLemmas.{all-first}
use Rattle.framed_lib.proofs.refusals.say_refusals.Goals as goal

pub returns-clause-ok : goal.returns-clause-ok
returns-clause-ok g c =
    let sent = c.in_ok-good.ensures.ok in
    (sent.0, sent.1, sent.2, put-went {a = refusals 1 sent.0} sent.3 (rw c.as_slice.ensures.value at (few-ok _ c.in_ok-write_all.ensures)))

pub returns-in_err-write_all-clause-err : goal.returns-in_err-write_all-clause-err
returns-in_err-write_all-clause-err g c =
    let sent = c.in_ok-good.ensures.ok in
    let h : (said : List ℕ) × SaysFirst c.args.text.now said
    × WritingByFew (g.E.Outlet.line c.args.faults.now) (g.E.Outlet.line c.write_all.new.outlet) broken said =
    (refusals 1 sent.0, all-first c.args.text.now sent.0 sent.1, put-flush {a = refusals 1 sent.0} sent.3 (rw c.as_slice.ensures.value at (few-err _ c.in_err-write_all.ensures))) in
    on_err _ h

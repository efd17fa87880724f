use Rattle.std.proofs.Common.{refl, ap, length, [], ◌∷◌, ◌++◌, arith}
use Rattle.std.proofs.lemmas.Result.{on_ok_weaker, on_err_weaker}
use Rattle.framed_lib.proofs.OutputLemmas.{on_err, few-ok, few-err, put-done, put-flush, put-went, put-placed, put-settled}
use Rattle.framed_lib.proofs.SendingLemmas.{Sent-none, Sent-more, clean-more}
use Rattle.framed_lib.proofs.FramesLemmas.{none-put, shown-more, line-broke, all-put}
use Rattle.framed_lib.proofs.pack.write_frames.Goals as goal

pub loop-line-init : goal.loop-line-init
loop-line-init g c = ([], Sent-none c.args.text.now, refl, none-put _ c.args.hex, c.requires, omega arith)

pub show_line-count-requires-clause-text : goal.show_line-count-requires-clause-text
show_line-count-requires-clause-text g c = λ t. (c.in-Some.ensures.utf8 (c.loop-line.invariant.4 t)).0

pub returns-in_err-kept-clause-err : goal.returns-in_err-kept-clause-err
returns-in_err-kept-clause-err g c =
    let i = c.loop-line.invariant in
    let sent = c.show_line-count.ensures.sent in
    let placed = put-placed (g.W.Outlet.line c.loop-line.writer) c.loop-line.held c.show_line-count.result _ c.loop-line.room c.show_line-count.new.room _ (omega (arith, i.5)) c.show_line-count.ensures.within sent.2 in
    on_err _
    (line-broke c.args.hex c.args.sentinel c.args.text.now c.loop-line.rest.now i.0 i.1 i.3 c.in-Some.line.now c.in-Some.after.now c.loop-line.clean sent.0 c.in-Some.ensures.line.0 sent.1 i.2
    (put-flush placed c.in_err-kept.ensures.err))

pub loop-line-preserved : goal.loop-line-preserved
loop-line-preserved g c =
    let i = c.loop-line.invariant in
    let sent = c.show_line-count.ensures.sent in
    let placed = put-placed (g.W.Outlet.line c.loop-line.writer) c.loop-line.held c.show_line-count.result _ c.loop-line.room c.show_line-count.new.room _ (omega (arith, i.5)) c.show_line-count.ensures.within sent.2 in (
      i.0 ++ sent.0 ∷ [],
      Sent-more c.args.text.now c.loop-line.rest.now c.in-Some.line.now c.in-Some.after.now i.0 sent.0 i.1 c.in-Some.ensures.line.0 sent.1,
      clean-more c.loop-line.clean _ c.in-Some.line.now i.0 sent.0 i.2 sent.1 sent.3,
      put-done _ (shown-more c.args.hex c.args.sentinel c.loop-line.clean i.0 sent.0 i.2) i.3 (put-settled placed c.in_ok-kept.ensures.ok),
      λ t. (c.in-Some.ensures.utf8 (i.4 t)).1,
      omega (arith, c.in_ok-kept.ensures.place),
    )

pub returns-clause-ok : goal.returns-clause-ok
returns-clause-ok g c =
    let i = c.loop-line.invariant in
    let placed = put-placed (g.W.Outlet.line c.loop-line.writer) c.loop-line.held c.put_end-count.result _ c.loop-line.room c.put_end-count.new.room _ (omega (arith, i.5)) c.put_end-count.ensures.within c.put_end-count.ensures.end in
    let put = all-put c.args.hex c.args.sentinel c.args.text.now c.loop-line.rest.now i.0 i.1 i.3 (ap length c.in_default.ensures.line) placed in
    on_ok_weaker c.write_all.result (λ p sends a. put-went (put sends a) p) (few-ok _ c.write_all.ensures)

pub returns-clause-err : goal.returns-clause-err
returns-clause-err g c =
    let i = c.loop-line.invariant in
    let placed = put-placed (g.W.Outlet.line c.loop-line.writer) c.loop-line.held c.put_end-count.result _ c.loop-line.room c.put_end-count.new.room _ (omega (arith, i.5)) c.put_end-count.ensures.within c.put_end-count.ensures.end in
    let put = all-put c.args.hex c.args.sentinel c.args.text.now c.loop-line.rest.now i.0 i.1 i.3 (ap length c.in_default.ensures.line) placed in
    on_err_weaker c.write_all.result (λ p sends a. put-flush (put sends a) p) (few-err _ c.write_all.ensures)

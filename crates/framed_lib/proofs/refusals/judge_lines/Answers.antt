use Rattle.std.proofs.Common.{◌≡◌, ◌+◌, ◌∷◌, ◌++◌, [], length, ap, arith, ℕ, List}
use Rattle.std.proofs.lemmas.List.{length-append}
use Rattle.line_io.specs.Transfers.{broken}
use Rattle.framed_lib.specs.Output.{WritingByFew}
use Rattle.framed_lib.specs.Program.{SaysFirst}
use Rattle.framed_lib.specs.Sending.{refusals}
use Rattle.framed_lib.proofs.OutputLemmas.{on_err, put-done, put-broke}
use Rattle.framed_lib.proofs.SendingLemmas.{Sent-first, Sent-all, Sent-more, refusals-more, all-more}
use Rattle.framed_lib.proofs.refusals.judge_lines.Goals as goal

pub returns-in_err-sendable-clause-err : goal.returns-in_err-sendable-clause-err
returns-in_err-sendable-clause-err g c =
    let i = c.loop-line.invariant in
    let counted = i.3 in
    let one = c.in_err-sendable.ensures.err in
    let sends = i.0 ++ one.0 ∷ [] in
    let said = refusals-more (c.loop-line.lines + 1) i.0 one.0 (omega arith) in
    let first : SaysFirst c.args.text.now (refusals 1 sends) =
    Sent-first _ c.loop-line.rest.now c.in-Some.line.now _ i.0 one.0 i.1
    c.in-Some.ensures.line.0 one.1 in
    let line = g.E.Outlet.line in
    let h : (said : List ℕ) × SaysFirst c.args.text.now said
    × WritingByFew (line c.args.faults.now) (line c.judge_line.new.faults) broken said =
    (refusals 1 sends, first, rw said (put-broke _ i.2 one.2)) in
    on_err _ h

pub judge_line-requires : goal.judge_line-requires
judge_line-requires g c = λ t. (c.in-Some.ensures.utf8 (c.loop-line.invariant.6 t)).0

pub loop-line-preserved : goal.loop-line-preserved
loop-line-preserved g c =
    let i = c.loop-line.invariant in
    let cut = c.in-Some.ensures in
    let sent = c.in_ok-sendable.ensures.ok in
    let one : length (i.0 ++ sent.0 ∷ []) ≡ length i.0 + 1 = length-append i.0 (sent.0 ∷ []) in
    let counted = i.3 in
    let few = i.5 in (
      i.0 ++ sent.0 ∷ [],
      Sent-more _ c.loop-line.rest.now c.in-Some.line.now c.in-Some.after.now i.0 sent.0 i.1 cut.line.0 sent.1,
      put-done _ (refusals-more (c.loop-line.lines + 1) i.0 sent.0 (omega arith)) i.2 sent.3,
      omega arith,
      all-more _ _ i.0 sent.0 i.4 sent.2,
      omega arith,
      λ t. (cut.utf8 (i.6 t)).1,
    )

pub returns-clause-ok : goal.returns-clause-ok
returns-clause-ok g c =
    let i = c.loop-line.invariant in
    (i.0, Sent-all _ c.loop-line.rest.now i.0 i.1 (ap length c.in_default.ensures.line), i.4, i.2)

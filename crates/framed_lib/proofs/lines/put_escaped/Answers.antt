use Rattle.std.proofs.Common.{◌++◌, [], sym, ap, ◌∙◌, append_assoc}
use Rattle.std.proofs.lemmas.List.{append-nil}
use Rattle.std.proofs.lemmas.Result.{on_ok_weaker, on_err_weaker}
use Rattle.framed_lib.proofs.OutputLemmas.{on_err, put-then, put-done, put-breaks}
use Rattle.framed_lib.proofs.lines.put_escaped.Goals as goal

pub returns-in_err-put-clause-err : goal.returns-in_err-put-clause-err
returns-in_err-put-clause-err g c =
    let i = c.loop-run.invariant in
    on_err _ (put-breaks _ c.in-Some.run'.now _ (i.1 ∙ ap (λ t. i.0 ++ t) c.in-Some.ensures.written) i.2 c.in_err-put.ensures.err)

pub returns-in_err-put-2-clause-err : goal.returns-in_err-put-2-clause-err
returns-in_err-put-2-clause-err g c =
    let i = c.loop-run.invariant in
    on_err _
    (put-breaks _ c.in-Some.escaped.now _ (i.1 ∙ (ap (λ t. i.0 ++ t) c.in-Some.ensures.written ∙ sym (append_assoc i.0 c.in-Some.run'.now _)))
    (put-then i.2 c.in_ok-put.ensures.ok) c.in_err-put-2.ensures.err)

pub loop-run-preserved : goal.loop-run-preserved
loop-run-preserved g c =
    let i = c.loop-run.invariant in (
      (i.0 ++ c.in-Some.run'.now) ++ c.in-Some.escaped.now,
      i.1 ∙ (ap (λ t. i.0 ++ t) c.in-Some.ensures.written ∙ simp append_assoc),
      put-then (put-then i.2 c.in_ok-put.ensures.ok) c.in_ok-put-2.ensures.ok,
    )

pub returns-clause-ok : goal.returns-clause-ok
returns-clause-ok g c =
    let i = c.loop-run.invariant in
    on_ok_weaker c.put-2.result (λ p. put-done _ (i.1 ∙ ap (λ t. i.0 ++ t) c.in_default.ensures.written) i.2 p) c.put-2.ensures.ok

pub returns-clause-err : goal.returns-clause-err
returns-clause-err g c =
    let i = c.loop-run.invariant in
    on_err_weaker c.put-2.result
    (λ p. put-breaks _ c.loop-run.rest.now [] (i.1 ∙ ap (λ t. i.0 ++ t) (c.in_default.ensures.written ∙ sym (append-nil c.loop-run.rest.now))) i.2 p)
    c.put-2.ensures.err

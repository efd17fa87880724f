use Rattle.std.proofs.Common.{◌≡◌, [], ◌∷◌, ◌++◌, refl, sym, ◌∙◌, append_assoc}
use Rattle.std.specs.Prelude.{codes, decimal}
use Rattle.std.proofs.lemmas.Result.{on_ok_weaker, on_err_weaker}
use Rattle.framed_lib.proofs.OutputLemmas.{on_err, put-none, put-then, put-breaks}
use Rattle.framed_lib.proofs.refusals.refuse.Goals as goal

pub returns-in_err-put-clause-err : goal.returns-in_err-put-clause-err
returns-in_err-put-clause-err g c =
    on_err _
    (put-breaks _ (codes "line ") (decimal c.args.number ++ (codes ": refused" ++ 10 ∷ [])) refl (put-none _ _) c.in_err-put.ensures.err)

pub returns-in_err-put-2-clause-err : goal.returns-in_err-put-2-clause-err
returns-in_err-put-2-clause-err g c =
    let e : c.as_bytes.result.now ≡ decimal c.args.number = c.as_bytes.ensures.value ∙ c.format.ensures.text in
    on_err _
    (put-breaks _ (decimal c.args.number) (codes ": refused" ++ 10 ∷ []) refl c.in_ok-put.ensures.ok (rw e at c.in_err-put-2.ensures.err))

pub returns-clause-ok : goal.returns-clause-ok
returns-clause-ok g c =
    let e : c.as_bytes.result.now ≡ decimal c.args.number = c.as_bytes.ensures.value ∙ c.format.ensures.text in
    on_ok_weaker c.put-3.result (λ p. put-then c.in_ok-put.ensures.ok (put-then (rw e at c.in_ok-put-2.ensures.ok) p)) c.put-3.ensures.ok

pub returns-clause-err : goal.returns-clause-err
returns-clause-err g c =
    let e : c.as_bytes.result.now ≡ decimal c.args.number = c.as_bytes.ensures.value ∙ c.format.ensures.text in
    on_err_weaker c.put-3.result
    (λ p. put-breaks _ (codes ": refused" ++ 10 ∷ []) [] (sym (append_assoc (codes "line ") (decimal c.args.number) (codes ": refused" ++ 10 ∷ [])))
    (put-then c.in_ok-put.ensures.ok (rw e at c.in_ok-put-2.ensures.ok)) p)
    c.put-3.ensures.err

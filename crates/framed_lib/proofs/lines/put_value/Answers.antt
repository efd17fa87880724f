use Rattle.std.proofs.Common.{◌++◌, [], ◌∷◌, refl, sym, append_assoc}
use Rattle.std.specs.Prelude.{flat_map, codes}
use Rattle.std.proofs.lemmas.Result.{on_ok_weaker, on_err_weaker}
use Rattle.framed_lib.specs.Lines.{escape}
use Rattle.framed_lib.proofs.OutputLemmas.{on_err, put-none, put-then, put-breaks}
use Rattle.framed_lib.proofs.lines.put_value.Goals as goal

pub returns-in_err-put-clause-err : goal.returns-in_err-put-clause-err
returns-in_err-put-clause-err g c =
    on_err _ (put-breaks _ (codes "value ") (flat_map escape c.args.text.now ++ 10 ∷ []) refl (put-none _ _) c.in_err-put.ensures.err)

pub returns-in_err-put_escaped-clause-err : goal.returns-in_err-put_escaped-clause-err
returns-in_err-put_escaped-clause-err g c =
    on_err _ (put-breaks _ (flat_map escape c.args.text.now) (10 ∷ []) refl c.in_ok-put.ensures.ok c.in_err-put_escaped.ensures.err)

pub returns-clause-ok : goal.returns-clause-ok
returns-clause-ok g c =
    on_ok_weaker c.put-2.result (λ p. put-then c.in_ok-put.ensures.ok (put-then c.in_ok-put_escaped.ensures.ok p)) c.put-2.ensures.ok

pub returns-clause-err : goal.returns-clause-err
returns-clause-err g c =
    on_err_weaker c.put-2.result
    (λ p. put-breaks _ (10 ∷ []) [] (sym (append_assoc (codes "value ") (flat_map escape c.args.text.now) (10 ∷ [])))
    (put-then c.in_ok-put.ensures.ok c.in_ok-put_escaped.ensures.ok) p)
    c.put-2.ensures.err

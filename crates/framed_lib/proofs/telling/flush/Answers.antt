use Rattle.std.proofs.Common.{◌≡◌, [], arith}
use Rattle.std.proofs.lemmas.Grind.{common_steps}
use Rattle.framed_lib.proofs.OutputLemmas.{on_err, few-ok, few-err, few-none, put-none, put-flush, put-through}
use Rattle.framed_lib.proofs.telling.flush.Goals as goal

pub returns-clause-ok : goal.returns-clause-ok
returns-clause-ok g c =
    let held : c.as_slice.result.now ≡ c.args.held.now.items = grind (arith, common_steps) in
    let kept : c.clear.new.self.items ≡ [] = grind (arith, common_steps) in
    put-through held kept (few-ok _ c.in_ok-write_all.ensures) (few-none _)

pub returns-in_err-write_all-clause-err : goal.returns-in_err-write_all-clause-err
returns-in_err-write_all-clause-err g c =
    on_err _ (put-flush (put-none _ _) (rw c.as_slice.ensures.value at (few-err _ c.in_err-write_all.ensures)))

use Rattle.std.proofs.Common.{◌≡◌, [], arith}
use Rattle.std.proofs.lemmas.Grind.{common_steps}
use Rattle.std.proofs.lemmas.Result.{on_ok_weaker, on_err_weaker}
use Rattle.framed_lib.proofs.OutputLemmas.{few-ok, few-err, put-through, broke-through}
use Rattle.framed_lib.proofs.output.put.Goals as goal

pub returns-clause-ok : goal.returns-clause-ok
returns-clause-ok g c =
    let held : c.as_slice.result.now ≡ c.args.held.now.items = grind (arith, common_steps) in
    let kept : c.try_extend_from_slice-2.new.self.items ≡ [] = grind (arith, common_steps) in
    on_ok_weaker c.write_all-2.result (λ w. put-through held kept (few-ok _ c.in_ok-write_all.ensures) w) (few-ok _ c.write_all-2.ensures)

pub returns-clause-err : goal.returns-clause-err
returns-clause-err g c =
    let held : c.as_slice.result.now ≡ c.args.held.now.items = grind (arith, common_steps) in
    on_err_weaker c.write_all-2.result (λ w. broke-through held (few-ok _ c.in_ok-write_all.ensures) w) (few-err _ c.write_all-2.ensures)

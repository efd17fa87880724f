use Rattle.std.proofs.Common.{◌++◌, ap, ◌∙◌}
use Rattle.std.proofs.lemmas.Result.{on_ok_weaker}
use Rattle.wire_lib.proofs.LineLemmas.{on_appended}
use Rattle.wire_lib.proofs.receive.put_value_line.Goals as goal

pub returns-clause-line : goal.returns-clause-line
returns-clause-line c =
    let said = c.in_ok-write_line.ensures in
    on_ok_weaker c.extend_from_slice.result (λ e. (
      said.0,
      said.1,
      e ∙ ap (λ x. c.args.lines.now.items ++ x) (c.deref.ensures.value ∙ said.2),
    )) (on_appended c.extend_from_slice.result c.extend_from_slice.new.self.items _ _
    c.extend_from_slice.ensures.items)

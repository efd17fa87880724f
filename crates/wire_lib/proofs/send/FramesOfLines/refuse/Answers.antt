use Rattle.std.proofs.Common.{◌++◌, ap, ◌∙◌, string_bytes}
use Rattle.std.proofs.lemmas.Result.{on_ok_weaker}
use Rattle.wire_json.specs.Refused.{fault_line, located_why}
use Rattle.wire_lib.proofs.LineLemmas.{on_appended}
use Rattle.wire_lib.proofs.send.FramesOfLines.refuse.Goals as goal

pub returns-clause-said : goal.returns-clause-said
returns-clause-said c =
    let why = c.args.why.now in
    on_ok_weaker c.push_str.result
    (λ e. (
      located_why why.path why.why.now,
      e ∙ ap (λ x. string_bytes c.args.wrongs.now ++ x)
          (c.as_str.ensures.value ∙ c.in_ok-put_wrong.ensures.line ∙ ap (λ x. x ++ fault_line c.args.self.now.number why) c.new-line.ensures.bytes),
    ))
    (on_appended c.push_str.result (string_bytes c.push_str.new.self) _ _ c.push_str.ensures.bytes)

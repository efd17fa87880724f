use Rattle.std.proofs.Common.{◌≡◌, ◌-◌, ◌++◌, codes, length, subst, rules}
use Rattle.wire_lib.specs.Said.{stretch_line}
use Rattle.wire_lib.proofs.RawLemmas.{both_said}
use Rattle.wire_lib.proofs.raw.put_front.Goals as goal

pub returns-clause-other : goal.returns-clause-other
returns-clause-other c _ =
    let from : c.saturating_sub-from.result ≡ length c.args.message.now - length c.args.rest.now = search rules in
    record {
      value = c.args.value.now;
      rest = c.args.rest.now;
      read = c.requires.read;
      some_left = search rules;
      exact = c.requires.exact;
      text = c.in_ok-put_value_line.ensures.line.0;
      is_text = c.in_ok-put_value_line.ensures.line.1;
      appended = both_said _ _ _ _ _ c.in_ok-put_value_line.ensures.line.2
          (subst (λ x. c.put_stretch_line.new.lines.items ≡ c.put_value_line.new.lines.items ++ stretch_line (codes "rest") x (length c.args.message.now)) from c.in_ok-put_stretch_line.ensures.line);
    }

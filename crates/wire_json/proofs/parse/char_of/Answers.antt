use Rattle.std.proofs.Common.{length, sym, ap, ◌∙◌}
use Rattle.wire_json.proofs.LeafRefusals.{no_character, not_one_character, not_empty}
use Rattle.wire_json.proofs.parse.char_of.Goals.{in_default-via-in-Some+in_default, in_default-via-in_default}
use Rattle.wire_json.proofs.parse.char_of.Goals as goal

pub returns-in_default-clause-refused : goal.returns-in_default-clause-refused
returns-in_default-clause-refused c wrong =
    let e = sym c.chars-characters.ensures.rest in
    elim c.in_default.branch [
      | in_default-via-in-Some+in_default w ↦
          no_character c.args.text.now (λ d. not_one_character c.args.text.now c.next.new.self.rest.now c.next-2.new.self.rest.now w.in_default.field-0-0 w.in_default.field-0-1 d (e ∙ w.in_default.ensures.steps.0) w.in_default.ensures'.steps.0)
      | in_default-via-in_default w ↦
          let h = rw w.in_default.is-0 at c.next.ensures.steps in
          no_character c.args.text.now (not_empty c.args.text.now (ap length e ∙ h.0.0))
    ]

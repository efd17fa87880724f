use Rattle.std.proofs.Common.{arith, inl, sym, subst, ap, length, ◌∙◌}
use Rattle.wire_c.specs.Texts.{WritesFrames}
use Rattle.wire_c.proofs.FailureLemmas.{refuses_lines, why_wrong, write_length}
use Rattle.wire_c.proofs.calls.wire_c_write.Goals as goal

pub returns-in-Ok-clause-frames : goal.returns-in-Ok-clause-frames
returns-in-Ok-clause-frames c e = subst (λ xs. WritesFrames c.args.terms.now c.args.lines.now xs)
    (sym (c.said.ensures.text (λ f. omega (arith, e, f)) ∙ c.deref.ensures.value)) c.in-Ok.ensures.frames

pub returns-in-Ok-clause-length : goal.returns-in-Ok-clause-length
returns-in-Ok-clause-length c e = (
  c.in-Ok.frames.items,
  sym (c.said.ensures.length ∙ ap length c.deref.ensures.value),
  inl c.in-Ok.ensures.frames,
)

pub returns-in-Err-clause-refused : goal.returns-in-Err-clause-refused
returns-in-Err-clause-refused c e =
    refuses_lines c.args.terms.now c.args.lines.now _ _ _ c.in-Err.ensures.refused (c.failed.ensures.number (λ f. omega (arith, e, f)))
    (c.failed.ensures.text (λ f. omega (arith, e, f))) e

pub returns-in-Err-clause-wrong : goal.returns-in-Err-clause-wrong
returns-in-Err-clause-wrong c e =
    why_wrong c.args.declarations.now c.args.type_words.now _ _ _ c.in-Err.ensures.wrong (c.failed.ensures.number (λ f. omega (arith, e, f)))
    (c.failed.ensures.text (λ f. omega (arith, e, f))) e

pub returns-in-Err-clause-length : goal.returns-in-Err-clause-length
returns-in-Err-clause-length c e =
    write_length (WritesFrames c.args.terms.now c.args.lines.now) c.args.terms.now c.args.lines.now c.args.declarations.now
    c.args.type_words.now _ _ _ c.in-Err.ensures.refused c.in-Err.ensures.wrong c.failed.ensures.length (c.failed.ensures.longer e)

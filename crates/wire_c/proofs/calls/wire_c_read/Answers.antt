use Rattle.std.proofs.Common.{arith, inl, sym, subst, ap, length, ◌∙◌}
use Rattle.wire_c.specs.Streams.{ReadsStream}
use Rattle.wire_c.proofs.FailureLemmas.{none_refused, read_length, why_wrong}
use Rattle.wire_c.proofs.calls.wire_c_read.Goals as goal

pub returns-in-Ok-clause-lines : goal.returns-in-Ok-clause-lines
returns-in-Ok-clause-lines c e = subst (λ xs. ReadsStream c.args.terms.now c.args.stream.now xs)
    (sym (c.said.ensures.text (λ f. omega (arith, e, f)) ∙ c.deref.ensures.value)) c.in-Ok.ensures.lines

pub returns-in-Ok-clause-length : goal.returns-in-Ok-clause-length
returns-in-Ok-clause-length c e = (
  c.in-Ok.it.text.items,
  sym (c.said.ensures.length ∙ ap length c.deref.ensures.value),
  inl c.in-Ok.ensures.lines,
)

pub returns-in-Err-clause-unrefused : goal.returns-in-Err-clause-unrefused
returns-in-Err-clause-unrefused c e = none_refused _ _ c.in-Err.ensures.unrefused (c.failed.ensures.number (λ f. omega (arith, e, f))) e

pub returns-in-Err-clause-wrong : goal.returns-in-Err-clause-wrong
returns-in-Err-clause-wrong c e =
    why_wrong c.args.declarations.now c.args.type_words.now _ _ _ c.in-Err.ensures.wrong (c.failed.ensures.number (λ f. omega (arith, e, f)))
    (c.failed.ensures.text (λ f. omega (arith, e, f))) e

pub returns-in-Err-clause-length : goal.returns-in-Err-clause-length
returns-in-Err-clause-length c e =
    read_length (ReadsStream c.args.terms.now c.args.stream.now) c.args.declarations.now c.args.type_words.now _ _ _
    c.in-Err.ensures.unrefused c.in-Err.ensures.wrong c.failed.ensures.length (c.failed.ensures.longer e)

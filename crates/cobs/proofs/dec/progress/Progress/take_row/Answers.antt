use Rattle.std.proofs.Common.{sym, ◌∙◌, ap, arith}
use Rattle.cobs.specs.Sentinel.{masked}
use Rattle.cobs.specs.declared.dec.state.DecoderState.TheVariants.{Grab}
use Rattle.cobs.proofs.AtOnceLemmas.{ones_in, masked_within, row_written}
use Rattle.cobs.proofs.TakesLemmas.{none_front}
use Rattle.cobs.proofs.dec.progress.Progress.take_row.Goals as goal

pub returns-in_default-clause-front : goal.returns-in_default-clause-front
returns-in_default-clause-front c p s = none_front p _ _ _ s

pub returns-then-row-eq0-clause-front : goal.returns-then-row-eq0-clause-front
returns-then-row-eq0-clause-front c p s = none_front p _ _ _ s

pub returns-clause-front : goal.returns-clause-front
returns-clause-front c p s =
    let n = c.same_by_64-row.result in
    let piece = c.args.bytes.now in
    let e = c.same_by_64-row.ensures in
    row_written p (masked c.args.sentinel piece) c.args.buffer.now c.zero_over.new.buffer c.args.self.now n s (c.in-Grab-eq0.is ∙ ap (λ k. Grab k) (sym c.in-Grab-eq0.field-0-is ∙ c.in-Grab-eq0.field-0-test))
    (masked_within c.args.sentinel n piece e.within) (ones_in c.args.sentinel n piece e.within e.same)
    (omega (arith, e.within, c.if-row-eq0.false, c.requires (omega (arith, e.within, c.if-row-eq0.false)))) (omega arith) c.zero_over.ensures

use Rattle.std.proofs.Common.{arith, rules, length, take, ◌≡◌, ◌∙◌}
use Rattle.std.proofs.lemmas.List.{length-take-le}
use Rattle.cobs.specs.Sentinel.{masked}
use Rattle.postcard.proofs.MasksLemmas.{masked_length}
use Rattle.postcard.proofs.StretchesLemmas.{alone_clear}
use Rattle.postcard.proofs.FeedingLemmas.{feeds_kept}
use Rattle.postcard.proofs.accumulator.CobsAccumulator.take_in.Goals as goal

pub keep-requires : goal.keep-requires
keep-requires g c =
    let clear = alone_clear c.args.self.now.sentinel c.args.input.now c.if-input-eq1.true c.if-input-self.true in
    (search rules, (clear, omega (arith, c.if-input-eq1.true, c.if-self.true)))

pub returns-then-input-self-clause-gathers : goal.returns-then-input-self-clause-gathers
returns-then-input-self-clause-gathers g c =
    let s = c.args.self.now.sentinel in
    let held = take c.args.self.now.count c.args.self.now.buf in
    let long = masked_length s c.args.input.now in
    let counted : length (masked s held) ≡ c.args.self.now.count = masked_length s held ∙ length-take-le c.args.self.now.count c.args.self.now.buf (omega arith) in
    let clear = alone_clear s c.args.input.now c.if-input-eq1.true c.if-input-self.true in
    feeds_kept g.row.N (masked s held) (masked s c.args.input.now) _ clear (omega (arith, counted, long, c.if-input-eq1.true, c.if-self.true)) c.keep.ensures.holds tt

use Rattle.std.proofs.Common.{List, ℕ, length, sym, ◌∙◌, ap, subst}
use Rattle.std.specs.Prelude.{bit_xor}
use Rattle.cobs.specs.Taking.{FeedsByte}
use Rattle.cobs.proofs.WholesLemmas.{refilled}
use Rattle.cobs.proofs.dec.owned.CobsDecoderOwned.feed.Goals as goal

pub returns-clause-takes : goal.returns-clause-takes
returns-clause-takes c =
    let all = refilled c.args.self.now.buffer.len c.args.self.now.buffer.items c.feed.new.buffer c.args.self.now.buffer.ok.0 (c.feed.auto.buffer ∙ ap length c.as_mut_slice.ensures.value) in
    subst (λ (b : List ℕ). FeedsByte c.args.self.now.progress c.args.self.now.buffer.items (bit_xor c.args.self.now.sentinel c.args.data) c.feed.result c.feed.new.self b) (sym all) (rw c.as_mut_slice.ensures.value at c.feed.ensures)

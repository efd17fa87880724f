use Rattle.std.proofs.Common.{List, ℕ, length, refl, sym, ◌∙◌, ap, subst}
use Rattle.std.specs.Prelude.{bit_xor}
use Rattle.cobs.specs.Taking.{FeedsByte}
use Rattle.cobs.proofs.WholesLemmas.{refilled}
use Rattle.cobs.proofs.dec.heapless.CobsDecoderHeapless.feed.Goals as goal

pub returns-clause-takes : goal.returns-clause-takes
returns-clause-takes g c =
    let all = refilled (length c.args.self.now.array.items) c.args.self.now.array.items c.feed.new.buffer refl (c.feed.auto.buffer ∙ ap length c.as_mut_slice.ensures.value) in
    subst (λ (b : List ℕ). FeedsByte c.args.self.now.progress c.args.self.now.array.items (bit_xor c.args.self.now.sentinel c.args.data) c.feed.result c.feed.new.self b) (sym all) (rw c.as_mut_slice.ensures.value at c.feed.ensures)

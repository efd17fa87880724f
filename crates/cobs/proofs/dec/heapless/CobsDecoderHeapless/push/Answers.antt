use Rattle.std.proofs.Common.{List, ℕ, length, refl, sym, ◌∙◌, ap, subst}
use Rattle.cobs.specs.Sentinel.{masked}
use Rattle.cobs.specs.Taking.{TakesPiece}
use Rattle.cobs.proofs.WholesLemmas.{refilled}
use Rattle.cobs.proofs.dec.heapless.CobsDecoderHeapless.push.Goals as goal

pub returns-clause-takes : goal.returns-clause-takes
returns-clause-takes g c =
    let all = refilled (length c.args.self.now.array.items) c.args.self.now.array.items c.push.new.buffer refl (c.push.auto.buffer ∙ ap length c.as_mut_slice.ensures.value) in
    subst (λ (b : List ℕ). TakesPiece c.args.self.now.progress c.args.self.now.array.items (masked c.args.self.now.sentinel c.args.data.now) c.push.result c.push.new.self b) (sym all) (rw c.as_mut_slice.ensures.value at c.push.ensures)

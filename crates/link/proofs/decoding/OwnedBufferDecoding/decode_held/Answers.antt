use Rattle.std.proofs.Common.{List, ℕ, length, take, sym, ◌∙◌, ap, subst}
use Rattle.link.specs.Filled.{IsMessageOf}
use Rattle.link.proofs.BufferLemmas.{refilled}
use Rattle.link.proofs.decoding.OwnedBufferDecoding.decode_held.Goals as goal

pub returns-clause-message : goal.returns-clause-message
returns-clause-message c =
    let b = c.args.self.now.bytes in
    let all = refilled b.len b.items c.decode_front.new.buffer b.ok.0 (c.decode_front.auto.buffer ∙ ap length c.as_mut_slice.ensures.value) in
    subst (λ (new : List ℕ). IsMessageOf (take c.args.self.now.count b.items) c.decode_front.result new)
    (sym all) (rw c.as_mut_slice.ensures.value at c.decode_front.ensures.message)

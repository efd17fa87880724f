use Rattle.link.proofs.FetchingLemmas.{looped_by, by_loop}
use Rattle.link.proofs.gathering.receive_by_accumulator_with_sentinel.Goals as goal

pub returns-clause-received : goal.returns-clause-received
returns-clause-received g c =
    let h = c.collect-end.ensures.gathered in
    let made = c.new_with_sentinel-accumulator.ensures in
    let looped = looped_by _ _ _ _ _ _ _ _ made.sentinel h.0 _ _ c.collect-end.result made.holds c.new-values.ensures.items h.2 in
    (h.0, h.1, by_loop _ _ _ _ _ c.requires.some c.gathered_alike.ensures h.0 _ c.collect-end.result looped, looped)

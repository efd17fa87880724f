use Rattle.records.proofs.checking.is_sound.Goals as goal

pub returns-then-only_sealed : goal.returns-then-only_sealed
returns-then-only_sealed c numbers t =
    let each = c.counts_each_once.ensures numbers t in
    (λ sound. (c.if-only_sealed.true, c.in-None.is, each.0 sound), λ found. each.1 found.2)

use Rattle.std.proofs.Common.{◌≡◌, ◌∙◌, ap, length, eqb, drop, take, length-drop, w8, arith}
use Rattle.std.proofs.lemmas.List.{length-take-le}
use Rattle.std.proofs.lemmas.Simd.{bitmask_splat}
use Rattle.cobs.proofs.LanesLemmas.{marked_lanes}
use Rattle.cobs.proofs.MaskingLemmas.{masked_length}
use Rattle.cobs.proofs.moves.zeros_at.Goals as goal

pub returns-clause-marks : goal.returns-clause-marks
returns-clause-marks g c =
    let w = g.row.W in
    let there = drop c.args.at c.args.bytes.now in
    let long : length c.load_masked-lanes.result ≡ w =
    ap length c.load_masked-lanes.ensures ∙ masked_length c.args.sentinel (take w there) ∙ length-take-le w there (omega (arith, length-drop c.args.at c.args.bytes.now, c.requires.within)) in
    (marked_lanes c.load_masked-lanes.result _ w _ long c.load_masked-lanes.ensures (bitmask_splat w8 eqb c.load_masked-lanes.result w 0 long (omega (arith, c.requires.few)))).0

pub returns-clause-bound : goal.returns-clause-bound
returns-clause-bound g c =
    let w = g.row.W in
    let there = drop c.args.at c.args.bytes.now in
    let long : length c.load_masked-lanes.result ≡ w =
    ap length c.load_masked-lanes.ensures ∙ masked_length c.args.sentinel (take w there) ∙ length-take-le w there (omega (arith, length-drop c.args.at c.args.bytes.now, c.requires.within)) in
    (marked_lanes c.load_masked-lanes.result _ w _ long c.load_masked-lanes.ensures (bitmask_splat w8 eqb c.load_masked-lanes.result w 0 long (omega (arith, c.requires.few)))).1

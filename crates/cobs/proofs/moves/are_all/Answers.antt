use Rattle.std.proofs.Common.{◌≡◌, ◌∙◌, ap, sym, length, drop, length-drop, eqb, get_or, w8, arith}
use Rattle.std.proofs.lemmas.Bool.{eqb-true}
use Rattle.std.proofs.lemmas.List.{length-take-le, get_or-take}
use Rattle.std.proofs.lemmas.Simd.{bitmask_splat}
use Rattle.cobs.proofs.LanesLemmas.{same_of}
use Rattle.cobs.proofs.moves.are_all.Goals as goal

pub returns : goal.returns
returns c = λ t k l.
    let lanes = c.load-lanes.result in
    let m = c.args.bytes.now in
    let long : length lanes ≡ 64 = ap length c.load-lanes.ensures ∙ length-take-le 64 (drop 0 m) (omega (arith, length-drop 0 m, c.requires)) in
    sym (ap (λ x. get_or x k 0) c.load-lanes.ensures ∙ get_or-take 64 (drop 0 m) k 0 l)
    ∙ same_of 64 c.args.byte lanes long (sym (bitmask_splat w8 eqb lanes 64 c.args.byte long (omega arith)) ∙ eqb-true _ _ t) k l

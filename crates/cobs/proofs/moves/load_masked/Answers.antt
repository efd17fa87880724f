use Rattle.std.proofs.Common.{◌≡◌, ◌∙◌, ap, length, drop, length-drop, arith}
use Rattle.std.proofs.lemmas.List.{length-take-le}
use Rattle.std.proofs.lemmas.Simd.{zip2_splat_left}
use Rattle.std.specs.Prelude.{bit_xor}
use Rattle.cobs.specs.Sentinel.{masked}
use Rattle.cobs.proofs.moves.load_masked.Goals as goal

pub returns : goal.returns
returns g c =
    let long : length c.load.result ≡ g.row.W = ap length c.load.ensures ∙ length-take-le g.row.W (drop c.args.at c.args.bytes.now) (omega (arith, length-drop c.args.at c.args.bytes.now, c.requires)) in
    zip2_splat_left bit_xor c.args.sentinel g.row.W c.load.result long ∙ ap (masked c.args.sentinel) c.load.ensures

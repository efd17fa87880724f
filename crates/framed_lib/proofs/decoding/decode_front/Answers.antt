use Rattle.std.proofs.Common.{◌≡◌, ◌/◌, ◌∙◌, ap, Ok, take, length, refl, arith}
use Rattle.framed_lib.proofs.PairsLemmas.{turned-more, turned-bad, turned-all}
use Rattle.framed_lib.proofs.decoding.decode_front.Goals as goal

pub returns-in-None-clause-bad : goal.returns-in-None-clause-bad
returns-in-None-clause-bad c = λ e.
    turned-bad c.args.digits.now c.loop-at.digits c.loop-at.at c.loop-at.invariant _ refl
    (omega arith) (c.in-None.ensures _)

pub loop-at-preserved : goal.loop-at-preserved
loop-at-preserved c =
    turned-more c.args.digits.now c.loop-at.digits c.loop-at.at c.loop-at.invariant _
    (omega arith) (c.in-Some.ensures _)

pub returns-clause-ok : goal.returns-clause-ok
returns-clause-ok c = λ e.
    let half : c.loop-at.at ≡ length c.args.digits.now / 2 =
    omega (arith, c.loop-at.invariant.same) in
    turned-all c.args.digits.now c.loop-at.digits c.loop-at.at c.loop-at.invariant (omega arith)
    ∙ ap (λ n. Ok (take n c.loop-at.digits)) half

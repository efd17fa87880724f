use Rattle.std.proofs.Common.{◌≡◌, get_or, refl, sym, arith, ◌∙◌}
use Rattle.cobs.proofs.WindowsLemmas.{Walked, walked_start, walked_on, walked_over, walked_code}
use Rattle.cobs.proofs.dec.window.put_zeros.Goals as goal
use Rattle.cobs.proofs.dec.window.put_zeros.Goals.{In-loop-at}

-- a code that is followed isn't that of a full block
on : (c : In-loop-at) → Walked c.args.left c.args.out.now c.loop-at.at c.loop-at.out
on c = c.loop-at.invariant.walked (λ e. absurd (omega (arith, (c.loop-at.invariant.over e).over, c.loop-at-test.true)))

pub loop-at-init : goal.loop-at-init
loop-at-init c = record {
  walked = λ _. walked_start c.args.left c.args.out.now c.args.out.now refl (omega (arith, c.ranges.left.fits));
  over = λ e. absurd (omega (arith, e));
  small = λ k. (c.type_inv.out k).fits;
}

code : (c : In-loop-at) → get_or c.loop-at.out c.loop-at.at 0 ≡ get_or c.args.out.now c.loop-at.at 0
code c = walked_code c.args.left c.args.out.now c.loop-at.at c.loop-at.out (on c) c.loop-at-test.true

pub loop-at-smaller : goal.loop-at-smaller
loop-at-smaller c =
    omega (arith, code (goal.at.loop-at-smaller c).In-loop-at, c.requires.nonzero c.loop-at.at c.loop-at-test.true, c.loop-at-test.true)

pub loop-at-preserved : goal.loop-at-preserved
loop-at-preserved c =
    let e = (goal.at.loop-at-preserved c).In-loop-at in
    let at = c.loop-at.at in
    record {
      walked = λ n. rw (code e) (walked_on c.args.left c.args.out.now at c.loop-at.out (on e) c.loop-at-test.true (c.requires.nonzero at c.loop-at-test.true) (omega (arith, n, code e, c.loop-at.invariant.small at)));
      over = λ f. rw (code e) (walked_over c.args.left c.args.out.now at c.loop-at.out (on e) c.loop-at-test.true c.requires.short (sym (code e) ∙ f));
      small = c.loop-at.invariant.small;
    }

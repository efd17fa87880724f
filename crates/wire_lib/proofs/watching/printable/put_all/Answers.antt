use Rattle.std.proofs.Common.{ap, take}
use Rattle.wire_lib.proofs.PrintableLemmas.{shown_step, shown_end}
use Rattle.wire_lib.proofs.watching.printable.put_all.Goals as goal

pub loop-character-preserved : goal.loop-character-preserved
loop-character-preserved c =
    let held = c.loop-character.invariant in
    shown_step _ _ _ _ _ c.in-Some.character c.in_ok-put.ensures held.0 c.in-Some.ensures.steps.0 held.1

pub returns : goal.returns
returns c =
    ap (take c.args.columns) (shown_end c.loop-character.line.items _ _ c.in-None.ensures.steps.0.0 c.loop-character.invariant.1)

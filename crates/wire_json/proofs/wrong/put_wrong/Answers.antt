use Rattle.wire_json.proofs.FaultLemmas.{failed_front, failed_full, more_done}
use Rattle.wire_json.proofs.wrong.put_wrong.Goals as goal

pub returns-in_err-push_str-clause-front : goal.returns-in_err-push_str-clause-front
returns-in_err-push_str-clause-front c = failed_front c.from_residual.result c.args.number c.format-number.result.now _ _ _ c.args.wrong.now c.loop-index.index
    c.format-number.ensures.text c.loop-index.invariant.0 c.in_err-push_str.ensures.bytes

pub returns-in_err-push_str-clause-full : goal.returns-in_err-push_str-clause-full
returns-in_err-push_str-clause-full c = failed_full c.from_residual.result c.args.number c.format-number.result.now c.args.wrong.now c.loop-index.index _ _ _ _
    c.format-number.ensures.text c.loop-index-test.true c.loop-index.invariant.2 c.loop-index.invariant.1 (rw (← c.part_of.ensures) c.in_err-push_str.ensures.full)

pub loop-index-preserved : goal.loop-index-preserved
loop-index-preserved c =
    let i = c.loop-index.invariant in
    let p = c.in_ok-push_str.ensures in
    more_done _ _ _ _ _ _ _ _ _ _ c.format-number.result.now c.args.wrong.now c.loop-index.index c.loop-index-test.true c.part_of.ensures i.0 i.1 i.2 p.bytes p.len c.push_str.ensures.capacity

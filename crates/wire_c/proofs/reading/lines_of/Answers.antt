use Rattle.std.proofs.Common.{[], drop, ap, sym, subst, ◌∙◌}
use Rattle.wire_lib.specs.Received.{reading_of, skip_of, added_at_end, TellsEnd}
use Rattle.wire_c.proofs.CallsLemmas.{stream_told, last_told, none_told}
use Rattle.wire_c.proofs.reading.lines_of.Goals.{then-ends+in_ok-finish, else-ends}
use Rattle.wire_c.proofs.reading.lines_of.Goals as goal

pub returns : goal.returns
returns c =
    let r = c.args.reading in
    let n = c.in_ok-receiver in
    let told = c.in_ok-push.ensures.told c.args.passed [] [] n.ensures.got in
    let p = c.args.passed in
    let xs = c.args.stream.now in
    let new = c.push.new.self in
    elim c.if-ends.branch [
      | then-ends+in_ok-finish w ↦ stream_told r (reading_of n.receiver) new c.args.ends p (skip_of n.receiver) xs
          c.new-lines.result.items c.push.new.lines.items c.if-ends.lines.items told.0
          n.ensures.reading c.in_ok-push.ensures.reading n.ensures.skip c.new-lines.ensures.items told.1 told.3
          (last_told r new c.args.ends p (skip_of n.receiver) xs c.push.new.lines.items c.if-ends.lines.items
          w.if-ends.true (c.in_ok-push.ensures.reading ∙ n.ensures.reading) n.ensures.skip
          (subst (λ ys. TellsEnd (reading_of new) p (drop (skip_of n.receiver) xs)
          (added_at_end new (drop (skip_of n.receiver) xs)) c.push.new.lines.items ys.items)
          (sym w.lines-is)
          (w.in_ok-finish.ensures.told p (drop (skip_of n.receiver) xs) told.1.come)))
      | else-ends w ↦ stream_told r (reading_of n.receiver) new c.args.ends p (skip_of n.receiver) xs
          c.new-lines.result.items c.push.new.lines.items c.if-ends.lines.items told.0
          n.ensures.reading c.in_ok-push.ensures.reading n.ensures.skip c.new-lines.ensures.items told.1 told.3
          (none_told r c.args.ends p (drop p xs) c.push.new.lines.items c.if-ends.lines.items
          w.if-ends.false (ap (λ ys. ys.items) w.lines-is))
    ]

use Rattle.std.proofs.Common.{◌-◌, Ok, rules, arith}
use Rattle.wire_lib.proofs.SeenLemmas.{at_ok, damage_kept}
use Rattle.wire_lib.proofs.DamageLemmas.{if_few}
use Rattle.wire_lib.proofs.watching.viewer.Viewer.hear_damage.Goals as goal

pub returns-clause-kept : goal.returns-clause-kept
returns-clause-kept c =
    let v = c.args.self.now in
    if_few c.extend_from_slice.result _ _ (λ few.
    at_ok c.extend_from_slice.result (damage_kept {A = Unit {0}} {E = Unit {0}} (Ok tt) c.args.what.now c.saturating_sub-from.result (v.at - 1 - c.args.stretch) c.args.stretch c.as_slice.result.now v.front.items
    v.table c.note_damage.new.self c.in_ok-told.told (omega arith) (search rules) c.in_ok-told.ensures (c.in_ok-note_damage.ensures.damages few)))

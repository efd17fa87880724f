use Rattle.std.proofs.Common.{◌≡◌, ◌<◌, ◌≤◌, length, slice_index_or, slice_set, sym, ap, subst}
use Rattle.wire_lib.specs.Tables.{IsNoted}
use Rattle.wire_lib.specs.declared.watching.table.Row.{Row}
use Rattle.wire_lib.proofs.SeenLemmas.{value_counts}
use Rattle.wire_lib.proofs.watching.viewer.Viewer.hear_value.Goals as goal

pub returns-clause-counted : goal.returns-clause-counted
returns-clause-counted c =
    value_counts c.args.self.now.table c.note.new.self c.args.value.now c.kind_of-kind.result _ _ c.kind_of-kind.ensures c.note.ensures.noted c.note.ensures.none c.note.ensures.damaged

pub returns-clause-noted : goal.returns-clause-noted
returns-clause-noted c =
    let old = c.args.self.now.table.rows.items in
    let new = c.note.new.self.rows.items in
    let is = c.kind_of-kind.ensures in
    let text = c.in_ok-text.text in record {
      text = text;
      beside = c.in_ok-text.ensures;
      noted = subst (λ k. k < length old → (before after : Row) × (before ≡ slice_index_or old k before)
          × IsNoted text c.args.window before after × (new ≡ slice_set old k after)) is c.note.ensures.noted;
      none = λ past. ap (λ rows. rows.items) (c.note.ensures.none (subst (λ k. length old ≤ k) (sym is) past));
    }

use Rattle.std.proofs.Common.{◌-◌, codes, OnOk, refl, sym, ap, subst}
use Rattle.link.specs.declared.receiver.Answer.TheVariants as answer
use Rattle.wire_lib.specs.Seen.{CountsToo, NotesResult}
use Rattle.wire_lib.proofs.SeenLemmas.{at_ok, damage_told}
use Rattle.wire_lib.proofs.DamageLemmas.{unchanged, kept_as}
use Rattle.wire_lib.proofs.watching.viewer.Viewer.hear.Goals as goal

pub returns-in-Value-clause-kept : goal.returns-in-Value-clause-kept
returns-in-Value-clause-kept c =
    let v = c.args.self.now in
    let new = c.hear_value.new.self.table in
    unchanged c.hear_value.result c.args.answer.now _ (v.at - 1 - c.args.stretch) c.args.stretch v.front.items v.table new c.in-Value.is c.hear_value.ensures.damages

pub returns-in-Damaged-clause-counted : goal.returns-in-Damaged-clause-counted
returns-in-Damaged-clause-counted c =
    let r = c.hear_damage.result in
    let old = c.args.self.now.table in
    let new = c.hear_damage.new.self.table in
    subst (λ a. OnOk r (CountsToo a old new)) (sym c.in-Damaged.is) (damage_told r old new answer.Damaged refl (λ k. refl) c.hear_damage.ensures.damaged c.hear_damage.ensures.rows)

pub returns-in-Damaged-clause-kept : goal.returns-in-Damaged-clause-kept
returns-in-Damaged-clause-kept c =
    let v = c.args.self.now in
    kept_as c.hear_damage.result c.args.answer.now answer.Damaged c.damaged_word-what.result.now (v.at - 1 - c.args.stretch) c.args.stretch v.front.items v.table c.hear_damage.new.self.table c.in-Damaged.is
    c.damaged_word-what.ensures c.hear_damage.ensures.kept

pub returns-in-TooLong-clause-counted : goal.returns-in-TooLong-clause-counted
returns-in-TooLong-clause-counted c =
    let r = c.hear_damage-in-TooLong.result in
    let old = c.args.self.now.table in
    let new = c.hear_damage-in-TooLong.new.self.table in
    subst (λ a. OnOk r (CountsToo a old new)) (sym c.in-TooLong.is) (damage_told r old new answer.TooLong refl (λ k. refl) c.hear_damage-in-TooLong.ensures.damaged c.hear_damage-in-TooLong.ensures.rows)

pub returns-in-TooLong-clause-kept : goal.returns-in-TooLong-clause-kept
returns-in-TooLong-clause-kept c =
    let v = c.args.self.now in
    kept_as c.hear_damage-in-TooLong.result c.args.answer.now answer.TooLong (codes "too long") (v.at - 1 - c.args.stretch) c.args.stretch v.front.items v.table c.hear_damage-in-TooLong.new.self.table c.in-TooLong.is
    refl c.hear_damage-in-TooLong.ensures.kept

pub returns-in-Cut-clause-counted : goal.returns-in-Cut-clause-counted
returns-in-Cut-clause-counted c =
    let r = c.hear_damage-in-Cut.result in
    let old = c.args.self.now.table in
    let new = c.hear_damage-in-Cut.new.self.table in
    subst (λ a. OnOk r (CountsToo a old new)) (sym c.in-Cut.is) (damage_told r old new answer.Cut refl (λ k. refl) c.hear_damage-in-Cut.ensures.damaged c.hear_damage-in-Cut.ensures.rows)

pub returns-in-Cut-clause-kept : goal.returns-in-Cut-clause-kept
returns-in-Cut-clause-kept c =
    let v = c.args.self.now in
    kept_as c.hear_damage-in-Cut.result c.args.answer.now answer.Cut (codes "cut") (v.at - 1 - c.args.stretch) c.args.stretch v.front.items v.table c.hear_damage-in-Cut.new.self.table c.in-Cut.is
    refl c.hear_damage-in-Cut.ensures.kept

pub returns-in-Value-clause-noted : goal.returns-in-Value-clause-noted
returns-in-Value-clause-noted c =
    let v = c.args.self.now in
    subst (λ a. OnOk c.hear_value.result (NotesResult v.reading c.args.window a v.table.rows.items c.hear_value.new.self.table.rows.items))
    (sym c.in-Value.is) c.hear_value.ensures.noted

pub returns-in-Damaged-clause-noted : goal.returns-in-Damaged-clause-noted
returns-in-Damaged-clause-noted c =
    let v = c.args.self.now in
    let new = c.hear_damage.new.self.table in
    subst (λ a. OnOk c.hear_damage.result (NotesResult v.reading c.args.window a v.table.rows.items new.rows.items))
    (sym c.in-Damaged.is) (at_ok c.hear_damage.result (ap (λ rows. rows.items) c.hear_damage.ensures.rows))

pub returns-in-TooLong-clause-noted : goal.returns-in-TooLong-clause-noted
returns-in-TooLong-clause-noted c =
    let v = c.args.self.now in
    let new = c.hear_damage-in-TooLong.new.self.table in
    subst (λ a. OnOk c.hear_damage-in-TooLong.result (NotesResult v.reading c.args.window a v.table.rows.items new.rows.items))
    (sym c.in-TooLong.is) (at_ok c.hear_damage-in-TooLong.result (ap (λ rows. rows.items) c.hear_damage-in-TooLong.ensures.rows))

pub returns-in-Cut-clause-noted : goal.returns-in-Cut-clause-noted
returns-in-Cut-clause-noted c =
    let v = c.args.self.now in
    let new = c.hear_damage-in-Cut.new.self.table in
    subst (λ a. OnOk c.hear_damage-in-Cut.result (NotesResult v.reading c.args.window a v.table.rows.items new.rows.items))
    (sym c.in-Cut.is) (at_ok c.hear_damage-in-Cut.result (ap (λ rows. rows.items) c.hear_damage-in-Cut.ensures.rows))

use Rattle.std.proofs.Common.{sym, subst, refl}
use Rattle.declaration_parser.specs.Standing.{AreInOrder, MarksAreDeclared}
use Rattle.declaration_parser.proofs.reading.declarations.Goals as goal

pub returns-clause-in_order : goal.returns-clause-in_order
returns-clause-in_order c =
    (c.read_items.new.self.end, c.read_items.ensures (subst (λ z. AreInOrder 0 z 0) (sym c.new.ensures.items) refl))

pub returns-clause-declared : goal.returns-clause-declared
returns-clause-declared c e =
    subst (λ z. MarksAreDeclared c.args.tokens.now z) c.deref-3.ensures.value
    (c.refuse_others.ensures.declared (c.note.ensures.silent (c.refuse_nothing.ensures (c.in_ok-faults.ensures e))))

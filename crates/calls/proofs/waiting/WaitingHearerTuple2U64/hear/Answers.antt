use Rattle.std.proofs.Common.{sym, ap, ◌∙◌}
use Rattle.calls.specs.Waits.{Waiter}
use Rattle.calls.proofs.WaitedLemmas.{unheard}
use Rattle.calls.proofs.waiting.WaitingHearerTuple2U64.hear.Goals as goal

pub returns-in_default : goal.returns-in_default
returns-in_default g c =
    let e = c.in_default.ensures in (
      ap (λ a. let w : Waiter g.row.Q.Denot g.row.R.Denot = record { asker = a; said = c.args.self.now.said } in w) e.accepts
          ∙ sym (unheard _ c.args.answer (λ n q said i j. c.in_default.not-Some said (c.in_default.is ∙ e.taken n q said i j))),
      e.sender,
    )

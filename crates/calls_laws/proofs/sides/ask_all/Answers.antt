use Rattle.std.proofs.Common.{sym, ap, ◌∙◌}
use Rattle.link.specs.Senders.{writer_of, clean_of, sentinel_of}
use Rattle.calls.specs.Asking.{Asker}
use Rattle.calls_laws.proofs.StepsLemmas.{asks_only}
use Rattle.calls_laws.proofs.sides.ask_all.Goals as goal

pub returns : goal.returns
returns g c =
    let made = c.new_with_sentinel-sender.ensures in
    let new = c.new-client.ensures in
    let told = λ (w : g.row.W.Denot). (g.W.Outlet.line w).told in
    asks_only g.row.N c.args.sentinel _ _ _ c.args.number c.args.request _ _ _ _ c.into_taken-taken.result.items c.repeat.ensures
    (ap (λ (a : Asker g.row.Q.Denot). a.next) new.asker)
    (ap (λ (a : Asker g.row.Q.Denot). a.pending) c.replace_inner.ensures.asker)
    (ap told (ap writer_of new.sender ∙ made.writer) ∙ c.requires.empty)
    (ap clean_of new.sender ∙ made.clean)
    (ap sentinel_of new.sender ∙ made.sentinel)
    (sym (ap told c.replace_inner.ensures.before) ∙ c.into_taken-taken.ensures)

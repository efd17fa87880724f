use Rattle.std.proofs.Common.{◌+◌, ◌∷◌}
use Rattle.journal_scan.proofs.MapLemmas.{below, parted, cut_inside, cut_end}
use Rattle.std.proofs.lemmas.Result.{on_ok_weaker, on_err_weaker}
use Rattle.journal_scan.proofs.tallies.Tally.cut_out.Goals as goal

pub returns-in-Ok-clause-cut : goal.returns-in-Ok-clause-cut
returns-in-Ok-clause-cut c =
    on_ok_weaker c.shorten.result (λ h front rest a are. cut_inside c.args.first c.args.last front rest _ a are c.args.number _ c.if-number-last.true
    (h front ((c.args.number + 1, c.args.last) ∷ rest) c.args.last (below c.args.first c.args.last front rest _ a are) (parted c.args.first c.args.last front rest _ a are c.args.number _ c.requires.first c.if-number-last.true c.in-Ok.ensures.entries)))
    c.shorten.ensures.shortened

pub returns-in-Ok-clause-kept : goal.returns-in-Ok-clause-kept
returns-in-Ok-clause-kept c =
    on_err_weaker c.shorten.result (λ h front rest a are. absurd
    (h front ((c.args.number + 1, c.args.last) ∷ rest) c.args.last (below c.args.first c.args.last front rest _ a are) (parted c.args.first c.args.last front rest _ a are c.args.number _ c.requires.first c.if-number-last.true c.in-Ok.ensures.entries)))
    c.shorten.ensures.there

pub returns-clause-cut : goal.returns-clause-cut
returns-clause-cut c =
    on_ok_weaker c.shorten-2.result (λ h front rest a are. cut_end c.args.first c.args.last front rest _ a are c.args.number _ c.requires.last c.if-number-last.false
    (h front rest c.args.last (below c.args.first c.args.last front rest _ a are) are))
    c.shorten-2.ensures.shortened

pub returns-clause-kept : goal.returns-clause-kept
returns-clause-kept c =
    on_err_weaker c.shorten-2.result (λ h front rest a are. absurd (h front rest c.args.last (below c.args.first c.args.last front rest _ a are) are))
    c.shorten-2.ensures.there

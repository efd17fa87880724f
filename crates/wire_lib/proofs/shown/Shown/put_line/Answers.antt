use Rattle.std.proofs.Common.{◌≡◌, ◌∙◌, true, sym, rules}
use Rattle.std.proofs.lemmas.Result.{on_ok_weaker}
use Rattle.wire_lib.proofs.ShownLemmas.{shown_as}
use Rattle.wire_lib.proofs.shown.Shown.put_line.Goals as goal

pub returns-else-is_err-clause-line : goal.returns-else-is_err-clause-line
returns-else-is_err-clause-line c =
    let shown : c.is_shown.result ≡ true = search rules in
    on_ok_weaker c.put_parts-put.result (λ e only colour by.
    shown_as only colour c.args.self.now.colour c.args.time c.args.line.now c.args.out.now.items c.put_parts-put.new.out.items
    (sym (c.is_shown.ensures only colour by) ∙ shown) by.colour_is e) c.put_parts-put.ensures.line

use Rattle.std.proofs.Common.{◌∙◌}
use Rattle.wire_print.specs.TokenLaws.{text_shown, text_read, text_utf8}
use Rattle.wire_print.proofs.print.print.Goals as goal

pub returns : goal.returns
returns c =
    let before = c.in_ok-print_into.ensures.before ∙ c.new-out.ensures.before ∙ c.new.ensures.items in
    let shown = c.in_ok-print_into.ensures.json in
    let text = text_shown _ _ _ _ _ c.into_inner.ensures.items before c.new-out.ensures.tokens shown.1 in
    record { json = (shown.0, text, text_read _ _ _ _ c.into_inner.ensures.reads_back c.new-out.ensures.tokens shown.1 text, shown.2, text_utf8 _ _ _ c.into_inner.ensures.items before c.into_inner.ensures.utf8) }

use Rattle.std.proofs.Common.{◌≡◌, [], ◌++◌, sym, subst, ◌∙◌, rules}
use Rattle.std.proofs.lemmas.List.{nil_from_length}
use Rattle.wire_lib.specs.Sent.{IsLineWith}
use Rattle.wire_lib.proofs.SentLemmas.{line_made}
use Rattle.std.proofs.lemmas.Result.{on_ok_weaker}
use Rattle.wire_lib.proofs.send.FramesOfLines.end.Goals as goal

pub returns-then-is_empty-clause-made : goal.returns-then-is_empty-clause-made
returns-then-is_empty-clause-made c =
    let begun = c.args.self.now.line.items in
    let none : begun ≡ [] = nil_from_length begun (search rules) in
    let line : IsLineWith c.without_return.result.now (begun ++ c.args.part.now) = subst (λ xs. IsLineWith c.without_return.result.now (xs ++ c.args.part.now)) (sym none) c.without_return.ensures in
    on_ok_weaker c.send.result (λ h. (h.0, line_made c.args.self.now.sending c.send.new.self.number (begun ++ c.args.part.now) c.without_return.result.now h.0 line h.1, h.2, h.3, c.send.ensures.same.1 ∙ none)) c.send.ensures.made

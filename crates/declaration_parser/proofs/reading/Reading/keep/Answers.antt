use Rattle.std.specs.Prelude.{◌≡◌, [], ◌∷◌, ◌++◌}
use Rattle.std.proofs.Common.{sym, subst, rules}
use Rattle.declaration_parser.specs.Standing.{AreInOrder, Follows}
use Rattle.declaration_parser.proofs.StandingLemmas.{in_order_and}
use Rattle.declaration_parser.proofs.reading.Reading.keep.Goals.{in-Ok, in-Err}
use Rattle.declaration_parser.proofs.reading.Reading.keep.Goals as goal

pub returns-after-push : goal.returns-after-push
returns-after-push c h =
    let found = c.args.self.now.found.items in
    let it = c.args.it in
    let follows : Follows c.args.self.now.end it = record {
      follows = c.if-self-attributes.true;
      attributes_within = c.if-attributes.true;
      joined = c.if-attributes-words.true;
      words_within = c.if-words.true;
    } in
    elim c.match-push.branch [
      | in-Ok w ↦ let pushed : c.push.new.self.items ≡ found ++ (it ∷ []) = search rules in
          subst (λ z. AreInOrder 0 z.found.items z.end) (sym w.self-is)
          (subst (λ z. AreInOrder 0 z it.words.to) (sym pushed) (in_order_and 0 found c.args.self.now.end it h follows))
      | in-Err w ↦ let same : c.push.new.self.items ≡ found = search rules in
          subst (λ z. AreInOrder 0 z.found.items z.end) (sym w.self-is)
          (subst (λ z. AreInOrder 0 z c.args.self.now.end) (sym same) h)
    ]

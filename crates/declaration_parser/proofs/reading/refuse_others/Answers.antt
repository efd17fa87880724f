use Rattle.std.specs.Prelude.{◌≡◌, length}
use Rattle.std.proofs.Common.{sym, subst, rules}
use Rattle.declaration_parser.specs.Marked.{NoMark}
use Rattle.declaration_parser.proofs.StandingLemmas.{all_declared, up_to_behind, up_to_more}
use Rattle.declaration_parser.proofs.reading.refuse_others.Goals as goal

pub loop-it-preserved : goal.loop-it-preserved
loop-it-preserved c =
    let tokens = c.args.tokens.now in
    let found = c.args.found.now in
    let it = c.it-item.result in
    let read = c.loop-it.invariant in (
      λ s. read.0 (c.refuse_marks.ensures.silent s),
      λ s. up_to_behind tokens found c.loop-it.it-index it c.loop-it-test.true (sym c.it-item.is)
          (up_to_more tokens found c.loop-it.from it.attributes.from (read.1 (c.refuse_marks.ensures.silent s)) (c.refuse_marks.ensures.no_mark s)),
    )

pub returns-clause-declared : goal.returns-clause-declared
returns-clause-declared c s =
    let tokens = c.args.tokens.now in
    let found = c.args.found.now in
    let last : c.len-to.result ≡ length tokens.all.items = search rules in
    all_declared tokens found
    (up_to_more tokens found c.loop-it.from (length tokens.all.items) (c.loop-it.invariant.1 (c.refuse_marks-2.ensures.silent s))
    (subst (λ z. NoMark tokens c.loop-it.from z) last (c.refuse_marks-2.ensures.no_mark s)))

use Rattle.std.proofs.Common.{◌≡◌, rules, sym, None, Some, ◌∙◌}
use Rattle.schema_table.specs.Looks.{part_of}
use Rattle.wire_print.proofs.InsideLemmas.{inside_stop, inside_more, inside_end}
use Rattle.wire_print.proofs.print.inside_newtypes.Goals as goal

pub returns-in-None : goal.returns-in-None
returns-in-None c =
    let known = c.loop.invariant in
    let none : part_of c.args.schema.now c.loop.at c.loop.held.now ≡ None = search rules in
    sym (inside_stop c.loop.counter known.0 _ _ c.loop.at c.loop.held.now known.1 c.loop-test.true none) ∙ known.3

pub loop-preserved : goal.loop-preserved
loop-preserved c =
    let known = c.loop.invariant in
    let some : part_of c.args.schema.now c.loop.at c.loop.held.now ≡ Some (c.in-Some.field, c.in-Some.part.now) = search rules in
    let more = inside_more c.loop.counter known.0 _ _ c.loop.at c.in-Some.field c.loop.held.now c.in-Some.part.now known.1 c.loop-test.true some in
    (more.0, more.1, known.2, sym more.2 ∙ known.3)

pub returns : goal.returns
returns c =
    let known = c.loop.invariant in
    inside_end c.loop.counter known.0 _ _ c.loop.at c.loop.held.now known.1 c.loop-test.false ∙ known.3

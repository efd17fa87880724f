use Rattle.std.proofs.Common.{sym, ◌∙◌}
use Rattle.schema_table.proofs.LooksLemmas.{key_stop, key_more, key_end}
use Rattle.schema_table.proofs.looks.is_key.Goals as goal

pub returns-in-None : goal.returns-in-None
returns-in-None c =
    let known = c.loop.invariant in
    c.is_own_key.ensures ∙ sym (key_stop c.loop.counter known.0 _ _ c.loop.at known.1 c.loop-test.true (sym c.inside_newtype.ensures ∙ c.in-None.is)) ∙ known.3

pub loop-preserved : goal.loop-preserved
loop-preserved c =
    let known = c.loop.invariant in
    let more = key_more c.loop.counter known.0 _ _ c.loop.at c.in-Some.inner known.1 c.loop-test.true (sym c.inside_newtype.ensures ∙ c.in-Some.is) in
    (more.0, more.1, known.2, sym more.2 ∙ known.3)

pub returns : goal.returns
returns c =
    let known = c.loop.invariant in
    key_end c.loop.counter known.0 _ _ c.loop.at known.1 c.loop-test.false ∙ known.3

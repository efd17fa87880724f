use Rattle.std.proofs.Common.{rules, refl}
use Rattle.std.proofs.lemmas.Iterator.{YieldsList-from_slice}
use Rattle.std.proofs.lemmas.Iterator.Consumers.{YieldsList-end}
use Rattle.schema_table.proofs.DifferLemmas.{count_tells}
use Rattle.schema_table.proofs.parts.differ.Goals as goal

pub returns : goal.returns
returns c =
    let r = c.in_ok-all.ensures.ran in
    let done = r.1.2 cc in
    let all = YieldsList-end (YieldsList-from_slice _ c.iter.ensures.rest) r.0 r.1.0 r.1.1 _ done.0 refl done.1 in
    let h = count_tells c.args.names.now r.0 c.in_ok-all.all _ all.0 all.1 r.2 c.len.ensures.len in search (rules, h)

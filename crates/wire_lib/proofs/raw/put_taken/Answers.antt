use Rattle.std.proofs.Common.{◌≡◌, ◌≢◌, true, rules}
use Rattle.postcard_tree.specs.Spelling.{short}
use Rattle.schema_table.specs.Values.{tree_of}
use Rattle.wire_lib.proofs.RawLemmas.{damaged_strictly}
use Rattle.wire_lib.proofs.raw.put_taken.Goals as goal

pub returns-then-not-branch-clause-other : goal.returns-then-not-branch-clause-other
returns-then-not-branch-clause-other c _ =
    let strict : c.args.reading.strict ≡ true = search rules in
    let differs : c.args.message.now ≢ short (tree_of c.args.value.now) = search rules in
    damaged_strictly c.args.reading c.args.message.now c.args.rest.now c.args.lines.now.items c.put_stretch_line.new.lines.items c.args.value.now c.requires strict differs c.in_ok-put_stretch_line.ensures.line

use Rattle.std.proofs.Common.{◌≡◌, ◌++◌, rules}
use Rattle.json.specs.Print.{print}
use Rattle.wire_lib.proofs.LineLemmas.{text_written}
use Rattle.wire_lib.proofs.receive.write_value.Goals as goal

pub returns : goal.returns
returns c =
    let whole : c.into_inner.result.items ≡ c.args.text.now.items ++ print c.print_into-written.new.out.tokens = search rules in
    text_written c.print_into-written.result c.args.reading c.args.value.now _ _ _ _ c.new-out.ensures.tokens whole c.into_inner.ensures.reads_back c.into_inner.ensures.utf8 c.print_into-written.ensures.json

use Rattle.std.proofs.Common.{◌≢◌, rules}
use Rattle.postcard_tree.specs.declared.error.Error.TheVariants.{OutOfMemory}
use Rattle.wire_lib.proofs.RawLemmas.{damaged}
use Rattle.wire_lib.proofs.raw.put_message.Goals as goal

pub returns-in_ok-put_stretch_line-in-Err-clause-other : goal.returns-in_ok-put_stretch_line-in-Err-clause-other
returns-in_ok-put_stretch_line-in-Err-clause-other c _ =
    let other : c.in-Err.error ≢ OutOfMemory = search rules in
    damaged c.args.reading c.args.message.now c.args.lines.now.items c.put_stretch_line.new.lines.items c.what_of-what.result.now (c.in-Err.ensures.none other) c.what_of-what.ensures c.in_ok-put_stretch_line-in-Err.ensures.line

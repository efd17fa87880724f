use Rattle.std.proofs.Common.{[], drop}
use Rattle.std.proofs.Math.ListN.{drop_of_length-le}
use Rattle.wire_json.specs.Meant.{AreBytes}
use Rattle.wire_json.proofs.ParsedLemmas.{so_all}
use Rattle.wire_json.proofs.parse.byte_values.Goals as goal

pub returns-clause-means : goal.returns-clause-means
returns-clause-means c =
    so_all AreBytes c.args.bytes.now (drop c.loop-byte.byte-index c.args.bytes.now) [] c.loop-byte.items.items (drop_of_length-le c.args.bytes.now c.loop-byte-test.false) tt c.loop-byte.invariant.1

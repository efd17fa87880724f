use Rattle.std.proofs.Common.{rules}
use Rattle.postcard_de.specs.Values.{signed_read}
use Rattle.postcard_de.proofs.deserializer.Deserializer.deserialize_i128.Goals as goal

pub returns : goal.returns
returns g c = signed_read 128 (search rules) c.in_ok-n.ensures

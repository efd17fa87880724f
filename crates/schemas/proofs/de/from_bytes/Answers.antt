use Rattle.postcard_de.specs.Deserializer.{bytes_of}
use Rattle.schemas.proofs.FrontsLemmas.{fronts_by}
use Rattle.schemas.proofs.de.from_bytes.Goals as goal

pub returns-clause-only : goal.returns-clause-only
returns-clause-only c =
    fronts_by c.args.depth c.args.nodes.now c.args.place c.args.s.now (bytes_of c.from_bytes-d.result.flavor) (bytes_of c.read_value.new.d.flavor) c.read_value.result c.from_bytes-d.ensures.bytes c.read_value.ensures

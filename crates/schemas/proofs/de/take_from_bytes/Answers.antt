use Rattle.std.proofs.Common.{Ok, Err}
use Rattle.std.proofs.lemmas.Result.{err_from_is_err_and}
use Rattle.postcard_de.specs.Deserializer.{bytes_of}
use Rattle.schema_table.specs.Schemas.{SchemaReads}
use Rattle.schemas.proofs.FrontsLemmas.{fronts_by, front_by}
use Rattle.schemas.proofs.de.take_from_bytes.Goals as goal

pub returns-in_err-value-clause-only : goal.returns-in_err-value-clause-only
returns-in_err-value-clause-only c =
    let p = err_from_is_err_and c.from_residual.result c.from_residual.ensures.1 in
    rw (p.1, p.2)
    (fronts_by c.args.depth c.args.nodes.now c.args.place c.args.s.now (bytes_of c.from_bytes-d.result.flavor) (bytes_of c.read_value.new.d.flavor) (Err c.in_err-value.field-0.0) c.from_bytes-d.ensures.bytes c.in_err-value.ensures)

pub returns-clause-only : goal.returns-clause-only
returns-clause-only c =
    fronts_by c.args.depth c.args.nodes.now c.args.place c.args.s.now (bytes_of c.from_bytes-d.result.flavor) (bytes_of c.read_value.new.d.flavor) (Ok c.in_ok-value.value) c.from_bytes-d.ensures.bytes c.in_ok-value.ensures

pub returns-clause-value : goal.returns-clause-value
returns-clause-value c =
    front_by (SchemaReads c.args.depth c.args.nodes.now c.args.place) c.args.s.now c.in_ok-rest.rest.now (bytes_of c.from_bytes-d.result.flavor) (bytes_of c.read_value.new.d.flavor) c.in_ok-value.value c.from_bytes-d.ensures.bytes c.in_ok-rest.ensures c.in_ok-value.ensures

use Rattle.std.proofs.Common.{arith, ◌<◌, ◌≤◌}
use Rattle.std.proofs.lemmas.Result.{err_from_is_err_and}
use Rattle.postcard_de.specs.Deserializer.{flavor_of}
use Rattle.postcard_de.specs.Parts.{number_falls, read_within}
use Rattle.example_by_hand.specs.Steps.{end_read, more_read, index_fails, unknown_fails, byte_fails, rest_fails, memory_fails}
use Rattle.example_by_hand.proofs.chain.+read_chain.Goals as goal

pub read_chain-requires : goal.read_chain-requires
read_chain-requires g t c κs within =
    let source = g.F.Flavor.source in
    let p : (source (flavor_of c.deserialize_enum.new.self)).limit < (source (flavor_of c.args.d.now)).limit = number_falls 32 c.in_ok-deserialize_enum.ensures in
    let q : (source (flavor_of c.deserialize_u8.new.self)).limit ≤ (source (flavor_of c.deserialize_enum.new.self)).limit = read_within c.in_ok-byte-in-1.ensures in
    (omega (arith, p, q, c.decreases), within)

pub returns-in_err-deserialize_enum : goal.returns-in_err-deserialize_enum
returns-in_err-deserialize_enum g t c =
    let p = err_from_is_err_and c.from_residual.result c.from_residual.ensures.1 in
    rw (p.1, p.2) (index_fails c.in_err-deserialize_enum.ensures)

pub returns-in-0 : goal.returns-in-0
returns-in-0 g t c = end_read (rw c.in-0.is at c.in_ok-deserialize_enum.ensures)

pub returns-in_err-byte-in-1 : goal.returns-in_err-byte-in-1
returns-in_err-byte-in-1 g t c =
    let p = err_from_is_err_and c.from_residual-in_err-byte-in-1.result c.from_residual-in_err-byte-in-1.ensures.1 in
    rw (p.1, p.2) (byte_fails (rw c.in-1.is at c.in_ok-deserialize_enum.ensures) c.in_err-byte-in-1.ensures)

pub returns-in_err-rest-in-1 : goal.returns-in_err-rest-in-1
returns-in_err-rest-in-1 g t c =
    let p = err_from_is_err_and c.from_residual-in_err-rest-in-1.result c.from_residual-in_err-rest-in-1.ensures.1 in
    rw (p.1, p.2) (rest_fails (rw c.in-1.is at c.in_ok-deserialize_enum.ensures) c.in_ok-byte-in-1.ensures c.in_err-rest-in-1.ensures)

pub returns-in-Ok : goal.returns-in-Ok
returns-in-Ok g t c =
    more_read c.in-Ok.rest (rw c.in-1.is at c.in_ok-deserialize_enum.ensures) c.in_ok-byte-in-1.ensures (rw (c.in-Ok.ensures.ok) c.in_ok-rest-in-1.ensures)

pub returns-in-1 : goal.returns-in-1
returns-in-1 g t c = memory_fails (rw c.in-1.is at c.in_ok-deserialize_enum.ensures) c.in_ok-byte-in-1.ensures c.in_ok-rest-in-1.ensures

pub returns : goal.returns
returns g t c = unknown_fails c.in_ok-deserialize_enum.ensures (omega arith)

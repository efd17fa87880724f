use Rattle.std.proofs.Common.{Some, arith}
use Rattle.std.proofs.lemmas.Result.{err_from_is_err_and}
use Rattle.wire_json.proofs.ParsedLemmas.{of_variant}
use Rattle.wire_json.proofs.LeafRefusals.{named_key, no_empty_variant}
use Rattle.wire_json.proofs.parse.variant_key.Goals as goal

pub returns-clause-of_type : goal.returns-clause-of_type
returns-clause-of_type c =
    of_variant c.args.depth c.args.schema.now.nodes.items c.args.payloads.now c.in-Some.index c.in_ok-new.field-0 (omega (arith, c.if-index-payloads.false)) (omega arith)
    (rw c.in_ok-new.ensures.ok c.in_ok-held.ensures.of_type)

pub returns-clause-means : goal.returns-clause-means
returns-clause-means c = named_key c.args.schema.now (Some c.args.names.now) c.args.payloads.now c.args.key.now c.in-Some.index c.in_ok-new.field-0 c.in-Some.ensures.some (omega (arith, c.if-index-payloads.false)) c.in_ok-held.ensures.none

pub returns-in_err-held-clause-refused : goal.returns-in_err-held-clause-refused
returns-in_err-held-clause-refused c =
    let p = err_from_is_err_and c.from_residual.result c.from_residual.ensures.1 in
    rw (p.1, p.2) (λ wrong. no_empty_variant c.args.schema.now c.args.depth (Some c.args.names.now) c.args.payloads.now c.args.key.now c.in-Some.index c.in-Some.ensures.some (omega (arith, c.if-index-payloads.false)) (c.in_err-held.ensures.refused wrong))

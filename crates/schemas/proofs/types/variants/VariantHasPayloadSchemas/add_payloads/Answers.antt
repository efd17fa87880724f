use Rattle.std.proofs.Common.{◌≡◌, ◌++◌, ◌∷◌, [], arith}
use Rattle.std.proofs.lemmas.Grind.{common_steps}
use Rattle.schemas.proofs.TablesLemmas.{begins_more, payloads_as, payloads_first}
use Rattle.schemas.proofs.types.variants.VariantHasPayloadSchemas.add_payloads.Goals as goal

pub returns-clause-are_schemas : goal.returns-clause-are_schemas
returns-clause-are_schemas g c =
    let e : c.push.new.self.items ≡ c.args.payloads.now.items ++ c.in_ok-held.held ∷ [] = grind (arith, common_steps) in
    payloads_as c.add_payloads.result c.add_payloads.new.nodes.items c.args.payloads.now.items c.push.new.self.items c.add_payloads.new.payloads.items
    (λ h. payloads_first c.in_ok-held.ensures.is_schema c.add_payloads.ensures.kept e h) c.add_payloads.ensures.are_schemas

pub returns-clause-kept : goal.returns-clause-kept
returns-clause-kept g c = begins_more c.in_ok-held.ensures.kept c.add_payloads.ensures.kept

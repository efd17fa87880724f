use Rattle.std.proofs.Common.{◌≡◌, ◌++◌, ◌∷◌, [], arith}
use Rattle.std.proofs.lemmas.Grind.{common_steps}
use Rattle.schemas.proofs.TablesLemmas.{payloads_last}
use Rattle.schemas.proofs.types.variants.LastHasPayloadSchemas.add_payloads.Goals as goal

pub returns-clause-are_schemas : goal.returns-clause-are_schemas
returns-clause-are_schemas g c =
    let e : c.push.new.self.items ≡ c.args.payloads.now.items ++ c.in_ok-held.held ∷ [] = grind (arith, common_steps) in
    payloads_last c.in_ok-held.ensures.is_schema e

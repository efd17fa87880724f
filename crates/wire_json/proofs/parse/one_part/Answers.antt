use Rattle.std.proofs.Common.{arith, refl}
use Rattle.std.proofs.lemmas.Grind.{common_steps}
use Rattle.wire_json.proofs.parse.one_part.Goals as goal

pub returns-clause-group : goal.returns-clause-group
returns-clause-group c = (c.push.new.self, refl, grind (arith, common_steps))

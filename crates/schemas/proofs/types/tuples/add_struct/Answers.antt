use Rattle.schemas.proofs.TablesLemmas.{begins_itself, struct_added}
use Rattle.schemas.proofs.types.tuples.add_struct.Goals as goal

pub returns-in_err-held-clause-kept : goal.returns-in_err-held-clause-kept
returns-in_err-held-clause-kept g c = begins_itself c.args.nodes.now.items

pub returns-clause-kept : goal.returns-clause-kept
returns-clause-kept g c = c.add_node.ensures.kept

pub returns-clause-added : goal.returns-clause-added
returns-clause-added g c = struct_added c.add_node.result c.in_ok-held.held c.args.fields c.args.nodes.now.items c.add_node.new.nodes.items c.in_ok-held.ensures.items c.add_node.ensures.added

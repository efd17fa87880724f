use Rattle.schemas.proofs.TablesLemmas.{added_as, leaf_schema}
use Rattle.schemas.proofs.types.add_leaf.Goals as goal

pub returns-clause-is_schema : goal.returns-clause-is_schema
returns-clause-is_schema c =
    added_as c.add_node.result c.args.node c.args.nodes.now.items c.add_node.new.nodes.items (λ place h. leaf_schema c.args.node c.requires h) c.add_node.ensures.added

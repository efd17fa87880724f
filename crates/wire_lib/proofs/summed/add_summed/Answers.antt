use Rattle.std.proofs.Common.{◌++◌, [], ◌∷◌, refl, ap, ◌∙◌, append_assoc, rules}
use Rattle.schema_table.specs.declared.integer.IntegerType.TheVariants as types
use Rattle.schema_table.specs.declared.node.Node.TheVariants as node
use Rattle.schema_table.specs.declared.schema.Names.TheVariants as names
use Rattle.wire_lib.proofs.summed.add_summed.Goals as goal

pub returns : goal.returns
returns c = record {
  parts = c.push-2.new.self;
  parts_are = search rules;
  nodes = c.in_ok-push-5.ensures.items ∙ ap (λ xs. xs ++ node.Struct c.push-2.new.self ∷ []) c.in_ok-push-3.ensures.items ∙ append_assoc c.args.schema.now.nodes.items (node.LE types.U32 ∷ []) (node.Struct c.push-2.new.self ∷ []);
  named = c.in_ok-push-6.ensures.items ∙ ap (λ xs. xs ++ names.Newtype ∷ []) c.in_ok-push-4.ensures.items ∙ append_assoc c.args.schema.now.names.items (names.Nothing ∷ []) (names.Newtype ∷ []);
  same = refl;
  there = search rules;
}

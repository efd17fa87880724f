use Rattle.std.proofs.lemmas.Grind.{common_steps}
use Rattle.std.proofs.Common.{refl, arith, rules}
use Rattle.cobs.proofs.BlocksLemmas.{went_all, went_by, went_first, holds_first}
use Rattle.cobs.proofs.codes.put_all.Goals as goal

pub returns-then-is_empty-clause-went_on : goal.returns-then-is_empty-clause-went_on
returns-then-is_empty-clause-went_on g c =
    went_all _ c.args.bytes.now c.args.bytes.now _ c.args.at.len c.args.at.code_at c.args.at.len c.requires refl (search rules)

pub put_few-requires : goal.put_few-requires
put_few-requires g c = record {
  laid = c.requires.laid;
  room = grind (arith, common_steps);
  short = grind (arith, common_steps);
  some = grind (arith, common_steps);
}

pub returns-then-end-at-clause-went_on : goal.returns-then-end-at-clause-went_on
returns-then-end-at-clause-went_on g c = went_by _ _ _ c.args.at.code_at c.args.at.len _ _ c.requires c.put_few.ensures.holds

pub put_first-requires : goal.put_first-requires
put_first-requires g c = record {
  laid = (holds_first _ c.args.at.code_at c.args.at.len c.if-at-eq1.true c.requires).laid;
  room = grind (arith, common_steps);
  short = grind (arith, common_steps);
  some = grind (arith, common_steps);
}

pub returns-then-bytes-dest-clause-went_on : goal.returns-then-bytes-dest-clause-went_on
returns-then-bytes-dest-clause-went_on g c =
    went_first _ _ _ c.args.at.code_at c.args.at.len _ _ c.if-at-eq1.true c.requires c.put_first.ensures.holds

pub returns-then-is_empty-clause-nothing : goal.returns-then-is_empty-clause-nothing
returns-then-is_empty-clause-nothing g c = grind (arith, common_steps)

pub overflow_add-end : goal.overflow_add-end
overflow_add-end g c = grind (arith, common_steps)

pub overflow_add-at : goal.overflow_add-at
overflow_add-at g c = grind (arith, common_steps)

pub returns-then-end-at-clause-nothing : goal.returns-then-end-at-clause-nothing
returns-then-end-at-clause-nothing g c = grind (arith, common_steps)

pub returns-then-bytes-dest-clause-nothing : goal.returns-then-bytes-dest-clause-nothing
returns-then-bytes-dest-clause-nothing g c = grind (arith, common_steps)

pub put_blocks-requires : goal.put_blocks-requires
put_blocks-requires g c = rw c.if-sentinel-eq0.true at c.requires

pub returns-then-sentinel-eq0-clause-went_on : goal.returns-then-sentinel-eq0-clause-went_on
returns-then-sentinel-eq0-clause-went_on g c = rw c.if-sentinel-eq0.true c.put_blocks.ensures

pub returns-then-sentinel-eq0-clause-nothing : goal.returns-then-sentinel-eq0-clause-nothing
returns-then-sentinel-eq0-clause-nothing g c = grind (arith, common_steps)

pub put_blocks-requires-2 : goal.put_blocks-requires-2
put_blocks-requires-2 g c = c.requires

pub returns-clause-went_on : goal.returns-clause-went_on
returns-clause-went_on g c = c.put_blocks-2.ensures

pub returns-clause-nothing : goal.returns-clause-nothing
returns-clause-nothing g c = grind (arith, common_steps)

use Rattle.std.proofs.lemmas.Grind.{common_steps}
use Rattle.std.proofs.Common.{◌≡◌, length, take, drop, ◌∙◌, arith, length-drop}
use Rattle.std.proofs.lemmas.List.{length-take-le}
use Rattle.cobs.specs.Sentinel.{masked}
use Rattle.cobs.proofs.LanesLemmas.{going_on, going_end}
use Rattle.cobs.proofs.MaskingLemmas.{masked_put, masked_length}
use Rattle.cobs.proofs.codes.put_codes_marked.Goals as goal

pub loop-zeros-preserved : goal.loop-zeros-preserved
loop-zeros-preserved c =
    let f = c.lowest-n.ensures in
    let there = drop c.args.at.len c.args.dest.now in
    let long : length (masked c.args.sentinel (take c.args.n there)) ≡ c.args.n = masked_length c.args.sentinel (take c.args.n there) ∙ length-take-le c.args.n there (omega (arith, length-drop c.args.at.len c.args.dest.now, c.requires.block.within)) in
    rw (masked_put c.args.sentinel c.loop-zeros.dest c.loop-zeros.code _) (going_on _ _ _ _ _ _ _ _ _ (omega (arith, long, c.requires.block.few)) f.set f.below f.others f.no_more c.loop-zeros.invariant)

pub returns : goal.returns
returns c =
    let going = c.loop-zeros.invariant in
    record {
      begins = omega (arith, going.begins, going.within);
      later = going.later;
      coding = going_end _ _ _ _ _ _ _ c.loop-zeros-test.false going;
    }

pub overflow_cast-dest : goal.overflow_cast-dest
overflow_cast-dest c = grind (arith, common_steps)

pub bounds-dest-code : goal.bounds-dest-code
bounds-dest-code c = grind (arith, common_steps)

pub loop-zeros-init : goal.loop-zeros-init
loop-zeros-init c = grind (arith, common_steps)

pub lowest-n-requires : goal.lowest-n-requires
lowest-n-requires c = grind (arith, common_steps)

pub overflow_add-here : goal.overflow_add-here
overflow_add-here c = grind (arith, common_steps)

pub overflow_sub-dest : goal.overflow_sub-dest
overflow_sub-dest c = grind (arith, common_steps)

pub loop-zeros-smaller : goal.loop-zeros-smaller
loop-zeros-smaller c = grind (arith, common_steps)

use Rattle.std.proofs.Common.{ap, arith, length}
use Rattle.std.proofs.lemmas.Grind.{common_steps}
use Rattle.wire_json.proofs.LeafRefusals.{one_member}
use Rattle.wire_json.proofs.parse.only_member.Goals.{in_default-as_slice-via-then-as_slice-lt1, in_default-as_slice-via-else-as_slice-lt1+else-this-lt2}
use Rattle.wire_json.proofs.parse.only_member.Goals as goal

pub returns-in_default-as_slice-clause-none : goal.returns-in_default-as_slice-clause-none
returns-in_default-as_slice-clause-none c s j e =
    let one = one_member c.args.json.now c.in-Object.members s j c.in-Object.is e in
    let same = ap length c.as_slice.ensures.value in
    elim c.in_default-as_slice.branch [
      | in_default-as_slice-via-then-as_slice-lt1 w ↦ grind (arith, common_steps, one, same)
      | in_default-as_slice-via-else-as_slice-lt1+else-this-lt2 w ↦ grind (arith, common_steps, one, same)
    ]

use Rattle.std.proofs.Common.{◌≡◌, ◌≢◌, length, arith}
use Rattle.std.proofs.lemmas.Grind.{common_steps}
use Rattle.wire_json.proofs.LeafRefusals.{tuple_shape, fields_shape, misfit_plain, tuple_miscounted, tuple_no_array, fields_left, fields_no_object}
use Rattle.wire_json.proofs.parse.misfit.Goals.{in_default-via-in-Unit+in_default, in_default-via-in-Tuple-Array+else-len-count, in_default-via-in-Tuple+in_default, in_default-via-in-Fields-Object+else-is_empty, then-count-gt0, else-count-gt0, in_default-via-in-Fields+in_default, in_default-via-in_default}
use Rattle.wire_json.proofs.parse.misfit.Goals as goal

pub returns-in-Tuple-Array-clause-fits : goal.returns-in-Tuple-Array-clause-fits
returns-in-Tuple-Array-clause-fits c = tuple_shape c.args.names.now c.args.count c.args.json.now c.in-Tuple-Array.elements c.in-Tuple-Array.is-0 c.in-Tuple-Array.is-1 (omega (arith, c.len.ensures, c.if-len-count.true))

pub returns-in-Fields-Object-clause-fits : goal.returns-in-Fields-Object-clause-fits
returns-in-Fields-Object-clause-fits c =
    let none : c.args.count ≡ 0 → length c.in-Fields-Object.members.items ≡ 0 = λ z. elim c.if-count-gt0.branch [
      | then-count-gt0 w ↦ absurd (omega (arith, z))
      | else-count-gt0 w ↦ grind (arith, common_steps)
    ] in
    fields_shape c.args.names.now c.in-Fields-Object.field-0-0 c.args.count c.args.json.now c.in-Fields-Object.members c.in-Fields-Object.is-0 c.in-Fields-Object.is-1 none

pub returns-in_default-clause-misfits : goal.returns-in_default-clause-misfits
returns-in_default-clause-misfits c =
    let n = c.args.count in
    let named = c.args.names.now in
    let j = c.args.json.now in
    elim c.in_default.branch [
      | in_default-via-in-Unit+in_default w ↦ misfit_plain named n j w.in_default.not-Newtype-0 w.in_default.not-Tuple-0 w.in_default.not-Fields-0 (λ e. w.in_default.not-Null-1) (λ e. w.in_default.not-Null-1)
      | in_default-via-in-Tuple-Array+else-len-count w ↦ tuple_miscounted named n j w.in-Tuple-Array.elements w.in-Tuple-Array.is-0 w.in-Tuple-Array.is-1 (λ e. w.if-len-count.false (omega (arith, e, w.len.ensures)))
      | in_default-via-in-Tuple+in_default w ↦ tuple_no_array named n j w.in_default.is-0 w.in_default.not-Array-1
      | in_default-via-in-Fields-Object+else-is_empty w ↦
          let left : length w.in-Fields-Object.members.items ≢ 0 = elim w.if-count-gt0.branch [
            | then-count-gt0 u ↦ absurd (omega (arith, c.if-count-eq0.true, u.if-count-gt0.true))
            | else-count-gt0 u ↦ λ e. grind (arith, common_steps)
          ] in
          fields_left named w.in-Fields-Object.field-0-0 n j w.in-Fields-Object.members w.in-Fields-Object.is-0 w.in-Fields-Object.is-1 c.if-count-eq0.true left
      | in_default-via-in-Fields+in_default w ↦ fields_no_object named w.in_default.field-0-0 n j w.in_default.is-0 w.in_default.not-Object-1
      | in_default-via-in_default w ↦ misfit_plain named n j w.in_default.not-Newtype-0 w.in_default.not-Tuple-0 w.in_default.not-Fields-0 (λ e. absurd (w.in_default.not-Unit-0 e)) (λ e. absurd (w.in_default.not-Empty-0 e))
    ]

pub returns-in-Tuple-default-clause-misfits : goal.returns-in-Tuple-default-clause-misfits
returns-in-Tuple-default-clause-misfits c =
    let n = c.args.count in
    let named = c.args.names.now in
    let j = c.args.json.now in
    elim c.in_default.branch [
      | in_default-via-in-Unit+in_default w ↦ absurd (w.in_default.not-Tuple-0 c.in-Tuple-default.is-0)
      | in_default-via-in-Tuple-Array+else-len-count w ↦ tuple_miscounted named n j w.in-Tuple-Array.elements w.in-Tuple-Array.is-0 w.in-Tuple-Array.is-1 (λ e. w.if-len-count.false (omega (arith, e, w.len.ensures)))
      | in_default-via-in-Tuple+in_default w ↦ tuple_no_array named n j w.in_default.is-0 w.in_default.not-Array-1
      | in_default-via-in-Fields-Object+else-is_empty w ↦ absurd (cc (w.in-Fields-Object.is-0, c.in-Tuple-default.is-0))
      | in_default-via-in-Fields+in_default w ↦ absurd (cc (w.in_default.is-0, c.in-Tuple-default.is-0))
      | in_default-via-in_default w ↦ absurd (w.in_default.not-Tuple-0 c.in-Tuple-default.is-0)
    ]

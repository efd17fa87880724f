use Rattle.std.proofs.Common.{◌≡◌, length, arith}
use Rattle.std.proofs.lemmas.Grind.{common_steps}
use Rattle.std.proofs.lemmas.Result.{err_from_is_err_and}
use Rattle.wire_json.proofs.ParsedLemmas.{ok_both}
use Rattle.wire_json.proofs.LeafRefusals.{bytes_fit, digits_of_type, no_digits}
use Rattle.wire_json.proofs.parse.byte_values_of_digits.Goals.{else-depth-eq0-via-then-depth-eq0+else-not-is_empty, else-depth-eq0-via-else-depth-eq0}
use Rattle.wire_json.proofs.parse.byte_values_of_digits.Goals as goal

pub returns-then-not-is_empty-clause-refused : goal.returns-then-not-is_empty-clause-refused
returns-then-not-is_empty-clause-refused c wrong vs fits h =
    no_digits c.args.schema.now c.args.depth c.args.place c.args.digits.now h.0 vs c.if-depth-eq0.true (λ e. grind (arith, common_steps)) fits h.1 h.2

pub returns-in_err-bytes-clause-refused : goal.returns-in_err-bytes-clause-refused
returns-in_err-bytes-clause-refused c =
    let p = err_from_is_err_and c.from_residual.result c.from_residual.ensures.1 in
    rw (p.1, p.2) (λ wrong vs fits h. c.in_err-bytes.ensures.refused wrong h.0 (bytes_fit c.args.schema.now c.args.depth c.args.place h.0 vs fits h.2) h.1)

pub returns-clause-of_type : goal.returns-clause-of_type
returns-clause-of_type c e =
    let none : c.args.depth ≡ 0 → length c.args.digits.now ≡ 0 = λ z. elim c.else-depth-eq0.branch [
      | else-depth-eq0-via-then-depth-eq0+else-not-is_empty w ↦ grind (arith, common_steps)
      | else-depth-eq0-via-else-depth-eq0 w ↦ absurd (w.if-depth-eq0.false z)
    ] in
    ok_both c.byte_values.result (λ v of m. digits_of_type c.args.schema.now c.args.depth c.args.place c.args.digits.now c.in_ok-bytes.bytes.items v.items e none c.in_ok-bytes.ensures.means (rw c.deref.ensures.value at m) of) c.byte_values.ensures.of_type c.byte_values.ensures.means

use Rattle.std.specs.Str.{IsUtf8}
use Rattle.std.proofs.Common.{◌≤◌, length, sym, subst, arith}
use Rattle.wire_json.proofs.ParsedLemmas.{short_text_leaf, text_means}
use Rattle.wire_json.proofs.LeafRefusals.{long_text}
use Rattle.wire_json.proofs.parse.text_up_to.Goals as goal

pub returns : goal.returns
returns c =
    let t = c.in_ok-from_str.field-0 in
    let e = c.in_ok-from_str.ensures.ok in
    let short = subst (λ s. length s ≤ c.args.most) (sym e) (omega (arith, c.if-held-most.false)) in
    record { of_type = short_text_leaf c.args.most t (subst IsUtf8 (sym e) c.utf8.held) short; means = text_means c.args.held.now t e; refused = tt }

pub returns-then-held-most-clause-refused : goal.returns-then-held-most-clause-refused
returns-then-held-most-clause-refused c wrong = long_text c.args.most c.args.held.now (omega (arith, c.if-held-most.true))

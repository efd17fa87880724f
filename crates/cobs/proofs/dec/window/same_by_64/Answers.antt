use Rattle.std.proofs.Common.{◌≡◌, ◌+◌, ◌-◌, inl, inr, drop, get_or, ap, ◌∙◌, sym, arith}
use Rattle.std.proofs.lemmas.List.{get_or-take, get_or-drop}
use Rattle.std.proofs.lemmas.Bool.{cases_lt}
use Rattle.cobs.proofs.dec.window.same_by_64.Goals as goal

pub loop-end-preserved : goal.loop-end-preserved
loop-end-preserved c =
    let bytes = c.args.bytes.now in
    let end = c.loop-end.end in
    record {
      within = omega arith;
      many = λ _. omega arith;
      same = λ k l. elim (cases_lt k end) [
        | inl b ↦ c.loop-end.invariant.same k b
        | inr b ↦
            let at : end + (k - end) ≡ k = omega arith in
            ap (λ j. get_or bytes j 0) (sym at) ∙ sym (get_or-drop end bytes (k - end) 0) ∙ sym (get_or-take (end + 64 - end) (drop end bytes) (k - end) 0 (omega arith)) ∙ c.are_all.ensures c.if-are_all.true (k - end) (omega arith)
      ];
    }

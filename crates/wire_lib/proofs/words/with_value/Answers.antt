use Rattle.std.proofs.Common.{◌++◌, codes, ap, ◌∙◌}
use Rattle.wire_lib.proofs.ArgumentsLemmas.{by_name, by_both, number_read, sets_digits, sets_sentinel, sets_from, sets_depth, sets_empty, sets_only}
use Rattle.wire_lib.proofs.words.with_value.Goals.{in-sentinel+in_ok-options-in-sentinel, in-from+in_ok-options-in-from, in-bytes, in-depth+in_ok-options-in-depth, in-empty+in_ok-options-in-empty, in-only}
use Rattle.wire_lib.proofs.words.with_value.Goals as goal

pub returns-clause-sets : goal.returns-clause-sets
returns-clause-sets c =
    let o = c.args.options in
    let name = c.args.name.now in
    let value = c.args.value.now in
    elim c.match-name.branch [
      | in-sentinel+in_ok-options-in-sentinel w ↦ by_name name (codes "sentinel") value o _ _ w.in-sentinel.is w.options-is
          (sets_sentinel o value w.in_ok-options-in-sentinel.field-0 w.in_ok-options-in-sentinel.ensures.some)
      | in-from+in_ok-options-in-from w ↦ by_name name (codes "from") value o _ _ w.in-from.is w.options-is
          (sets_from o value w.in_ok-options-in-from.field-0
          (number_read 64 value w.parse.result w.ok.result _ w.parse.ensures.value.0 w.ok.ensures.value w.in_ok-options-in-from.was))
      | in-bytes w ↦ by_both name value (codes "bytes=hex") o _ _
          (ap (λ x. x ++ (codes "=" ++ value)) w.in-bytes.is ∙ ap (λ x. codes "bytes=" ++ x) (w.is_hex.ensures.0 w.if-is_hex.true))
          w.options-is (sets_digits o)
      | in-depth+in_ok-options-in-depth w ↦ by_name name (codes "depth") value o _ _ w.in-depth.is w.options-is
          (sets_depth o value w.in_ok-options-in-depth.field-0
          (w.in_ok-options-in-depth.ensures.number, w.in_ok-options-in-depth.ensures.some, w.in_ok-options-in-depth.ensures.most))
      | in-empty+in_ok-options-in-empty w ↦ by_name name (codes "empty") value o _ _ w.in-empty.is w.options-is
          (sets_empty o value w.in_ok-options-in-empty.field-0
          (number_read 64 value w.parse-in-empty.result w.ok-in-empty.result _ w.parse-in-empty.ensures.value.0 w.ok-in-empty.ensures.value w.in_ok-options-in-empty.was))
      | in-only w ↦ by_name name (codes "only") value o _ _ w.in-only.is w.options-is (sets_only o c.args.value)
    ]

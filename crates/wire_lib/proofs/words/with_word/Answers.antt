use Rattle.std.proofs.Common.{codes, inl, inr}
use Rattle.wire_lib.proofs.ArgumentsLemmas.{by_word, sets_hex, sets_strict, sets_raw, sets_summed, sets_time}
use Rattle.wire_lib.proofs.words.with_word.Goals.{in-hex, in-strict, in-raw, in-crc32, in-time}
use Rattle.wire_lib.proofs.words.with_word.Goals as goal

pub returns-clause-sets : goal.returns-clause-sets
returns-clause-sets c =
    let o = c.args.options in
    let word = c.args.word.now in
    elim c.match-word.branch [
      | in-hex w ↦ by_word word (codes "hex") o _ _ w.in-hex.is w.options-is (sets_hex o)
      | in-strict w ↦ by_word word (codes "strict") o _ _ w.in-strict.is w.options-is (sets_strict o)
      | in-raw w ↦ by_word word (codes "raw") o _ _ w.in-raw.is w.options-is (sets_raw o)
      | in-crc32 w ↦ by_word word (codes "crc32") o _ _ w.in-crc32.is w.options-is (sets_summed o)
      | in-time w ↦ by_word word (codes "time") o _ _ w.in-time.is w.options-is (sets_time o)
    ]

pub returns-clause-valid : goal.returns-clause-valid
returns-clause-valid c = elim c.match-word.branch [
  | in-hex w ↦ inl (inl w.in-hex.is)
  | in-strict w ↦ inl (inr (inl w.in-strict.is))
  | in-raw w ↦ inl (inr (inr (inl w.in-raw.is)))
  | in-crc32 w ↦ inl (inr (inr (inr (inl w.in-crc32.is))))
  | in-time w ↦ inl (inr (inr (inr (inr (inl w.in-time.is)))))
]

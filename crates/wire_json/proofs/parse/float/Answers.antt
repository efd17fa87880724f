use Rattle.std.proofs.Common.{◌≡◌, rules}
use Rattle.json.specs.Json.{number, string}
use Rattle.json.specs.Value.{value_view}
use Rattle.json.specs.declared.value.Value.{the_lemmas}
use Rattle.schema_table.specs.Integers.{type_of}
use Rattle.wire_json.specs.Floats.{NumberMeansFloat, WordMeansFloat}
use Rattle.wire_json.proofs.NumberRefusals.{no_float, none_found}
use Rattle.wire_json.proofs.ParsedLemmas.{little_leaf, number_float, word_float}
use Rattle.wire_json.proofs.parse.float.Goals.{in-Number, in-String}
use Rattle.wire_json.proofs.parse.float.Goals as goal

pub returns-in-Some-clause-of_type : goal.returns-in-Some-clause-of_type
returns-in-Some-clause-of_type c =
    let e : type_of c.in-Some.bits ≡ c.args.of = elim c.match-json.branch [ in-Number w ↦ search rules | in-String w ↦ search rules ] in
    little_leaf c.args.of c.in-Some.bits e

pub returns-in-Some-clause-means : goal.returns-in-Some-clause-means
returns-in-Some-clause-means c = elim c.match-json.branch [
  | in-Number w ↦
      let e : value_view c.args.json.now ≡ number w.in-Number.text.now = search (rules, the_lemmas) in
      let h : NumberMeansFloat w.in-Number.text.now c.in-Some.bits = search rules in
      rw e (number_float w.in-Number.text.now c.in-Some.bits h)
  | in-String w ↦
      let e : value_view c.args.json.now ≡ string w.in-String.word.now = search (rules, the_lemmas) in
      let h : WordMeansFloat w.in-String.word.now c.in-Some.bits = search rules in
      rw e (word_float w.in-String.word.now c.in-Some.bits h)
]

pub returns-in-None-clause-refused : goal.returns-in-None-clause-refused
returns-in-None-clause-refused c wrong = elim c.match-json.branch [
  | in-Number w ↦
      let text = w.in-Number.text.now in
      let e : value_view c.args.json.now ≡ number text = search (rules, the_lemmas) in
      let none = none_found c.match-json.bits w.float_of_number-bits.result c.in-None.is w.bits-is w.float_of_number-bits.ensures.none in
      rw e (no_float c.args.of (number text) (NumberMeansFloat text) (λ i h. h) none)
  | in-String w ↦
      let text = w.in-String.word.now in
      let e : value_view c.args.json.now ≡ string text = search (rules, the_lemmas) in
      let none = none_found c.match-json.bits w.float_of_word-bits.result c.in-None.is w.bits-is w.float_of_word-bits.ensures.none in
      rw e (no_float c.args.of (string text) (WordMeansFloat text) (λ i h. h) none)
]

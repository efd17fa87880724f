use Rattle.std.proofs.Common.{◌≡◌, ◌∷◌, ◌++◌, [], get_or, sym, subst, ap, ◌∙◌, arith}
use Rattle.std.specs.Prelude.{map, string_bytes}
use Rattle.framed_lib.specs.Words.{hex_words, NamesSentinel}
use Rattle.framed_lib.proofs.WordsLemmas.{if-none, one-part, no-more}
use Rattle.framed_lib.proofs.arguments.arguments.Goals as goal

pub returns-in_err-sentinel_of-in-len1-clause-none : goal.returns-in_err-sentinel_of-in-len1-clause-none
returns-in_err-sentinel_of-in-len1-clause-none c =
    let first = string_bytes c.in_ok-mode.mode.now in
    let found = c.split_hex-hex.result.0 in
    let last = string_bytes c.word-item.result in
    let one = one-part c.split_hex-hex.result.1.now c.word-item.result (omega arith) c.word-item.is in
    let more : map string_bytes c.in_ok-mode.more.now ≡ hex_words found ++ (last ∷ []) = c.split_hex-hex.ensures.words ∙ ap (λ x. hex_words found ++ map string_bytes x) one in
    let words : map string_bytes c.args.words.now ≡ first ∷ (hex_words found ++ (last ∷ [])) = ap (map string_bytes) c.in_ok-mode.ensures.cases.0 ∙ ap (λ x. first ∷ x) more in
    rw words (if-none _ (no-more first found (last ∷ [])
    (λ e tail k. c.split_hex-hex.ensures.none e tail (more ∙ (ap (λ b. hex_words b ++ (last ∷ [])) e ∙ k))) (omega arith)
    (λ s word e q. c.in_err-sentinel_of-in-len1.ensures.none s (subst (λ x. NamesSentinel s x) (sym (ap (λ x. get_or x 0 []) e) ∙ sym c.as_str-in-len1.ensures.value) q))))

use Rattle.std.proofs.Common.{◌≡◌, ◌∙◌, ◌==◌, ℕ, false, List, [], ◌∷◌, ◌++◌, length, take, if◌then◌else◌, sym, ap, arith}
use Rattle.std.proofs.lemmas.Bool.{ne_eqb}
use Rattle.std.proofs.lemmas.List.{take-append-le, take_all}
use Rattle.wire_lib.specs.Fronts.{most_kept}
use Rattle.wire_lib.proofs.watching.front.keep.Goals as goal

-- the first ones stay where no more are kept
full_stays : (s b : ℕ) (xs : List ℕ) → (b == s) ≡ false → length xs ≡ 24
    → xs ≡ (if b == s then [] else take most_kept (xs ++ b ∷ []))
full_stays s b xs e l =
    sym (ap (λ t. if t then [] else take most_kept (xs ++ b ∷ [])) e
    ∙ take-append-le 24 xs (b ∷ []) (omega (arith, l)) ∙ take_all 24 xs (omega (arith, l)))

pub returns-else-not-is_full : goal.returns-else-not-is_full
returns-else-not-is_full c =
    full_stays c.args.sentinel c.args.byte c.args.bytes.now.items (ne_eqb c.args.byte c.args.sentinel c.if-byte-sentinel.false) (grind (arith, c.is_full.ensures.value, c.if-not-is_full.false))

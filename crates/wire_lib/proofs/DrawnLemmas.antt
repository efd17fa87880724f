-- Bytes that are drawn.
use Rattle.std.proofs.Common.{◌≡◌, ℕ, zero, suc, ◌<◌, ◌-◌, List, ◌++◌, sym, ap, ◌∙◌, append_assoc, arith}
use Rattle.wire_lib.specs.Drawn.{repeated}

-- once, and as often as is left
once_more : (n : ℕ) (bytes : List ℕ) → 0 < n → repeated n bytes ≡ bytes ++ repeated (n - 1) bytes
once_more zero bytes h = absurd (omega arith)
once_more (suc n) bytes h = ap (λ m. bytes ++ repeated m bytes) (omega arith)

-- what is left to append, once bytes were appended
pub one_less : (old new bytes whole : List ℕ) (n : ℕ) → 0 < n → new ≡ old ++ bytes → old ++ repeated n bytes ≡ whole → new ++ repeated (n - 1) bytes ≡ whole
one_less old new bytes whole n h appended e =
    ap (λ x. x ++ repeated (n - 1) bytes) appended ∙ append_assoc old bytes (repeated (n - 1) bytes) ∙ ap (λ x. old ++ x) (sym (once_more n bytes h)) ∙ e

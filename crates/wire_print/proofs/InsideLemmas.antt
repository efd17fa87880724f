-- The value inside newtypes, so many at most, with its type.
use Rattle.std.proofs.Common.{◌≡◌, ℕ, zero, suc, ◌+◌, ◌<◌, ◌≤◌, Some, None, refl, ap, arith}
use Rattle.schema_table.specs.declared.schema.Schema.{Schema}
use Rattle.schema_table.specs.declared.value.Value.{Value}
use Rattle.schema_table.specs.Looks.{part_of, inside_part, inside_within}

-- no newtype is round the value
pub inside_stop : (i left n : ℕ) (schema : Schema) (place : ℕ) (v : Value) → i + left ≡ n → i < n → part_of schema place v ≡ None → inside_within left schema place v ≡ (place, v)
unfolding inside_within
inside_stop i zero n schema place v e l h = absurd (omega (arith, e))
inside_stop i (suc left) n schema place v e l h = ap (inside_part (inside_within left schema) (place, v)) h

-- one is
pub inside_more : (i left n : ℕ) (schema : Schema) (place inner : ℕ) (v w : Value) → i + left ≡ n → i < n → part_of schema place v ≡ Some (inner, w)
    → (more : ℕ) × (i + 1 + more ≡ n) × (inside_within left schema place v ≡ inside_within more schema inner w)
unfolding inside_within
inside_more i zero n schema place inner v w e l h = absurd (omega (arith, e))
inside_more i (suc left) n schema place inner v w e l h = (left, omega (arith, e), ap (inside_part (inside_within left schema) (place, v)) h)

-- none is left
pub inside_end : (i left n : ℕ) (schema : Schema) (place : ℕ) (v : Value) → i + left ≡ n → n ≤ i → (place, v) ≡ inside_within left schema place v
unfolding inside_within
inside_end i zero n schema place v e l = refl
inside_end i (suc left) n schema place v e l = absurd (omega (arith, e))

-- What is asked of a type, and of those inside newtypes, so many at most.
use Rattle.std.proofs.Common.{◌≡◌, ℕ, zero, suc, ◌+◌, ◌<◌, ◌≤◌, true, false, Some, None, refl, ap, arith}
use Rattle.schema_table.specs.declared.schema.Schema.{Schema}
use Rattle.schema_table.specs.Looks.{asked_by, inside_of, null_type, null_within, key_type, key_within}

-- no newtype is at the place
pub null_stop : (i left n : ℕ) (schema : Schema) (place : ℕ) → i + left ≡ n → i < n → inside_of schema place ≡ None → null_within left schema place ≡ null_type schema place
unfolding null_within
null_stop i zero n schema place e l h = absurd (omega (arith, e))
null_stop i (suc left) n schema place e l h = ap (asked_by (null_within left schema) (null_type schema place)) h

-- a newtype is
pub null_more : (i left n : ℕ) (schema : Schema) (place inner : ℕ) → i + left ≡ n → i < n → inside_of schema place ≡ Some inner
    → (more : ℕ) × (i + 1 + more ≡ n) × (null_within left schema place ≡ null_within more schema inner)
unfolding null_within
null_more i zero n schema place inner e l h = absurd (omega (arith, e))
null_more i (suc left) n schema place inner e l h = (left, omega (arith, e), ap (asked_by (null_within left schema) (null_type schema place)) h)

-- none is left
pub null_end : (i left n : ℕ) (schema : Schema) (place : ℕ) → i + left ≡ n → n ≤ i → true ≡ null_within left schema place
unfolding null_within
null_end i zero n schema place e l = refl
null_end i (suc left) n schema place e l = absurd (omega (arith, e))

-- the same of keys
pub key_stop : (i left n : ℕ) (schema : Schema) (place : ℕ) → i + left ≡ n → i < n → inside_of schema place ≡ None → key_within left schema place ≡ key_type schema place
unfolding key_within
key_stop i zero n schema place e l h = absurd (omega (arith, e))
key_stop i (suc left) n schema place e l h = ap (asked_by (key_within left schema) (key_type schema place)) h

pub key_more : (i left n : ℕ) (schema : Schema) (place inner : ℕ) → i + left ≡ n → i < n → inside_of schema place ≡ Some inner
    → (more : ℕ) × (i + 1 + more ≡ n) × (key_within left schema place ≡ key_within more schema inner)
unfolding key_within
key_more i zero n schema place inner e l h = absurd (omega (arith, e))
key_more i (suc left) n schema place inner e l h = (left, omega (arith, e), ap (asked_by (key_within left schema) (key_type schema place)) h)

pub key_end : (i left n : ℕ) (schema : Schema) (place : ℕ) → i + left ≡ n → n ≤ i → false ≡ key_within left schema place
unfolding key_within
key_end i zero n schema place e l = refl
key_end i (suc left) n schema place e l = absurd (omega (arith, e))

-- How long a buffer a value needs, by its type's maximum size.
use Rattle.std.specs.Prelude.{◌≡◌, ℕ, ◌<◌, ◌≤◌, length, refl, Option, Some, None, Result, Ok, Err, IfOk, IfErr, IsOk}
use Rattle.std.proofs.Common.{arith}
use Rattle.postcard_tree.specs.declared.error.Error.{Error}
use Rattle.postcard_tree.specs.declared.error.Error.TheVariants.{SerializeBufferFull}
use Rattle.postcard_tree.specs.Tree.{Tree}
use Rattle.postcard.specs.Greatest.{SizeWithin}
use Rattle.postcard.specs.Written.{WrittenWhole, UnlessRefused}

-- the size that `serialized_size` returns is at most the maximum
pub at_most_size : (o : Option Tree) (g : Option ℕ) (m : ℕ) (r : Result ℕ Error) → SizeWithin o g
    → g ≡ Some m → IfOk r (λ n. WrittenWhole o (λ bytes. n ≡ length bytes)) → IfOk r (λ n. n ≤ m)
at_most_size None g m (Ok n) w e h = absurd h
at_most_size (Some t) g m (Ok n) w e h = let a = w.at_most t m refl e in omega (arith, a, h.1)
at_most_size o g m (Err x) w e h = tt

-- a value that doesn't refuse itself is never refused in a buffer of n bytes, if the maximum size is at most that:
-- the last fact is the clause `err` of `to_slice` and of `to_vec`
pub never_refused : {A : Type 0} (t : Tree) (g : Option ℕ) (m n : ℕ) (r : Result A Error)
    → SizeWithin (Some t) g → g ≡ Some m → m ≤ n
    → IfErr r (λ e. UnlessRefused (Some t) (λ bytes. (e ≡ SerializeBufferFull)
    × (n < length bytes)))
    → IsOk r
never_refused t g m n (Ok x) w e l h = refl
never_refused t g m n (Err x) w e l h = let a = w.at_most t m refl e in absurd (omega (arith, a, l, h.1))

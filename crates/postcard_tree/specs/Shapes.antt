-- How a message type matches its shape. It is stated of the parts of both forms, since whole forms are long to compare.
use Rattle.std.specs.Prelude.{◌≡◌, ℕ, List, Bool, Option, refl}
use Rattle.postcard_tree.specs.declared.error.Error.{Error}
use Rattle.postcard_tree.specs.Tree.{Tree}

-- a type with this view of its values is written and read as another, whose writes, valid, reads, refuses and growing come first
pub record FormMatches {A B : Type 0} (view : A → B) (writes : B → Option Tree) (valid : B → Type 0)
    (reads : Tree → B → Type 0) (refuses : List ℕ → Error → Type 0) (growing : Bool)
    (writes_it : A → Option Tree) (valid_it : A → Type 0) (reads_it : Tree → A → Type 0)
    (refuses_it : List ℕ → Error → Type 0) (growing_it : Bool) : Type 0 where
  -- what a tree is read as, seen as the shape, is what the shape reads
  pub to : (t : Tree) (v : A) → reads_it t v → reads t (view v)
  -- what the shape reads is read as the value with that shape
  pub from : (t : Tree) (v : A) → reads t (view v) → reads_it t v
  -- what the shape refuses is refused by the same error
  pub refused : (s : List ℕ) (e : Error) → refuses s e → refuses_it s e
  -- reading allocates exactly if the shape does
  pub grows : growing ≡ growing_it
  -- a value writes what its shape writes
  pub written : (v : A) → writes_it v ≡ writes (view v)
  -- a valid value has a valid shape
  pub shown : (v : A) → valid_it v → valid (view v)

pub form_matches : {A B : Type 0} {view : A → B} {W : B → Option Tree} {V : B → Type 0}
    {R : Tree → B → Type 0} {F : List ℕ → Error → Type 0} {g : Bool}
    → FormMatches view W V R F g (λ v. W (view v)) (λ v. V (view v)) (λ t v. R t (view v)) F g
form_matches = record {
  to = λ t v h. h;
  from = λ t v h. h;
  refused = λ s e h. h;
  grows = refl;
  written = λ v. refl;
  shown = λ v h. h;
}

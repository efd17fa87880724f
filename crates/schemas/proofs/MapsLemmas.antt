-- Who takes the same of the types inside takes the same of the whole.
use Rattle.std.specs.Prelude.{ℕ, zero, suc, List, [], ◌∷◌}
use Rattle.std.proofs.Common.{inl, inr}
use Rattle.postcard_tree.specs.declared.error.Error.{Error}
use Rattle.postcard_tree.specs.Tree.{Tree, byte, number, sequence, group, Trees, end, part}
use Rattle.postcard_tree.specs.Reading.{TakesOption, TakesAll, TakesSequence, TakesArray, TakesVariant, PartThen, GroupOf, RefusesOption, RefusesAfter, RefusesPartThen, RefusesEach, RefusesSequence, TakesUpTo, IsTooMany, RefusesPast, RefusesUpTo, RefusesVariant}
use Rattle.schemas.specs.TypeSchemas.{TakeTheSame}

abbrev Same : {A : Type 0} → (A → Type 0) → (A → Type 0) → Type 0
Same {A} P Q = (t : A) → P t → Q t

abbrev SameRefused : (List ℕ → Error → Type 0) → (List ℕ → Error → Type 0) → Type 0
SameRefused F G = (s : List ℕ) (e : Error) → F s e → G s e

-- What is taken

option_taken : {P Q : Tree → Type 0} → Same P Q → Same (TakesOption P) (TakesOption Q)
option_taken f (byte b) h = h
option_taken f (group (part (byte b) (part t end))) h = (h.0, f t h.1)
option_taken f _ h = absurd h

all_taken : {P Q : Tree → Type 0} → Same P Q → Same (TakesAll P) (TakesAll Q)
all_taken f end h = tt
all_taken f (part t ts) h = (f t h.0, all_taken f ts h.1)

sequence_taken : {P Q : Tree → Type 0} → Same P Q → Same (TakesSequence P) (TakesSequence Q)
sequence_taken f (sequence ts) h = (h.0, all_taken f ts h.1)
sequence_taken f _ h = absurd h

up_to_taken : {P Q : Tree → Type 0} (n : ℕ) → Same P Q → Same (TakesUpTo n P) (TakesUpTo n Q)
up_to_taken n f t h = (sequence_taken f t h.0, h.1)

array_taken : {P Q : Tree → Type 0} (n : ℕ) → Same P Q → Same (TakesArray n P) (TakesArray n Q)
array_taken n f (group ts) h = (all_taken f ts h.0, h.1)
array_taken n f _ h = absurd h

parts_taken : {P Q : Tree → Type 0} {PS QS : Trees → Type 0} → Same P Q → Same PS QS → Same (PartThen P PS) (PartThen Q QS)
parts_taken f g end h = absurd h
parts_taken f g (part t ts) h = (f t h.0, g ts h.1)

group_taken : {PS QS : Trees → Type 0} → Same PS QS → Same (GroupOf PS) (GroupOf QS)
group_taken f (group ts) h = f ts h
group_taken f _ h = absurd h

variant_taken : {P Q : ℕ → Tree → Type 0} → ((n : ℕ) → Same (P n) (Q n)) → Same (TakesVariant P) (TakesVariant Q)
variant_taken f (group (part (number w i) (part t end))) h = (h.0, h.1, f i t h.2)
variant_taken f _ h = absurd h

-- What is refused

option_refused : {F G : List ℕ → Error → Type 0} → SameRefused F G → SameRefused (RefusesOption F) (RefusesOption G)
option_refused f [] e h = h
option_refused f (b ∷ bs) e (inl h) = inl h
option_refused f (b ∷ bs) e (inr h) = inr (h.0, f bs e h.1)

after_refused : {P Q : Tree → Type 0} {F G : List ℕ → Error → Type 0} → Same P Q → SameRefused F G → SameRefused (RefusesAfter P F) (RefusesAfter Q G)
after_refused f g s e h =
    record { tree = h.tree; front = h.front; rest = h.rest; whole = h.whole; spells = h.spells; taken = f h.tree h.taken; refused = g h.rest e h.refused }

parts_refused : {P Q : Tree → Type 0} {F G FS GS : List ℕ → Error → Type 0} → Same P Q → SameRefused F G → SameRefused FS GS
    → SameRefused (RefusesPartThen P F FS) (RefusesPartThen Q G GS)
parts_refused f g gs s e (inl h) = inl (g s e h)
parts_refused f g gs s e (inr h) = inr (after_refused f gs s e h)

each_refused : {P Q : Tree → Type 0} {F G : List ℕ → Error → Type 0} → Same P Q → SameRefused F G → (n : ℕ) → SameRefused (RefusesEach P F n) (RefusesEach Q G n)
unfolding RefusesEach
each_refused f g zero s e h = absurd h
each_refused f g (suc n) s e (inl h) = inl (g s e h)
each_refused f g (suc n) s e (inr h) = inr (after_refused f (each_refused f g n) s e h)

sequence_refused : {P Q : Tree → Type 0} {F G : List ℕ → Error → Type 0} → Same P Q → SameRefused F G → SameRefused (RefusesSequence P F) (RefusesSequence Q G)
sequence_refused f g s e (inl h) = inl h
sequence_refused f g s e (inr h) =
    inr (record { n = h.n; count = h.count; rest = h.rest; whole = h.whole; counted = h.counted; refused = each_refused f g h.n h.rest e h.refused })

too_many : {P Q : Tree → Type 0} → Same P Q → (n : ℕ) → SameRefused (IsTooMany P n) (IsTooMany Q n)
too_many f n s e h =
    record { trees = h.trees; front = h.front; rest = h.rest; whole = h.whole; spells = h.spells; taken = all_taken f h.trees h.taken; counted = h.counted; error = h.error }

past_refused : {P Q : Tree → Type 0} {F G : List ℕ → Error → Type 0} → Same P Q → SameRefused F G → (n m : ℕ) → SameRefused (RefusesPast n P F m) (RefusesPast n Q G m)
past_refused f g n m s e (inl h) = inl (h.0, each_refused f g m s e h.1)
past_refused f g n m s e (inr (inl h)) = inr (inl (h.0, each_refused f g (suc n) s e h.1))
past_refused f g n m s e (inr (inr h)) = inr (inr (h.0, too_many f (suc n) s e h.1))

up_to_refused : {P Q : Tree → Type 0} {F G : List ℕ → Error → Type 0} → Same P Q → SameRefused F G → (n : ℕ) → SameRefused (RefusesUpTo n P F) (RefusesUpTo n Q G)
up_to_refused f g n s e (inl h) = inl h
up_to_refused f g n s e (inr h) =
    inr (record { n = h.n; count = h.count; rest = h.rest; whole = h.whole; counted = h.counted; refused = past_refused f g n h.n h.rest e h.refused })

variant_refused : {F G : ℕ → List ℕ → Error → Type 0} → ((n : ℕ) → SameRefused (F n) (G n)) → SameRefused (RefusesVariant F) (RefusesVariant G)
variant_refused f s e (inl h) = inl h
variant_refused f s e (inr h) =
    inr (record { n = h.n; index = h.index; rest = h.rest; whole = h.whole; indexed = h.indexed; refused = f h.n h.rest e h.refused })

-- Both ways

pub same_option : {P Q : Tree → Type 0} {F G : List ℕ → Error → Type 0} → TakeTheSame P Q F G → TakeTheSame (TakesOption P) (TakesOption Q) (RefusesOption F) (RefusesOption G)
same_option h =
    record { to = option_taken h.to; from = option_taken h.from; refused_to = option_refused h.refused_to; refused_from = option_refused h.refused_from }

pub same_sequence : {P Q : Tree → Type 0} {F G : List ℕ → Error → Type 0} → TakeTheSame P Q F G → TakeTheSame (TakesSequence P) (TakesSequence Q) (RefusesSequence P F) (RefusesSequence Q G)
same_sequence h = record {
  to = sequence_taken h.to;
  from = sequence_taken h.from;
  refused_to = sequence_refused h.to h.refused_to;
  refused_from = sequence_refused h.from h.refused_from;
}

pub same_up_to : {P Q : Tree → Type 0} {F G : List ℕ → Error → Type 0} (n : ℕ) → TakeTheSame P Q F G → TakeTheSame (TakesUpTo n P) (TakesUpTo n Q) (RefusesUpTo n P F) (RefusesUpTo n Q G)
same_up_to n h = record {
  to = up_to_taken n h.to;
  from = up_to_taken n h.from;
  refused_to = up_to_refused h.to h.refused_to n;
  refused_from = up_to_refused h.from h.refused_from n;
}

pub same_array : {P Q : Tree → Type 0} {F G : List ℕ → Error → Type 0} (n : ℕ) → TakeTheSame P Q F G → TakeTheSame (TakesArray n P) (TakesArray n Q) (RefusesEach P F n) (RefusesEach Q G n)
same_array n h = record {
  to = array_taken n h.to;
  from = array_taken n h.from;
  refused_to = each_refused h.to h.refused_to n;
  refused_from = each_refused h.from h.refused_from n;
}

pub same_parts : {P Q : Tree → Type 0} {PS QS : Trees → Type 0} {F G FS GS : List ℕ → Error → Type 0} → TakeTheSame P Q F G → TakeTheSame PS QS FS GS
    → TakeTheSame (PartThen P PS) (PartThen Q QS) (RefusesPartThen P F FS) (RefusesPartThen Q G GS)
same_parts h k = record {
  to = parts_taken h.to k.to;
  from = parts_taken h.from k.from;
  refused_to = parts_refused h.to h.refused_to k.refused_to;
  refused_from = parts_refused h.from h.refused_from k.refused_from;
}

pub same_group : {PS QS : Trees → Type 0} {FS GS : List ℕ → Error → Type 0} → TakeTheSame PS QS FS GS → TakeTheSame (GroupOf PS) (GroupOf QS) FS GS
same_group h = record { to = group_taken h.to; from = group_taken h.from; refused_to = h.refused_to; refused_from = h.refused_from }

pub same_variant : {P Q : ℕ → Tree → Type 0} {F G : ℕ → List ℕ → Error → Type 0} → ((n : ℕ) → TakeTheSame (P n) (Q n) (F n) (G n))
    → TakeTheSame (TakesVariant P) (TakesVariant Q) (RefusesVariant F) (RefusesVariant G)
same_variant h = record {
  to = variant_taken (λ n. (h n).to);
  from = variant_taken (λ n. (h n).from);
  refused_to = variant_refused (λ n. (h n).refused_to);
  refused_from = variant_refused (λ n. (h n).refused_from);
}

pub same_itself : {A : Type 0} (P : A → Type 0) (F : List ℕ → Error → Type 0) → TakeTheSame P P F F
same_itself P F = record { to = λ t h. h; from = λ t h. h; refused_to = λ s e h. h; refused_from = λ s e h. h }

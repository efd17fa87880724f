-- Who has the same values inside has the same values as a whole.
use Rattle.std.specs.Prelude.{ℕ, zero, suc, List, [], ◌∷◌}
use Rattle.schema_table.specs.declared.value.Value.{Value, out-Value}
use Rattle.schema_table.specs.declared.value.Value.TheOpen.{Value-F}
use Rattle.schema_table.specs.Schemas.{AtTop, OfOption, OfList, OfGroup, OfVariant, EachHas, FieldsHave, PayloadHas}
use Rattle.schemas.specs.TypeSchemas.{HaveTheSame, NoneHave, OneThenHave, LastHas, FirstHas}

abbrev Same : {A : Type 0} → (A → Type 0) → (A → Type 0) → Type 0
Same {A} P Q = (v : A) → P v → Q v

option_has : {P Q : Value → Type 0} → Same P Q → Same (OfOption P) (OfOption Q)
option_has f Value-F.Absent h = h
option_has f (Value-F.Present b) h = f b.value h
option_has f _ h = absurd h

list_has : {P Q : List Value → Type 0} → Same P Q → Same (OfList P) (OfList Q)
list_has f (Value-F.List b) h = f b.items h
list_has f _ h = absurd h

group_has : {P Q : List Value → Type 0} → Same P Q → Same (OfGroup P) (OfGroup Q)
group_has f (Value-F.Group b) h = f b.items h
group_has f _ h = absurd h

variant_has : {P Q : ℕ → Value → Type 0} → ((n : ℕ) → Same (P n) (Q n)) → Same (OfVariant P) (OfVariant Q)
variant_has f (Value-F.Variant n b) h = f n b.value h
variant_has f _ h = absurd h

each_has : {P Q : Value → Type 0} → Same P Q → Same (EachHas P) (EachHas Q)
each_has f [] h = tt
each_has f (v ∷ vs) h = (f v h.0, each_has f vs h.1)

-- Both ways

pub kinds_itself : {A : Type 0} (P : A → Type 0) → HaveTheSame P P
kinds_itself P = record { to = λ v h. h; from = λ v h. h }

pub kinds_option : {P Q : Value → Type 0} → HaveTheSame P Q → HaveTheSame (AtTop (OfOption P)) (AtTop (OfOption Q))
kinds_option h = record { to = λ v k. option_has h.to (out-Value v) k; from = λ v k. option_has h.from (out-Value v) k }

pub kinds_list : {P Q : Value → Type 0} → HaveTheSame P Q → HaveTheSame (AtTop (OfList (EachHas P))) (AtTop (OfList (EachHas Q)))
kinds_list h = record { to = λ v k. list_has (each_has h.to) (out-Value v) k; from = λ v k. list_has (each_has h.from) (out-Value v) k }

pub kinds_array : {P Q : Value → Type 0} → HaveTheSame P Q → HaveTheSame (AtTop (OfGroup (EachHas P))) (AtTop (OfGroup (EachHas Q)))
kinds_array h = record { to = λ v k. group_has (each_has h.to) (out-Value v) k; from = λ v k. group_has (each_has h.from) (out-Value v) k }

pub kinds_group : {P Q : List Value → Type 0} → HaveTheSame P Q → HaveTheSame (AtTop (OfGroup P)) (AtTop (OfGroup Q))
kinds_group h = record { to = λ v k. group_has h.to (out-Value v) k; from = λ v k. group_has h.from (out-Value v) k }

pub kinds_variant : {P Q : ℕ → Value → Type 0} → ((n : ℕ) → HaveTheSame (P n) (Q n)) → HaveTheSame (AtTop (OfVariant P)) (AtTop (OfVariant Q))
kinds_variant h = record { to = λ v k. variant_has (λ n. (h n).to) (out-Value v) k; from = λ v k. variant_has (λ n. (h n).from) (out-Value v) k }

-- Fields

pub kinds_none : (has : ℕ → Value → Type 0) → HaveTheSame (FieldsHave has []) NoneHave
kinds_none has = record { to = to_none; from = from_none } where
  to_none : Same (FieldsHave has []) NoneHave
  to_none [] h = h
  to_none (v ∷ vs) h = h

  from_none : Same NoneHave (FieldsHave has [])
  from_none [] h = h
  from_none (v ∷ vs) h = h

pub kinds_then : (has : ℕ → Value → Type 0) {i : ℕ} (is : List ℕ) {P : Value → Type 0} {PS : List Value → Type 0}
    → HaveTheSame (has i) P → HaveTheSame (FieldsHave has is) PS → HaveTheSame (FieldsHave has (i ∷ is)) (OneThenHave P PS)
kinds_then has {i} is {P} {PS} h k = record { to = to_then; from = from_then } where
  to_then : Same (FieldsHave has (i ∷ is)) (OneThenHave P PS)
  to_then [] m = m
  to_then (v ∷ vs) m = (h.to v m.0, k.to vs m.1)

  from_then : Same (OneThenHave P PS) (FieldsHave has (i ∷ is))
  from_then [] m = m
  from_then (v ∷ vs) m = (h.from v m.0, k.from vs m.1)

-- Variants

pub kinds_last : (has : ℕ → Value → Type 0) {i : ℕ} {P : Value → Type 0} → HaveTheSame (has i) P → (n : ℕ) → HaveTheSame (PayloadHas has (i ∷ []) n) (LastHas P n)
kinds_last has h zero = record { to = h.to; from = h.from }
kinds_last has h (suc n) = record { to = λ v k. k; from = λ v k. k }

pub kinds_first : (has : ℕ → Value → Type 0) {i : ℕ} (is : List ℕ) {P : Value → Type 0} {PS : ℕ → Value → Type 0}
    → HaveTheSame (has i) P → ((n : ℕ) → HaveTheSame (PayloadHas has is n) (PS n)) → (n : ℕ) → HaveTheSame (PayloadHas has (i ∷ is) n) (FirstHas P PS n)
kinds_first has is h k zero = record { to = h.to; from = h.from }
kinds_first has is h k (suc n) = record { to = (k n).to; from = (k n).from }

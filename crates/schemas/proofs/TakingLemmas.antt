-- What was read part by part is a value that the node takes.
use Rattle.std.specs.Prelude.{Box, Result, ◌-◌, ◌+◌, ◌≡◌, ℕ, zero, suc, ◌<◌, ◌≤◌, List, [], ◌∷◌, ◌++◌, length, refl, true, Option, Some, None}
use Rattle.std.specs.List.{slice_get}
use Rattle.std.specs.Global.{Global}
use Rattle.std.proofs.Common.{sym, ◌∙◌, ap, subst, arith, append_assoc, get_or, drop, Vec}
use Rattle.std.proofs.lemmas.List.{drop_more}
use Rattle.std.proofs.Math.ListN.{drop_of_length-le}
use Rattle.postcard_tree.specs.declared.error.Error.{Error}
use Rattle.postcard_tree.specs.declared.error.Error.TheVariants.{OutOfMemory, SerdeDeCustom}
use Rattle.postcard_tree.specs.Tree.{Tree, byte, number, character, sequence, group, Trees, end, part}
use Rattle.postcard_tree.specs.Reading.{Spelled, ReadsNumber, TakesOption, ReadsOption, TakesAll, ReadsAll, TakesSequence, ReadsSequence, TakesUpTo, ReadsUpTo, TakesArray, ReadsArray, TakesVariant, ReadsVariant, RefusesVariant, NoParts, PartThen, GroupOf}
use Rattle.postcard_tree.specs.Kinds.{upto_taken}
use Rattle.postcard_de.specs.Source.{SourceState, SourceGave, Reads, Fails, Outcome}
use Rattle.postcard_de.specs.Steps.{gave_none, gave_more, no_memory, refused_here}
use Rattle.postcard_de.specs.Values.{variant_read, variant_fails, variant_unknown, ReadsParts, no_fields, field_then, group_read, field_fails, rest_fails}
use Rattle.postcard_de.specs.Parts.{PartsRead, parts_start}
use Rattle.schema_table.specs.declared.value.Value.{Value, Absent, Present, List as Listed, Group, Variant}
use Rattle.schema_table.specs.declared.node.Node.{Node}
use Rattle.schema_table.specs.declared.node.Node.TheVariants.{Enum}
use Rattle.schema_table.specs.Values.{tree_of, trees_in}
use Rattle.schema_table.specs.Schemas.{ReadsBy, AtTop, OfOption, OfList, OfGroup, OfVariant, EachHas, FieldsHave, PayloadHas, TakesFields, TakesPayload, RefusesFields, RefusesPayload, TakesPlace, PlaceHas, RefusesPlace, SchemaTakes, SchemaHas, SchemaReads, SchemaRefuses}
use Rattle.schemas.proofs.TopsLemmas.{read_as}
use Rattle.schema_table.specs.ValueLaws.{tree-Absent, tree-Present, tree-Listed, tree-Group, tree-Variant, top-Absent, top-Present, top-Listed, top-Group, top-Variant}

-- Parts of one kind

all_by : (P : Tree → Type 0) (H : Value → Type 0) (ts : Trees) (vs : List Value) → ReadsAll (ReadsBy P H) ts vs → TakesAll P ts × (trees_in vs ≡ ts) × EachHas H vs
all_by P H end [] h = (tt, refl, tt)
all_by P H end (v ∷ vs) h = absurd h
all_by P H (part t ts) [] h = absurd h
all_by P H (part t ts) (v ∷ vs) h =
    let k = all_by P H ts vs h.1 in
    let e : tree_of v ≡ t = h.0.1 in
    let f : trees_in vs ≡ ts = k.1 in
    ((h.0.0, k.0), cc, (h.0.2, k.2))

list_of : (P : Tree → Type 0) (H : Value → Type 0) (t : Tree) (v : Vec Value Global) → ReadsSequence (ReadsBy P H) t v.items
    → TakesSequence P t × (tree_of (Listed v) ≡ t) × AtTop (OfList (EachHas H)) (Listed v)
list_of P H (sequence ts) v h = let k = all_by P H ts v.items h.1 in ((h.0, k.0), tree-Listed v ∙ ap sequence k.1, top-Listed (EachHas H) v k.2)
list_of P H (byte b) v h = absurd h
list_of P H (number b n) v h = absurd h
list_of P H (character c) v h = absurd h
list_of P H (group ts) v h = absurd h

pub list_by : {P : Tree → Type 0} {H : Value → Type 0} {a b : SourceState} (v : Vec Value Global) → Reads a b (Spelled (ReadsSequence (ReadsBy P H))) v.items
    → Reads a b (Spelled (ReadsBy (TakesSequence P) (AtTop (OfList (EachHas H))))) (Listed v)
list_by {P} {H} v h = read_as (Listed v) (λ t k. list_of P H t v k) h

list_up_to_of : (P : Tree → Type 0) (H : Value → Type 0) (most : ℕ) (t : Tree) (v : Vec Value Global) → ReadsUpTo most (ReadsBy P H) t v.items
    → TakesUpTo most P t × (tree_of (Listed v) ≡ t) × AtTop (OfList (EachHas H)) (Listed v)
list_up_to_of P H most t v h = let k = list_of P H t v h.0 in (upto_taken most P (ReadsBy P H) (λ u w j. j.0) t v.items h, k.1, k.2)

pub list_up_to_by : {P : Tree → Type 0} {H : Value → Type 0} {a b : SourceState} (most : ℕ) (v : Vec Value Global) → Reads a b (Spelled (ReadsUpTo most (ReadsBy P H))) v.items
    → Reads a b (Spelled (ReadsBy (TakesUpTo most P) (AtTop (OfList (EachHas H))))) (Listed v)
list_up_to_by {P} {H} most v h = read_as (Listed v) (λ t k. list_up_to_of P H most t v k) h

array_of : (P : Tree → Type 0) (H : Value → Type 0) (n : ℕ) (t : Tree) (v : Vec Value Global) → ReadsArray n (ReadsBy P H) t v.items
    → TakesArray n P t × (tree_of (Group v) ≡ t) × AtTop (OfGroup (EachHas H)) (Group v)
array_of P H n (group ts) v h = let k = all_by P H ts v.items h.0 in ((k.0, h.1), tree-Group v ∙ ap group k.1, top-Group (EachHas H) v k.2)
array_of P H n (byte b) v h = absurd h
array_of P H n (number b m) v h = absurd h
array_of P H n (character c) v h = absurd h
array_of P H n (sequence ts) v h = absurd h

pub array_by : {P : Tree → Type 0} {H : Value → Type 0} {a b : SourceState} (n : ℕ) (v : Vec Value Global) → Reads a b (Spelled (λ t w. ReadsArray n (ReadsBy P H) t w)) v.items
    → Reads a b (Spelled (ReadsBy (TakesArray n P) (AtTop (OfGroup (EachHas H))))) (Group v)
array_by {P} {H} n v h = read_as (Group v) (λ t k. array_of P H n t v k) h

-- nothing was read yet
pub parts_none_yet : {takes : Tree → Type 0} {reads : Tree → Value → Type 0} {refuses : List ℕ → Error → Type 0} {a : SourceState} {n : ℕ} {xs : List Value} → xs ≡ [] → PartsRead takes reads refuses a a n (n - 0) xs
parts_none_yet {takes} {reads} {refuses} {a} {n} {xs} e = subst (λ z. PartsRead takes reads refuses a a n (n - 0) z) (sym e) (parts_start takes reads refuses a n)

-- Options

none_of : (P : Tree → Type 0) (H : Value → Type 0) (t : Tree) → ReadsOption (ReadsBy P H) t None → TakesOption P t × (tree_of Absent ≡ t) × AtTop (OfOption H) Absent
none_of P H (byte b) h = (h, tree-Absent ∙ ap byte (sym h), top-Absent H)
none_of P H (group (part (byte b) (part t end))) h = absurd h
none_of P H _ h = absurd h

pub none_by : {P : Tree → Type 0} {H : Value → Type 0} {a b : SourceState} → Reads a b (Spelled (ReadsOption (ReadsBy P H))) None → Reads a b (Spelled (ReadsBy (TakesOption P) (AtTop (OfOption H)))) Absent
none_by {P} {H} h = read_as Absent (none_of P H) h

some_of : (P : Tree → Type 0) (H : Value → Type 0) (t : Tree) (x : Value) (v : Box Value Global) → v.value ≡ x → ReadsOption (ReadsBy P H) t (Some x)
    → TakesOption P t × (tree_of (Present v) ≡ t) × AtTop (OfOption H) (Present v)
some_of P H (group (part (byte b) (part t end))) x v e h =
    let i : b ≡ 1 = h.0 in
    let k : tree_of v.value ≡ t = ap tree_of e ∙ h.1.1 in
    let f : group (part (byte 1) (part (tree_of v.value) end)) ≡ group (part (byte b) (part t end)) = cc in
    ((h.0, h.1.0), tree-Present v ∙ f, top-Present H v (subst H (sym e) h.1.2))
some_of P H _ x v e h = absurd h

pub some_by : {P : Tree → Type 0} {H : Value → Type 0} {a b : SourceState} {x : Value} (v : Box Value Global) → v.value ≡ x → Reads a b (Spelled (ReadsOption (ReadsBy P H))) (Some x)
    → Reads a b (Spelled (ReadsBy (TakesOption P) (AtTop (OfOption H)))) (Present v)
some_by {P} {H} {a} {b} {x} v e h = read_as (Present v) (λ t k. some_of P H t x v e k) h

-- out of memory behind two reads
pub no_memory_behind : {A B : Type 0} {G : List ℕ → A → Type 0} {H : List ℕ → B → Type 0} {a b c : SourceState} {x : A} {y : B} (R : List ℕ → Error → Type 0)
    → Reads a b G x → Reads b c H y → Fails a c R true OutOfMemory
no_memory_behind R p q = no_memory R (gave_more p.gave q.gave)

-- Fields of several kinds

abbrev pub ReadsFields : (ℕ → Tree → Type 0) → (ℕ → Value → Type 0) → List ℕ → List Value → Trees → Type 0
ReadsFields takes has is vs ts = TakesFields takes is ts × (trees_in vs ≡ ts) × FieldsHave has is vs

-- of these fields, xs were read, and those of left are to be read: what is read or refused of them is so of all
pub record FieldsRead (takes : ℕ → Tree → Type 0) (has : ℕ → Value → Type 0) (refuses : ℕ → List ℕ → Error → Type 0) (start now : SourceState) (all left : List ℕ) (xs : List Value) : Type 0 where
  pub taken : List ℕ
  pub gave : SourceGave start now taken
  pub reads : (c : SourceState) (ys : List Value) → ReadsParts now c (ReadsFields takes has left ys) → ReadsParts start c (ReadsFields takes has all (xs ++ ys))
  pub fails : (c : SourceState) (e : Error) → Fails now c (RefusesFields takes refuses left) true e → Fails start c (RefusesFields takes refuses all) true e

pub fields_start : (takes : ℕ → Tree → Type 0) (has : ℕ → Value → Type 0) (refuses : ℕ → List ℕ → Error → Type 0) (a : SourceState) (all : List ℕ) → FieldsRead takes has refuses a a all all []
fields_start takes has refuses a all = record { taken = []; gave = gave_none a; reads = λ c ys h. h; fails = λ c e h. h }

pub fields_none_yet : {takes : ℕ → Tree → Type 0} {has : ℕ → Value → Type 0} {refuses : ℕ → List ℕ → Error → Type 0} {a : SourceState} {all : List ℕ} {xs : List Value} → xs ≡ [] → FieldsRead takes has refuses a a all all xs
fields_none_yet {takes} {has} {refuses} {a} {all} {xs} e = subst (λ z. FieldsRead takes has refuses a a all all z) (sym e) (fields_start takes has refuses a all)

parts_so : {a b : SourceState} (P Q : Trees → Type 0) → ((ts : Trees) → P ts → Q ts) → ReadsParts a b P → ReadsParts a b Q
parts_so P Q so h = record { taken = h.taken; gave = h.gave; trees = h.trees; spells = h.spells; read = so h.trees h.read }

field_so : (takes : ℕ → Tree → Type 0) (has : ℕ → Value → Type 0) (i : ℕ) (is : List ℕ) (v : Value) (ys : List Value) (ts : Trees)
    → PartThen (λ t. ReadsBy (takes i) (has i) t v) (ReadsFields takes has is ys) ts → ReadsFields takes has (i ∷ is) (v ∷ ys) ts
field_so takes has i is v ys end h = absurd h
field_so takes has i is v ys (part t ts) h =
    let e : tree_of v ≡ t = h.0.1 in
    let f : trees_in ys ≡ ts = h.1.1 in
    ((h.0.0, h.1.0), cc, (h.0.2, h.1.2))

pub fields_more : {takes : ℕ → Tree → Type 0} {has : ℕ → Value → Type 0} {refuses : ℕ → List ℕ → Error → Type 0} {a b c : SourceState} {all : List ℕ} {i : ℕ} {is : List ℕ} {xs : List Value} {v : Value}
    → FieldsRead takes has refuses a b all (i ∷ is) xs → Reads b c (Spelled (ReadsBy (takes i) (has i))) v → FieldsRead takes has refuses a c all is (xs ++ v ∷ [])
fields_more {takes} {has} {refuses} {a} {b} {c} {all} {i} {is} {xs} {v} h r = record {
  taken = h.taken ++ r.taken;
  gave = gave_more h.gave r.gave;
  reads = λ d ys k. subst (λ zs. ReadsParts a d (ReadsFields takes has all zs)) (sym (append_assoc xs (v ∷ []) ys))
      (h.reads d (v ∷ ys) (parts_so (PartThen (λ t. ReadsBy (takes i) (has i) t v) (ReadsFields takes has is ys)) (ReadsFields takes has (i ∷ is) (v ∷ ys)) (field_so takes has i is v ys) (field_then r k)));
  fails = λ d e k. h.fails d e (rest_fails (refuses i) (λ t w j. j.0) (λ z. z) r k);
}

pub field_refused : {takes : ℕ → Tree → Type 0} {has : ℕ → Value → Type 0} {refuses : ℕ → List ℕ → Error → Type 0} {a b c : SourceState} {all : List ℕ} {i : ℕ} {is : List ℕ} {xs : List Value} {e : Error}
    → FieldsRead takes has refuses a b all (i ∷ is) xs → Fails b c (refuses i) true e → Fails a c (RefusesFields takes refuses all) true e
field_refused {takes} {has} {refuses} {a} {b} {c} {all} {i} {is} {xs} {e} h f = h.fails c e (field_fails (takes i) (RefusesFields takes refuses is) (λ z. z) f)

append_none : (xs : List Value) → xs ++ [] ≡ xs
append_none [] = refl
append_none (x ∷ xs) = ap (λ z. x ∷ z) (append_none xs)

group_so : (P : Trees → Type 0) (H : List Value → Type 0) (v : Vec Value Global) (t : Tree) → GroupOf (λ ts. P ts × (trees_in v.items ≡ ts) × H v.items) t
    → GroupOf P t × (tree_of (Group v) ≡ t) × AtTop (OfGroup H) (Group v)
group_so P H v (group ts) h = (h.0, tree-Group v ∙ ap group h.1, top-Group H v h.2)
group_so P H v (byte b) h = absurd h
group_so P H v (number b n) h = absurd h
group_so P H v (character c) h = absurd h
group_so P H v (sequence ts) h = absurd h

no_more : (takes : ℕ → Tree → Type 0) (has : ℕ → Value → Type 0) (ts : Trees) → NoParts ts → ReadsFields takes has [] [] ts
no_more takes has end h = (h, refl, tt)
no_more takes has (part t ts) h = absurd h

pub fields_by : {takes : ℕ → Tree → Type 0} {has : ℕ → Value → Type 0} {refuses : ℕ → List ℕ → Error → Type 0} {a b : SourceState} {all : List ℕ} (v : Vec Value Global)
    → FieldsRead takes has refuses a b all [] v.items → Reads a b (Spelled (ReadsBy (GroupOf (TakesFields takes all)) (AtTop (OfGroup (FieldsHave has all))))) (Group v)
fields_by {takes} {has} {refuses} {a} {b} {all} v h =
    let none : ReadsParts b b (ReadsFields takes has [] []) = parts_so NoParts (ReadsFields takes has [] []) (no_more takes has) (no_fields b) in
    let whole : ReadsParts a b (ReadsFields takes has all v.items) = subst (λ zs. ReadsParts a b (ReadsFields takes has all zs)) (append_none v.items) (h.reads b [] none) in
    read_as {R = λ t w. GroupOf (ReadsFields takes has all w) t} (Group v) (group_so (TakesFields takes all) (FieldsHave has all) v) (group_read (λ w ts. ReadsFields takes has all w ts) v.items whole)

pub fields_no_memory : {takes : ℕ → Tree → Type 0} {has : ℕ → Value → Type 0} {refuses : ℕ → List ℕ → Error → Type 0} {a b : SourceState} {all left : List ℕ} {xs : List Value}
    → FieldsRead takes has refuses a b all left xs → Fails a b (RefusesFields takes refuses all) true OutOfMemory
fields_no_memory {takes} {has} {refuses} {a} {b} {all} h = no_memory (RefusesFields takes refuses all) h.gave

-- the field at that place is the next
pub fields_at : {takes : ℕ → Tree → Type 0} {has : ℕ → Value → Type 0} {refuses : ℕ → List ℕ → Error → Type 0} {a b : SourceState} {all : List ℕ} {xs : List Value} (i : ℕ) → i < length all
    → FieldsRead takes has refuses a b all (drop i all) xs → FieldsRead takes has refuses a b all (get_or all i 0 ∷ drop (i + 1) all) xs
fields_at {takes} {has} {refuses} {a} {b} {all} {xs} i l h = subst (λ z. FieldsRead takes has refuses a b all z xs) (drop_more all i 0 l) h

pub fields_last : {takes : ℕ → Tree → Type 0} {has : ℕ → Value → Type 0} {refuses : ℕ → List ℕ → Error → Type 0} {a b : SourceState} {all : List ℕ} {xs : List Value} (i : ℕ) → length all ≤ i
    → FieldsRead takes has refuses a b all (drop i all) xs → FieldsRead takes has refuses a b all [] xs
fields_last {takes} {has} {refuses} {a} {b} {all} {xs} i l h = subst (λ z. FieldsRead takes has refuses a b all z xs) (drop_of_length-le all l) h

-- Variants

payload_takes : (takes : ℕ → Tree → Type 0) (is : List ℕ) (n : ℕ) (t : Tree) → n < length is → takes (get_or is n 0) t → TakesPayload takes is n t
payload_takes takes [] n t l h = absurd (omega (arith, l))
payload_takes takes (i ∷ is) zero t l h = h
payload_takes takes (i ∷ is) (suc n) t l h = payload_takes takes is n t (omega (arith, l)) h

payload_has : (has : ℕ → Value → Type 0) (is : List ℕ) (n : ℕ) (v : Value) → n < length is → has (get_or is n 0) v → PayloadHas has is n v
payload_has has [] n v l h = absurd (omega (arith, l))
payload_has has (i ∷ is) zero v l h = h
payload_has has (i ∷ is) (suc n) v l h = payload_has has is n v (omega (arith, l)) h

payload_refuses : (refuses : ℕ → List ℕ → Error → Type 0) (is : List ℕ) (n : ℕ) → n < length is → (s : List ℕ) (e : Error) → refuses (get_or is n 0) s e → RefusesPayload refuses is n s e
payload_refuses refuses [] n l s e h = absurd (omega (arith, l))
payload_refuses refuses (i ∷ is) zero l s e h = h
payload_refuses refuses (i ∷ is) (suc n) l s e h = payload_refuses refuses is n (omega (arith, l)) s e h

payload_unknown : (refuses : ℕ → List ℕ → Error → Type 0) (is : List ℕ) (n : ℕ) → length is ≤ n → (s : List ℕ) → RefusesPayload refuses is n s SerdeDeCustom
payload_unknown refuses [] n l s = refl
payload_unknown refuses (i ∷ is) zero l s = absurd (omega (arith, l))
payload_unknown refuses (i ∷ is) (suc n) l s = payload_unknown refuses is n (omega (arith, l)) s

abbrev HoldsPayload : (ℕ → Tree → Type 0) → (ℕ → Value → Type 0) → List ℕ → ℕ → ℕ → Tree → Value → Type 0
HoldsPayload takes has is index j t v = (j ≡ index) × TakesPayload takes is j t × (tree_of v ≡ t) × PayloadHas has is index v

variant_of_payload : (takes : ℕ → Tree → Type 0) (has : ℕ → Value → Type 0) (is : List ℕ) (index : ℕ) (v : Box Value Global) (t : Tree) → ReadsVariant (HoldsPayload takes has is index) t v.value
    → TakesVariant (TakesPayload takes is) t × (tree_of (Variant index v) ≡ t) × AtTop (OfVariant (PayloadHas has is)) (Variant index v)
variant_of_payload takes has is index v (group (part (number w i) (part t end))) h =
    let k : w ≡ 32 = h.0 in
    let j : i ≡ index = h.2.0 in
    let q : tree_of v.value ≡ t = h.2.2 in
    let f : group (part (number 32 index) (part (tree_of v.value) end)) ≡ group (part (number w i) (part t end)) = cc in
    ((h.0, h.1, h.2.1), tree-Variant index v ∙ f, top-Variant (PayloadHas has is) index v h.2.3)
variant_of_payload takes has is index v _ h = absurd h

-- m is the index that was read
pub variant_by : (takes : ℕ → Tree → Type 0) (has : ℕ → Value → Type 0) {a b c : SourceState} {x : Value} (is : List ℕ) (index m : ℕ) (v : Box Value Global) → m ≡ index → v.value ≡ x → index < length is
    → Reads a b (Spelled (ReadsNumber 32)) index → Reads b c (Spelled (ReadsBy (takes (get_or is index 0)) (has (get_or is index 0)))) x
    → Reads a c (Spelled (ReadsBy (TakesVariant (TakesPayload takes is)) (AtTop (OfVariant (PayloadHas has is))))) (Variant m v)
variant_by takes has {a} {b} {c} {x} is index m v i e l p q =
    subst (λ z. Reads a c (Spelled (ReadsBy (TakesVariant (TakesPayload takes is)) (AtTop (OfVariant (PayloadHas has is))))) (Variant z v)) (sym i)
    (read_as (Variant index v) (λ t k. variant_of_payload takes has is index v t k)
    (variant_read {Q = HoldsPayload takes has is index} index v.value (λ t k. (refl, payload_takes takes is index t l k.0, ap tree_of e ∙ k.1, payload_has has is index v.value l (subst (has (get_or is index 0)) (sym e) k.2))) p q))

pub payload_fails : (refuses : ℕ → List ℕ → Error → Type 0) {a b c : SourceState} {e : Error} (is : List ℕ) (index : ℕ) → index < length is
    → Reads a b (Spelled (ReadsNumber 32)) index → Fails b c (refuses (get_or is index 0)) true e → Fails a c (RefusesVariant (RefusesPayload refuses is)) true e
payload_fails refuses {a} {b} {c} {e} is index l p f = variant_fails (refuses (get_or is index 0)) (RefusesPayload refuses is) index (payload_refuses refuses is index l) (λ z. z) p f

pub no_payload : (refuses : ℕ → List ℕ → Error → Type 0) {a b : SourceState} (is : List ℕ) (index : ℕ) → length is ≤ index
    → Reads a b (Spelled (ReadsNumber 32)) index → Fails a b (RefusesVariant (RefusesPayload refuses is)) true SerdeDeCustom
no_payload refuses is index l p = variant_unknown SerdeDeCustom (RefusesPayload refuses is) index (payload_unknown refuses is index l) (λ e. refl) p

-- Places of the table

pub too_deep : (depth : ℕ) (nodes : List Node) (i : ℕ) (a : SourceState) → depth ≡ 0 → Fails a a (SchemaRefuses depth nodes i) true SerdeDeCustom
unfolding SchemaRefuses
too_deep zero nodes i a h = refused_here (SchemaRefuses zero nodes i) (gave_none a) (λ rest. refl) (λ e. refl)
too_deep (suc k) nodes i a h = absurd (omega (arith, h))

pub no_place : (depth : ℕ) (nodes : List Node) (i : ℕ) (a : SourceState) → slice_get nodes i ≡ None → Fails a a (SchemaRefuses depth nodes i) true SerdeDeCustom
unfolding SchemaRefuses
no_place zero nodes i a h = refused_here (SchemaRefuses zero nodes i) (gave_none a) (λ rest. refl) (λ e. refl)
no_place (suc k) nodes i a h =
    subst (λ o. Fails a a (RefusesPlace (SchemaTakes k nodes) (SchemaRefuses k nodes) o) true SerdeDeCustom) (sym h)
    (refused_here (RefusesPlace (SchemaTakes k nodes) (SchemaRefuses k nodes) None) (gave_none a) (λ rest. refl) (λ e. refl))

abbrev pub PlaceOutcome : SourceState → SourceState → Result Value Error → ℕ → List Node → Option Node → Type 0
PlaceOutcome a b r depth nodes o =
    Outcome a b r (Spelled (ReadsBy (TakesPlace (SchemaTakes depth nodes) o) (PlaceHas (SchemaHas depth nodes) o))) (RefusesPlace (SchemaTakes depth nodes) (SchemaRefuses depth nodes) o) true

-- the payloads of an enum, as its node has them
pub enum_at : (depth : ℕ) (nodes : List Node) (n : Node) (v : Vec ℕ Global) (is : List ℕ) (a b : SourceState) (r : Result Value Error) → n ≡ Enum v → is ≡ v.items
    → Outcome a b r (Spelled (ReadsBy (TakesVariant (TakesPayload (SchemaTakes depth nodes) is)) (AtTop (OfVariant (PayloadHas (SchemaHas depth nodes) is))))) (RefusesVariant (RefusesPayload (SchemaRefuses depth nodes) is)) true
    → PlaceOutcome a b r depth nodes (Some n)
enum_at depth nodes n v is a b r e f h =
    subst (λ z. PlaceOutcome a b r depth nodes (Some z)) (sym e)
    (subst (λ js. Outcome a b r (Spelled (ReadsBy (TakesVariant (TakesPayload (SchemaTakes depth nodes) js)) (AtTop (OfVariant (PayloadHas (SchemaHas depth nodes) js))))) (RefusesVariant (RefusesPayload (SchemaRefuses depth nodes) js)) true) f h)

pub at_place : (depth : ℕ) (nodes : List Node) (i : ℕ) (n : Node) (a b : SourceState) (r : Result Value Error) → 0 < depth → slice_get nodes i ≡ Some n
    → PlaceOutcome a b r (depth - 1) nodes (Some n) → Outcome a b r (Spelled (SchemaReads depth nodes i)) (SchemaRefuses depth nodes i) true
unfolding SchemaTakes SchemaHas SchemaRefuses
at_place zero nodes i n a b r l e h = absurd (omega (arith, l))
at_place (suc k) nodes i n a b r l e h =
    let q : suc k - 1 ≡ k = omega arith in
    subst (λ o. PlaceOutcome a b r k nodes o) (sym e) (subst (λ z. PlaceOutcome a b r z nodes (Some n)) q h)

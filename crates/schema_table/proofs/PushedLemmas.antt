-- Trees that are written one after another.
use Rattle.std.specs.Prelude.{◌≡◌, ℕ, ◌+◌, ◌<◌, ◌^◌, List, [], ◌∷◌, ◌++◌, length, map, refl, Option, Some, Result, Ok, Err}
use Rattle.std.proofs.Common.{sym, ◌∙◌, ap, subst, arith, take, drop, get_or, append_assoc, append-nil}
use Rattle.std.proofs.lemmas.List.{map_more, take-append-drop, map-append}
use Rattle.postcard_tree.specs.declared.error.Error.{Error}
use Rattle.postcard_tree.specs.Tree.{Tree, Trees, number, sequence, group, end, part, joined, count_of, AreTrees}
use Rattle.postcard_tree.specs.Spelling.{short, short_all, varint}
use Rattle.postcard_ser.specs.Flavor.{FlavorLaws, RefusedAs, Pushes}
use Rattle.postcard_ser.specs.Writing.{Writes, WritesAll}
use Rattle.postcard_tree.specs.FixedTree.{little_tree, big_tree}
use Rattle.schema_table.specs.declared.value.Value.{Value, Variant}
use Rattle.schema_table.specs.Integers.{little_group, big_group}
use Rattle.schema_table.specs.Values.{tree_of, trees_in, parts_as}
use Rattle.schema_table.specs.ValueLaws.{tree-Variant}

-- Integers by their bytes

pub little_written : (k n : ℕ) → little_tree k n ≡ Some (little_group k n)
unfolding little_tree little_group
little_written k n = refl

pub big_written : (k n : ℕ) → big_tree k n ≡ Some (big_group k n)
unfolding big_tree big_group
big_written k n = refl

-- Variants

pub variant_tree : (v w : Value) (n : ℕ) (b : _) → v ≡ Variant n b → w ≡ b.value → tree_of v ≡ group (part (number 32 n) (part (tree_of w) end))
variant_tree v w n b e f = ap tree_of e ∙ tree-Variant n b ∙ ap (λ z. group (part (number 32 n) (part (tree_of z) end))) (sym f)

-- Lists of trees

parts_append : (ts us : List Tree) → parts_as (ts ++ us) ≡ joined (parts_as ts) (parts_as us)
parts_append [] us = refl
parts_append (t ∷ ts) us = ap (part t) (parts_append ts us)

short_joined : (ts us : Trees) → short_all (joined ts us) ≡ short_all ts ++ short_all us
short_joined end us = refl
short_joined (part t ts) us = ap (λ xs. short t ++ xs) (short_joined ts us) ∙ sym (append_assoc (short t) (short_all ts) (short_all us))

are_joined : (ts us : Trees) → AreTrees ts → AreTrees us → AreTrees (joined ts us)
are_joined end us a b = b
are_joined (part t ts) us a b = (a.0, are_joined ts us a.1 b)

pub count_in : (vs : List Value) → count_of (trees_in vs) ≡ length vs
count_in [] = refl
count_in (v ∷ vs) = omega (arith, count_in vs)

trees_more : (xs : List Value) (i : ℕ) (x : Value) → i < length xs → x ≡ get_or xs i x → joined (trees_in (take i xs)) (part (tree_of x) end) ≡ trees_in (take (i + 1) xs)
trees_more xs i x l e =
    sym (parts_append (map tree_of (take i xs)) (tree_of x ∷ []))
    ∙ ap parts_as (ap (λ y. map tree_of (take i xs) ++ tree_of y ∷ []) e ∙ sym (map_more tree_of xs i x l))

trees_split : (xs : List Value) (i : ℕ) → joined (trees_in (take i xs)) (trees_in (drop i xs)) ≡ trees_in xs
trees_split xs i =
    sym (parts_append (map tree_of (take i xs)) (map tree_of (drop i xs)))
    ∙ ap parts_as (sym (map-append tree_of (take i xs) (drop i xs)) ∙ ap (map tree_of) (take-append-drop i xs))

module _ {S : Type 0} {told : S → Option (List ℕ)} {took : S → List ℕ → S → Type 0} {refused : S → List ℕ → Error → S → Type 0} {has_room : S → List ℕ → Type 0} {same : S → S → Type 0} (laws : FlavorLaws told took refused has_room same) where
  later : (s t u : S) (a b : List ℕ) (e : Error) → took s a t → RefusedAs refused t b e u → RefusedAs refused s (a ++ b) e u
  later s t u a b e p q = record { cause = q.cause; was = laws.refused_later s t u a b q.cause p q.was; passed_on = q.passed_on }

  longer : (s u : S) (a b : List ℕ) (e : Error) → RefusedAs refused s a e u → RefusedAs refused s (a ++ b) e u
  longer s u a b e q = record { cause = q.cause; was = laws.refused_more s u a b q.cause q.was; passed_on = q.passed_on }

  -- a group of two: the first was written, and then the second or not
  pub pair_then : {T : Type 0} (s t u : S) (a x : Tree) (r : Result T Error) → Writes {T = Unit {0}} took refused s (Some a) (Ok tt) t → Writes took refused t (Some x) r u
      → Writes took refused s (Some (group (part a (part x end)))) r u
  pair_then s t u a x (Ok z) v w = record { ok = ((v.ok.0, (w.ok.0, tt)), laws.more s t u (short a) (short x ++ []) v.ok.1 (subst (λ k. took t k u) (sym (append-nil (short x))) w.ok.1)); err = tt }
  pair_then s t u a x (Err e) v w = record { ok = tt; err = later s t u (short a) (short x ++ []) e v.ok.1 (longer t u (short x) [] e w.err) }

  -- the first was refused
  pub pair_stops : {T U : Type 0} (s t : S) (a x : Tree) (e : Error) → Writes {T = T} took refused s (Some a) (Err e) t → Writes {T = U} took refused s (Some (group (part a (part x end)))) (Err e) t
  pair_stops s t a x e v = record { ok = tt; err = longer s t (short a) (short x ++ []) e v.err }

  pub group_as : {T : Type 0} (s t : S) (ts : Trees) (r : Result T Error) → WritesAll took refused s (Some ts) r t → Writes took refused s (Some (group ts)) r t
  group_as s t ts (Ok z) w = record { ok = w.ok; err = tt }
  group_as s t ts (Err e) w = record { ok = tt; err = w.err }

  -- parts behind their count
  pub sequence_then : {T : Type 0} (s t u : S) (n : ℕ) (ts : Trees) (r : Result T Error) → count_of ts ≡ n → n < 2 ^ 64 → Pushes {T = Unit {0}} took refused s (varint n) (Ok tt) t → WritesAll took refused t (Some ts) r u
      → Writes took refused s (Some (sequence ts)) r u
  sequence_then s t u n ts (Ok z) c l q w = record { ok = ((omega (arith, c, l), w.ok.0), laws.more s t u (varint (count_of ts)) (short_all ts) (subst (λ k. took s (varint k) t) (sym c) q.ok) w.ok.1); err = tt }
  sequence_then s t u n ts (Err e) c l q w = record { ok = tt; err = later s t u (varint (count_of ts)) (short_all ts) e (subst (λ k. took s (varint k) t) (sym c) q.ok) w.err }

  -- their count was refused
  pub sequence_stops : {T U : Type 0} (s t : S) (n : ℕ) (ts : Trees) (e : Error) → count_of ts ≡ n → Pushes {T = T} took refused s (varint n) (Err e) t → Writes {T = U} took refused s (Some (sequence ts)) (Err e) t
  sequence_stops s t n ts e c q = record { ok = tt; err = longer s t (varint (count_of ts)) (short_all ts) e (subst (λ k. RefusedAs refused s (varint k) e t) (sym c) q.err) }

  abbrev pub Done : S → S → List Value → Type 0
  Done s t vs = AreTrees (trees_in vs) × took s (short_all (trees_in vs)) t

  -- one value more was written
  pub values_more : (s t u : S) (xs : List Value) (i : ℕ) (x : Value) → i < length xs → x ≡ get_or xs i x → Done s t (take i xs) → Writes {T = Unit {0}} took refused t (Some (tree_of x)) (Ok tt) u → Done s u (take (i + 1) xs)
  values_more s t u xs i x l e d w =
      let k : AreTrees (joined (trees_in (take i xs)) (part (tree_of x) end)) × took s (short_all (joined (trees_in (take i xs)) (part (tree_of x) end))) u = (
        are_joined (trees_in (take i xs)) (part (tree_of x) end) d.0 (w.ok.0, tt),
        subst (λ z. took s z u) (sym (short_joined (trees_in (take i xs)) (part (tree_of x) end)))
            (laws.more s t u (short_all (trees_in (take i xs))) (short (tree_of x) ++ []) d.1 (subst (λ z. took t z u) (sym (append-nil (short (tree_of x)))) w.ok.1)),
      ) in
      subst (λ ts. AreTrees ts × took s (short_all ts) u) (trees_more xs i x l e) k

  -- one value was refused
  pub values_stop : {T U : Type 0} (s t u : S) (xs : List Value) (i : ℕ) (x : Value) (e : Error) → i < length xs → x ≡ get_or xs i x → Done s t (take i xs) → Writes {T = T} took refused t (Some (tree_of x)) (Err e) u
      → WritesAll {T = U} took refused s (Some (trees_in xs)) (Err e) u
  values_stop s t u xs i x e l g d w =
      let front : RefusedAs refused s (short_all (joined (trees_in (take i xs)) (part (tree_of x) end))) e u =
      subst (λ z. RefusedAs refused s z e u) (sym (short_joined (trees_in (take i xs)) (part (tree_of x) end)))
      (later s t u (short_all (trees_in (take i xs))) (short (tree_of x) ++ []) e d.1 (longer t u (short (tree_of x)) [] e w.err)) in
      let more : RefusedAs refused s (short_all (trees_in (take (i + 1) xs)) ++ short_all (trees_in (drop (i + 1) xs))) e u =
      longer s u (short_all (trees_in (take (i + 1) xs))) (short_all (trees_in (drop (i + 1) xs))) e (subst (λ ts. RefusedAs refused s (short_all ts) e u) (trees_more xs i x l g) front) in
      record {
        ok = tt;
        err = subst (λ ts. RefusedAs refused s (short_all ts) e u) (trees_split xs (i + 1))
            (subst (λ z. RefusedAs refused s z e u) (sym (short_joined (trees_in (take (i + 1) xs)) (trees_in (drop (i + 1) xs)))) more);
      }

-- A set of names is as long as their list exactly if they differ.
use Rattle.std.proofs.Common.{◌≡◌, ◌≢◌, ℕ, List, [], ◌∷◌, map, length, Bool, false, Bor, String, nat_eq, refl, sym, ap, subst, ◌∙◌}
use Rattle.std.specs.Bool.{Decides}
use Rattle.std.specs.Cmp.{on_equiv}
use Rattle.std.specs.HashSet as bag
use Rattle.std.specs.HashSet.{HashSet, hash_set_len}
use Rattle.std.specs.List.{AllByRecursion, AllPairs, IsDistinct}
use Rattle.std.specs.Str.{bytes_eq}
use Rattle.std.specs.String.{string_bytes}
use Rattle.std.proofs.lemmas.Bool.Decides.{Decides-eqb}
use Rattle.std.proofs.lemmas.Cmp.{nat_list_eq_equiv}
use Rattle.std.proofs.lemmas.Map.Made.{hash_set_len-from_list, IsDistinct-from_count, distinct_count-from_IsDistinct, AllPairs-from_IsDistinct, IsDistinct-from_AllPairs}
use Rattle.std.proofs.lemmas.Slice.Eq.{bytes_eq-Decides}
use Rattle.schema_table.specs.Telling.{NamesDiffer}

module _ {K J : Type 0} (f : K → J) where
  every_value : (P : J → Type 0) (xs : List K) → AllByRecursion (λ x. P (f x)) xs → AllByRecursion P (map f xs)
  every_value P [] h = tt
  every_value P (x ∷ xs) h = (h.0, every_value P xs h.1)

  every_key : (P : J → Type 0) (xs : List K) → AllByRecursion P (map f xs) → AllByRecursion (λ x. P (f x)) xs
  every_key P [] h = tt
  every_key P (x ∷ xs) h = (h.0, every_key P xs h.1)

  distinct_values : (e : J → J → Bool) (xs : List K) → IsDistinct (λ x y. e (f x) (f y)) xs → IsDistinct e (map f xs)
  unfolding IsDistinct
  distinct_values e [] h = tt
  distinct_values e (x ∷ xs) h = (every_value (λ z. e (f x) z ≡ false) xs h.0, distinct_values e xs h.1)

  distinct_keys : (e : J → J → Bool) (xs : List K) → IsDistinct e (map f xs) → IsDistinct (λ x y. e (f x) (f y)) xs
  unfolding IsDistinct
  distinct_keys e [] h = tt
  distinct_keys e (x ∷ xs) h = (every_key (λ z. e (f x) z ≡ false) xs h.0, distinct_keys e xs h.1)

module _ {A : Type 0} where
  -- the name that a key of the set stands for
  abbrev pub name_of : Bor (String A) → List ℕ
  name_of x = string_bytes x.now

  names_of : (xs : List (Bor (String A))) → map name_of xs ≡ map string_bytes (map (λ x. x.now) xs)
  names_of [] = refl
  names_of (x ∷ xs) = ap (λ ns. name_of x ∷ ns) (names_of xs)

  -- the set that `collect` made of names is as long as their list exactly if they differ
  pub count_tells : {S : Type 0} (names : List (String A)) (xs : List (Bor (String A))) (s : HashSet (Bor (String A)) S) (n : ℕ) → map (λ x. x.now) xs ≡ names → length xs ≡ length names → bag.IsFromIterResult (λ x y. bytes_eq (name_of x) (name_of y)) xs s → n ≡ hash_set_len s → Decides (nat_eq n (length names)) (NamesDiffer names)
  count_tells names xs s n are long from is =
      let laws = on_equiv name_of nat_list_eq_equiv in
      let count = is ∙ hash_set_len-from_list laws xs s from in
      let same = names_of xs ∙ ap (map string_bytes) are in (
        λ t. subst (λ ns. AllPairs (λ t u. t ≢ u) ns) same (AllPairs-from_IsDistinct bytes_eq-Decides (map name_of xs) (distinct_values name_of bytes_eq xs (IsDistinct-from_count laws xs (sym count ∙ (Decides-eqb n (length names)).0 t ∙ sym long)))),
        λ d. (Decides-eqb n (length names)).1 (count ∙ distinct_count-from_IsDistinct laws xs (distinct_keys name_of bytes_eq xs (IsDistinct-from_AllPairs bytes_eq-Decides (map name_of xs) (subst (λ ns. AllPairs (λ t u. t ≢ u) ns) (sym same) d))) ∙ long),
      )

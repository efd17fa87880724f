-- The line of a fault, part by part.
use Rattle.std.proofs.Common.{◌≡◌, ℕ, ◌+◌, ◌<◌, ◌≤◌, List, [], ◌∷◌, ◌++◌, length, take, drop, get_or, flat_map, Option, Some, None, String, Global, Result, Ok, Err, OnErr, string_bytes, codes, decimal, refl, sym, ap, ◌∙◌, subst, append_assoc, append-nil, length-append, take-append-drop, arith}
use Rattle.std.proofs.lemmas.List.{take_more}
use Rattle.std.proofs.lemmas.Grind.{flat_map-append}
use Rattle.wire_json.specs.Refused.{AppendsFront, fault_line, line_parts, path_parts, located_why}
use Rattle.wire_json.specs.declared.wrong.Wrong.{Wrong}

-- texts one after another
abbrev joined : List (List ℕ) → List ℕ
joined ts = flat_map (λ t. t) ts

-- the parts of a line are the line
parts_joined : (digits why : List ℕ) (path : Option (String Global))
    → joined (codes "line " ∷ digits ∷ (path_parts path ++ codes ": " ∷ why ∷ codes "\n" ∷ []))
    ≡ codes "line " ++ (digits ++ (codes ": " ++ (located_why path why ++ 10 ∷ [])))
parts_joined digits why None = refl
parts_joined digits why (Some path) =
    ap (λ x. codes "line " ++ (digits ++ (codes ": " ++ x))) (sym (append_assoc (string_bytes path) (codes ": " ++ why) (10 ∷ [])))

joined_line : (number : ℕ) (digits : List ℕ) (w : Wrong) → digits ≡ decimal number → joined (line_parts digits w) ≡ fault_line number w
joined_line number digits w e = parts_joined digits w.why.now w.path ∙ ap (λ d. codes "line " ++ (d ++ (codes ": " ++ (located_why w.path w.why.now ++ 10 ∷ [])))) e

-- there are seven
seven : (digits : List ℕ) (w : Wrong) → length (line_parts digits w) ≡ 7
seven digits w = by w.path
  where
    by : (path : Option (String Global)) → length (codes "line " ∷ digits ∷ (path_parts path ++ codes ": " ∷ w.why.now ∷ codes "\n" ∷ [])) ≡ 7
    by None = refl
    by (Some path) = refl

-- one more of them
pub one_more : (digits : List ℕ) (w : Wrong) (i : ℕ) → i < 7
    → joined (take (i + 1) (line_parts digits w)) ≡ joined (take i (line_parts digits w)) ++ get_or (line_parts digits w) i []
one_more digits w i l =
    let ps = line_parts digits w in
    ap joined (take_more ps i [] (subst (λ n. i < n) (sym (seven digits w)) l))
    ∙ (flat_map-append (λ t. t) (take i ps) (get_or ps i [] ∷ []) ∙ ap (λ x. joined (take i ps) ++ x) (append-nil (get_or ps i [])))

-- the first of them and the rest
split_at : (number : ℕ) (digits : List ℕ) (w : Wrong) (i : ℕ) → digits ≡ decimal number
    → fault_line number w ≡ joined (take i (line_parts digits w)) ++ joined (drop i (line_parts digits w))
split_at number digits w i e =
    let ps = line_parts digits w in
    sym (joined_line number digits w e) ∙ (ap joined (sym (take-append-drop i ps)) ∙ flat_map-append (λ t. t) (take i ps) (drop i ps))

-- a call that failed after some of them
pub failed_front : {A E : Type 0} (r : Result A E) (number : ℕ) (digits old mid new : List ℕ) (w : Wrong) (i : ℕ)
    → digits ≡ decimal number → mid ≡ old ++ joined (take i (line_parts digits w)) → new ≡ mid
    → OnErr r (AppendsFront old new (fault_line number w))
failed_front (Ok x) number digits old mid new w i e m n = tt
failed_front (Err x) number digits old mid new w i e m n = record {
  front = joined (take i (line_parts digits w));
  rest = joined (drop i (line_parts digits w));
  text_is = split_at number digits w i e;
  appended = n ∙ m;
}

-- it failed since the capacity didn't suffice
pub failed_full : {A E : Type 0} (r : Result A E) (number : ℕ) (digits : List ℕ) (w : Wrong) (i cap more len much : ℕ)
    → digits ≡ decimal number → i < 7 → cap ≤ more → much ≡ len + length (joined (take i (line_parts digits w)))
    → more < much + length (get_or (line_parts digits w) i [])
    → OnErr r (cap < len + length (fault_line number w))
failed_full (Ok x) number digits w i cap more len much e l c m f = tt
failed_full (Err x) number digits w i cap more len much e l c m f =
    let whole : length (fault_line number w) ≡ length (joined (take (i + 1) (line_parts digits w))) + length (joined (drop (i + 1) (line_parts digits w)))
    = ap length (split_at number digits w (i + 1) e) ∙ length-append (joined (take (i + 1) (line_parts digits w))) (joined (drop (i + 1) (line_parts digits w))) in
    let next : length (joined (take (i + 1) (line_parts digits w))) ≡ length (joined (take i (line_parts digits w))) + length (get_or (line_parts digits w) i [])
    = ap length (one_more digits w i l) ∙ length-append (joined (take i (line_parts digits w))) (get_or (line_parts digits w) i []) in
    omega (arith, whole, next, c, m, f)

-- one more of them was appended
pub more_done : (old mid new part : List ℕ) (len much late : ℕ) (cap more most : ℕ) (digits : List ℕ) (w : Wrong) (i : ℕ) → i < 7
    → part ≡ get_or (line_parts digits w) i []
    → mid ≡ old ++ joined (take i (line_parts digits w)) → much ≡ len + length (joined (take i (line_parts digits w))) → cap ≤ more
    → new ≡ mid ++ part → late ≡ much + length part → more ≤ most
    → (new ≡ old ++ joined (take (i + 1) (line_parts digits w))) × (late ≡ len + length (joined (take (i + 1) (line_parts digits w)))) × (cap ≤ most)
more_done old mid new part len much late cap more most digits w i l is m n c o p q =
    let next = one_more digits w i l in
    let first = joined (take i (line_parts digits w)) in
    let last = get_or (line_parts digits w) i [] in (
      o ∙ (ap (λ x. mid ++ x) is ∙ (ap (λ x. x ++ last) m ∙ (append_assoc old first last ∙ ap (λ x. old ++ x) (sym next)))),
      omega (arith, p, n, ap length is, ap length next, length-append first last),
      omega (arith, c, q),
    )

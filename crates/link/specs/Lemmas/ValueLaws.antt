-- Values among answers.
use Rattle.std.specs.Prelude.{◌≡◌, ℕ, Bool, true, false, List, [], ◌∷◌, ◌++◌, length, if◌then◌else◌}
use Rattle.std.proofs.Common.{refl, ap, ◌∙◌, ltb}
use Rattle.std.proofs.lemmas.List.{append-nil}
use Rattle.postcard_tree.specs.Tree.{Tree}
use Rattle.link.specs.Stream.{Verdict, value, damaged, too_long, cut, unfinished, begun_answers, cut_answers, Answers}
use Rattle.link.specs.Roads.{values_of}

-- the values of answers one behind another
pub values_joined : (us vs : List Verdict) → values_of (us ++ vs) ≡ values_of us ++ values_of vs
values_joined [] vs = refl
values_joined (value t ∷ us) vs = ap (λ x. t ∷ x) (values_joined us vs)
values_joined (damaged ∷ us) vs = values_joined us vs
values_joined (too_long ∷ us) vs = values_joined us vs
values_joined (cut ∷ us) vs = values_joined us vs

-- what is said of an unfinished stretch holds no value
pub none_in_begun : (limit : ℕ) (p : List ℕ) → values_of (begun_answers limit p) ≡ []
none_in_begun limit p = go (ltb limit (length p))
  where
    go : (c : Bool) → values_of (if c then too_long ∷ [] else []) ≡ []
    go true = refl
    go false = refl

none_in_cut : (limit : ℕ) (p : List ℕ) → values_of (cut_answers limit p) ≡ []
none_in_cut limit [] = refl
none_in_cut limit (b ∷ p) = go (ltb limit (length (b ∷ p)))
  where
    go : (c : Bool) → values_of (if c then [] else cut ∷ []) ≡ []
    go true = refl
    go false = refl

-- the values are those of the stretches that are ended
pub values_done : {holds : List ℕ → Tree → Type 0} {limit s : ℕ} {stream : List ℕ} {answers : List Verdict} (h : Answers holds limit s stream answers)
    → values_of answers ≡ values_of h.done
values_done {limit = limit} {s = s} {stream = stream} h =
    let u = unfinished s stream in
    ap values_of h.whole ∙ values_joined h.done (begun_answers limit u ++ cut_answers limit u)
    ∙ ap (λ x. values_of h.done ++ x) (values_joined (begun_answers limit u) (cut_answers limit u) ∙ ap (λ x. x ++ values_of (cut_answers limit u)) (none_in_begun limit u) ∙ none_in_cut limit u)
    ∙ append-nil (values_of h.done)

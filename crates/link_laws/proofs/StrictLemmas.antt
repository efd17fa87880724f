-- Strict answers tell the stream.
use Rattle.std.proofs.Common.{◌≡◌, ℕ, List, [], ◌∷◌, ◌++◌, map, refl, sym, ap, ◌∙◌, subst, append_assoc}
use Rattle.std.specs.List.{AllZip}
use Rattle.std.proofs.lemmas.List.{append-nil}
use Rattle.cobs.specs.Sentinel.{masked}
use Rattle.postcard_tree.specs.Tree.{Tree}
use Rattle.link.specs.Stream.{value, pieces, ended, unfinished, HoldsExactly, IsAnswer, Answers}
use Rattle.link.specs.Laws.{EndsBetween, IsTidy, IsInjective}
use Rattle.link.specs.Lemmas.Facts.{Facts, one_tree_exactly}
use Rattle.link.specs.Lemmas.Pieces.{Parted, alone, more, parted, pieces_at, pieces_alone, pieces_tell, ends_at, none_unfinished, unfinished_at, unfinished_alone, ended_at, ended_alone}
use Rattle.link.specs.Lemmas.HeardLaws.{at_end, empty_ending}
use Rattle.link_laws.proofs.ProvedLemmas.{once}

-- a tidy stream is its stretches
tidy_from : (s : ℕ) {x : List ℕ} → Parted s x → IsTidy s x → pieces s x ≡ ended s x ++ ([] ∷ [])
tidy_from s {x} (alone p z e) d =
    let none : p ≡ [] = sym (unfinished_alone s p z) ∙ ap (unfinished s) (sym e) ∙ none_unfinished s x d.ends in
    ap (pieces s) e ∙ pieces_alone s p z ∙ ap (λ y. y ∷ []) none ∙ sym (ap (λ y. y ++ ([] ∷ [])) (ap (ended s) e ∙ ended_alone s p z))
tidy_from s {x} (more [] rest z e k) d = absurd (d.first rest e)
tidy_from s {x} (more (b ∷ p) rest z e k) d =
    let h = ends_at s rest in
    let none : unfinished s rest ≡ [] = sym (unfinished_at s (b ∷ p) rest z) ∙ ap (unfinished s) (sym e) ∙ none_unfinished s x d.ends in
    let whole : h.front ≡ rest = sym (h.whole ∙ ap (λ y. h.front ++ masked s y) none ∙ append-nil h.front) in
    let tidy : IsTidy s rest = record {
      ends = subst (EndsBetween s) whole h.between;
      first = λ y f. d.single (masked s (b ∷ p)) y (e ∙ ap (λ r. masked s (b ∷ p) ++ (s ∷ r)) f);
      single = λ y w f. d.single (masked s (b ∷ p) ++ (s ∷ y)) w (e ∙ ap (λ r. masked s (b ∷ p) ++ (s ∷ r)) f ∙ sym (append_assoc (masked s (b ∷ p)) (s ∷ y) (s ∷ (s ∷ w))));
    } in
    ap (pieces s) e ∙ pieces_at s (b ∷ p) rest z ∙ ap (λ y. (b ∷ p) ∷ y) (tidy_from s k tidy)
    ∙ sym (ap (λ y. y ++ ([] ∷ [])) (ap (ended s) e ∙ ended_at s b p rest z))

values_same : (ts us : List Tree) → map value ts ≡ map value us → ts ≡ us
values_same [] [] e = refl
values_same [] (u ∷ us) e = cc
values_same (t ∷ ts) [] e = cc
values_same (t ∷ ts) (u ∷ us) e =
    let rest : map value ts ≡ map value us = cc in
    let more : ts ≡ us = values_same ts us rest in
    let first : t ≡ u = cc in
    cc

module _ (takes : Tree → Type 0) (facts : Facts takes) (limit s : ℕ) where
  -- the values tell the stretches
  same_stretches : (ps qs : List (List ℕ)) (ts : List Tree) → AllZip (IsAnswer (HoldsExactly takes) limit) ps (map value ts) → AllZip (IsAnswer (HoldsExactly takes) limit) qs (map value ts) → ps ≡ qs
  same_stretches [] [] [] h k = refl
  same_stretches (p ∷ ps) qs [] h k = absurd h
  same_stretches [] (q ∷ qs) [] h k = absurd k
  same_stretches [] qs (t ∷ ts) h k = absurd h
  same_stretches (p ∷ ps) [] (t ∷ ts) h k = absurd k
  same_stretches (p ∷ ps) (q ∷ qs) (t ∷ ts) h k =
      ap (λ y. y ∷ ps) (h.0.1.1 ∙ sym k.0.1.1) ∙ ap (λ y. q ∷ y) (same_stretches ps qs ts h.1 k.1)

  -- the answers to a tidy stream are those to its stretches
  done : (x : List ℕ) (ts : List Tree) → IsTidy s x → Answers (HoldsExactly takes) limit s x (map value ts) → AllZip (IsAnswer (HoldsExactly takes) limit) (ended s x) (map value ts)
  done x ts d h =
      let all : map value ts ≡ h.done = h.whole ∙ ap (λ y. h.done ++ at_end limit y) (none_unfinished s x d.ends) ∙ ap (λ y. h.done ++ y) (empty_ending limit) ∙ append-nil h.done in
      subst (λ y. AllZip (IsAnswer (HoldsExactly takes) limit) (ended s x) y) (sym all) h.each

  pub is_injective : IsInjective takes limit s
  is_injective x y ts us d f h k = (
    λ e. values_same ts us ((once (HoldsExactly takes) limit s (one_tree_exactly takes facts)).whole y (map value ts) (map value us) (subst (λ z. Answers (HoldsExactly takes) limit s z (map value ts)) e h) k),
    λ e. pieces_tell s x y (tidy_from s (parted s x) d
        ∙ ap (λ z. z ++ ([] ∷ [])) (same_stretches (ended s x) (ended s y) us (subst (λ z. AllZip (IsAnswer (HoldsExactly takes) limit) (ended s x) (map value z)) e (done x ts d h)) (done y us f k))
        ∙ sym (tidy_from s (parted s y) f)),
  )

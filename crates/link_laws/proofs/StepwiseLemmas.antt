-- Stretches as a relation are those of the pieces.
use Rattle.std.proofs.Common.{◌≡◌, ℕ, List, [], ◌∷◌, ◌++◌, refl, sym, ap, ◌∙◌, subst}
use Rattle.std.specs.List.{AllZip}
use Rattle.link.specs.Stream.{Verdict, ended, unfinished}
use Rattle.link_laws.specs.Relational.{Stretches, AnswerEach, IsHeardStepwise, IsUnfinishedPart}
use Rattle.link.specs.Lemmas.Pieces.{Parted, alone, more, parted, ended_skip, ended_at, unfinished_at, ended_alone, unfinished_alone}

-- those that aren't empty
abbrev pub filled : List (List ℕ) → List (List ℕ)
filled [] = []
filled ([] ∷ ps) = filled ps
filled ((b ∷ p) ∷ ps) = (b ∷ p) ∷ filled ps

module _ (s : ℕ) where
  -- those that aren't empty are the ended ones, and the last is the unfinished one
  pub ended_is : (stream : List ℕ) (ps : List (List ℕ)) (u : List ℕ) → Stretches s stream ps u
      → ended s stream ≡ filled ps
  ended_is stream [] u (z, e) = ap (ended s) e ∙ ended_alone s u z
  ended_is stream ([] ∷ ps) u (after, z, e, h) = ap (ended s) e ∙ ended_skip s after ∙ ended_is after ps u h
  ended_is stream ((b ∷ p) ∷ ps) u (after, z, e, h) = ap (ended s) e ∙ ended_at s b p after z ∙ ap (λ x. (b ∷ p) ∷ x) (ended_is after ps u h)

  pub unfinished_is : (stream : List ℕ) (ps : List (List ℕ)) (u : List ℕ) → Stretches s stream ps u
      → unfinished s stream ≡ u
  unfinished_is stream [] u (z, e) = ap (unfinished s) e ∙ unfinished_alone s u z
  unfinished_is stream (p ∷ ps) u (after, z, e, h) = ap (unfinished s) e ∙ unfinished_at s p after z ∙ unfinished_is after ps u h

  has_from : {x : List ℕ} → Parted s x
      → (before : List (List ℕ)) × (rest : List ℕ) × Stretches s x before rest
  has_from {x} (alone p z e) = ([], p, (z, e))
  has_from {x} (more p rest z e k) = let h = has_from k in (p ∷ h.0, h.1, (rest, z, e, h.2))

  -- each stream has such stretches
  pub has_stretches : (x : List ℕ)
      → (before : List (List ℕ)) × (rest : List ℕ) × Stretches s x before rest
  has_stretches x = has_from (parted s x)

  pub unfinished_part : IsUnfinishedPart s
  unfinished_part x = (has_stretches x, λ before rest h. sym (unfinished_is x before rest h))

module _ (R : List ℕ → Verdict → Type 0) where
  to_zip : (ps : List (List ℕ)) (us : List Verdict) → AnswerEach R ps us → AllZip R (filled ps) us
  to_zip [] us h = subst (AllZip R []) (sym h) tt
  to_zip ([] ∷ ps) us h = to_zip ps us h
  to_zip ((b ∷ p) ∷ ps) [] h = absurd h
  to_zip ((b ∷ p) ∷ ps) (u ∷ us) h = (h.0, to_zip ps us h.1)

  from_zip : (ps : List (List ℕ)) (us : List Verdict) → AllZip R (filled ps) us → AnswerEach R ps us
  from_zip [] [] h = refl
  from_zip [] (u ∷ us) h = absurd h
  from_zip ([] ∷ ps) us h = from_zip ps us h
  from_zip ((b ∷ p) ∷ ps) [] h = absurd h
  from_zip ((b ∷ p) ∷ ps) (u ∷ us) h = (h.0, from_zip ps us h.1)

  -- what is heard of them is what is heard of the stream
  pub heard_stepwise : (said : List ℕ → List Verdict) (s : ℕ) → IsHeardStepwise R said s
  heard_stepwise said s stream answers = (
    λ h. record {
      done = h.front;
      each = subst (λ ps. AllZip R ps h.front) (sym (ended_is s stream h.before h.rest h.stretches)) (to_zip h.before h.front h.each);
      whole = h.whole ∙ ap (λ p. h.front ++ said p) (sym (unfinished_is s stream h.before h.rest h.stretches));
    },
    λ h. (let k = has_stretches s stream in record {
      before = k.0;
      rest = k.1;
      stretches = k.2;
      front = h.done;
      each = from_zip k.0 h.done (subst (λ ps. AllZip R ps h.done) (ended_is s stream k.0 k.1 k.2) h.each);
      whole = h.whole ∙ ap (λ p. h.done ++ said p) (unfinished_is s stream k.0 k.1 k.2);
    }),
  )

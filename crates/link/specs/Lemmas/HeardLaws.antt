-- What is heard of streams one behind another, and that it is one list: laws on which the proofs of this crate and of `link_laws`
-- stand.
use Rattle.std.proofs.Common.{◌≡◌, ℕ, ◌<◌, List, [], ◌∷◌, ◌++◌, length, refl, sym, ap, ◌∙◌, subst, arith, append_assoc, le-ltb, append-nil}
use Rattle.std.specs.List.{AllZip}
use Rattle.cobs.specs.Frames.{NoZero}
use Rattle.cobs.specs.Sentinel.{masked}
use Rattle.link.specs.Stream.{Verdict, ended, unfinished, Heard, begun_answers, cut_answers}
use Rattle.link.specs.Laws.{EndsBetween}
use Rattle.link.specs.Lemmas.Pieces.{ended_skip, unfinished_skip, ended_at, unfinished_at, ended_alone, unfinished_alone, ended_behind, unfinished_behind, none_unfinished}

-- what holds place by place of lists holds of them one behind another
pub zip_joined : {A B : Type 0} (R : A → B → Type 0) (xs ys : List A) (us vs : List B)
    → AllZip R xs us → AllZip R ys vs → AllZip R (xs ++ ys) (us ++ vs)
zip_joined R [] ys [] vs h k = k
zip_joined R [] ys (u ∷ us) vs h k = absurd h
zip_joined R (x ∷ xs) ys [] vs h k = absurd h
zip_joined R (x ∷ xs) ys (u ∷ us) vs h k = (h.0, zip_joined R xs ys us vs h.1 k)

-- and the other way round: such a list has these two parts
pub record Zipped {A B : Type 0} (R : A → B → Type 0) (xs ys : List A) (all : List B) : Type 0 where
  pub us : List B
  pub vs : List B
  pub first : AllZip R xs us
  pub second : AllZip R ys vs
  pub whole : all ≡ us ++ vs

pub zip_parts : {A B : Type 0} (R : A → B → Type 0) (xs ys : List A) (all : List B)
    → AllZip R (xs ++ ys) all → Zipped R xs ys all
zip_parts R [] ys all h = record { us = []; vs = all; first = tt; second = h; whole = refl }
zip_parts R (x ∷ xs) ys [] h = absurd h
zip_parts R (x ∷ xs) ys (a ∷ all) h =
    let r = zip_parts R xs ys all h.1 in
    record { us = a ∷ r.us; vs = r.vs; first = (h.0, r.first); second = r.second; whole = ap (λ y. a ∷ y) r.whole }

-- of each stretch there is at most one answer
abbrev pub IsOne : {A B : Type 0} → (A → B → Type 0) → Type 0
IsOne {A} {B} R = (x : A) (u v : B) → R x u → R x v → u ≡ v

-- and there is one at most
pub zip_once : {A B : Type 0} (R : A → B → Type 0) → IsOne R
    → (xs : List A) (us vs : List B) → AllZip R xs us → AllZip R xs vs → us ≡ vs
zip_once R one [] [] [] h k = refl
zip_once R one [] [] (v ∷ vs) h k = absurd k
zip_once R one [] (u ∷ us) vs h k = absurd h
zip_once R one (x ∷ xs) [] vs h k = absurd h
zip_once R one (x ∷ xs) (u ∷ us) [] h k = absurd k
zip_once R one (x ∷ xs) (u ∷ us) (v ∷ vs) h k = ap (λ y. y ∷ us) (one x u v h.0 k.0) ∙ ap (λ y. v ∷ y) (zip_once R one xs us vs h.1 k.1)

module _ (R : List ℕ → Verdict → Type 0) (said : List ℕ → List Verdict) (s : ℕ) where
  -- what is heard goes by the stretches alone
  pub heard_as : (x y : List ℕ) (us vs : List Verdict) → ended s x ≡ ended s y
      → unfinished s x ≡ unfinished s y → us ≡ vs → Heard R said s x us → Heard R said s y vs
  heard_as x y us vs e u d h = record { done = h.done; each = subst (λ ps. AllZip R ps h.done) e h.each; whole = sym d ∙ h.whole ∙ ap (λ p. h.done ++ said p) u }

  -- the same, said otherwise
  pub heard_of : (x y : List ℕ) (us vs : List Verdict) → x ≡ y → us ≡ vs → Heard R said s x us
      → Heard R said s y vs
  heard_of x y us vs e d h = heard_as x y us vs (ap (ended s) e) (ap (unfinished s) e) d h

  -- a sentinel in front changes nothing
  pub heard_skip : (stream : List ℕ) (answers : List Verdict) → Heard R said s stream answers
      → Heard R said s (s ∷ stream) answers
  heard_skip stream answers h = heard_as stream (s ∷ stream) answers answers (sym (ended_skip s stream)) (sym (unfinished_skip s stream)) refl h

  pub heard_unskip : (stream : List ℕ) (answers : List Verdict)
      → Heard R said s (s ∷ stream) answers → Heard R said s stream answers
  heard_unskip stream answers h = heard_as (s ∷ stream) stream answers answers (ended_skip s stream) (unfinished_skip s stream) refl h

  -- a stretch that a sentinel ends, and then a stream
  pub heard_ended : (p stream : List ℕ) (a : Verdict) (answers : List Verdict) → 0 < length p
      → NoZero p → R p a
      → Heard R said s stream answers → Heard R said s (masked s p ++ (s ∷ stream)) (a ∷ answers)
  heard_ended [] stream a answers l z r h = absurd (omega arith)
  heard_ended (b ∷ p) stream a answers l z r h = record {
    done = a ∷ h.done;
    each = subst (λ ps. AllZip R ps (a ∷ h.done)) (sym (ended_at s b p stream z)) (r, h.each);
    whole = ap (λ x. a ∷ x) (h.whole ∙ ap (λ p. h.done ++ said p) (sym (unfinished_at s (b ∷ p) stream z)));
  }

  -- a stretch that none ends
  pub heard_alone : (p : List ℕ) → NoZero p → Heard R said s (masked s p) (said p)
  heard_alone p z = record { done = []; each = subst (λ ps. AllZip R ps []) (sym (ended_alone s p z)) tt; whole = ap said (sym (unfinished_alone s p z)) }

  -- no byte
  pub heard_nothing : (answers : List Verdict) → Heard R said s [] answers → answers ≡ said []
  heard_nothing answers h = none h.done h.each h.whole
    where
      none : (done : List Verdict) → AllZip R [] done → answers ≡ done ++ said []
          → answers ≡ said []
      none [] e w = w
      none (a ∷ done) e w = absurd e

  -- where each stretch has one answer at most, a stream has one list
  pub heard_once : IsOne R → (stream : List ℕ) (us vs : List Verdict) → Heard R said s stream us
      → Heard R said s stream vs → us ≡ vs
  heard_once one stream us vs h k = h.whole ∙ ap (λ x. x ++ said (unfinished s stream)) (zip_once R one (ended s stream) h.done k.done h.each k.each) ∙ sym k.whole

  -- behind a stream that ends between stretches, whatever is said of an unfinished one there
  module _ (before : List ℕ → List Verdict) (silent : before [] ≡ []) where
    pub heard_joined : (a b : List ℕ) (us vs : List Verdict) → EndsBetween s a
        → Heard R before s a us → Heard R said s b vs → Heard R said s (a ++ b) (us ++ vs)
    heard_joined a b us vs e g h =
        let u : us ≡ g.done = g.whole ∙ ap (λ p. g.done ++ before p) (none_unfinished s a e) ∙ ap (λ x. g.done ++ x) silent ∙ append-nil g.done in
        record {
          done = g.done ++ h.done;
          each = subst (λ ps. AllZip R ps (g.done ++ h.done)) (sym (ended_behind s a b e)) (zip_joined R (ended s a) (ended s b) g.done h.done g.each h.each);
          whole = ap (λ x. x ++ vs) u ∙ ap (λ x. g.done ++ x) h.whole ∙ sym (append_assoc g.done h.done (said (unfinished s b))) ∙ ap (λ p. (g.done ++ h.done) ++ said p) (sym (unfinished_behind s a b e));
        }

    -- and the other way round
    pub heard_parts : (a b : List ℕ) (answers : List Verdict) → EndsBetween s a
        → Heard R said s (a ++ b) answers
        → (us vs : List Verdict) × Heard R before s a us
        × Heard R said s b vs × (answers ≡ us ++ vs)
    heard_parts a b answers e h =
        let k = zip_parts R (ended s a) (ended s b) h.done (subst (λ ps. AllZip R ps h.done) (ended_behind s a b e) h.each) in (
          k.us,
          k.vs ++ said (unfinished s b),
          record { done = k.us; each = k.first; whole = sym (ap (λ p. k.us ++ before p) (none_unfinished s a e) ∙ ap (λ x. k.us ++ x) silent ∙ append-nil k.us) },
          record { done = k.vs; each = k.second; whole = refl },
          h.whole ∙ ap (λ x. x ++ said (unfinished s (a ++ b))) k.whole ∙ ap (λ p. (k.us ++ k.vs) ++ said p) (unfinished_behind s a b e) ∙ append_assoc k.us k.vs (said (unfinished s b)),
        )

-- what is said of the unfinished stretch at the end
abbrev pub at_end : ℕ → List ℕ → List Verdict
at_end limit stretch = begun_answers limit stretch ++ cut_answers limit stretch

-- of none nothing is said
pub empty_ending : (limit : ℕ) → at_end limit [] ≡ []
empty_ending limit = rw (le-ltb limit 0 (omega arith)) refl

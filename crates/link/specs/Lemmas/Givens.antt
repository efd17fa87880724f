-- What a push adds to the answers of a stream, and what its end adds.
use Rattle.std.proofs.Common.{◌≡◌, ℕ, List, [], ◌∷◌, ◌++◌, length, take, Option, Some, None, Result, Ok, Err, refl, sym, ap, ◌∙◌, subst, inl, inr, arith, append-nil, append_assoc, nat_lt, if◌then◌else◌, option_to_list}
use Rattle.std.specs.List.{AllZip}
use Rattle.std.proofs.lemmas.Bool.{cases_lt, lt-ltb, le-ltb}
use Rattle.std.proofs.lemmas.Slice.Zip.{all_zipped_more}
use Rattle.postcard_tree.specs.Tree.{Tree}
use Rattle.link.specs.Filled.{Filled}
use Rattle.link.specs.Link.{Verdict, cut, begun_answers, cut_answers, unfinished, begun, kept, over, Given, Answers, Matches, Answered, finished, IsBehind, HasGiven, HasAnswered, Hears, KeepsAnswer}
use Rattle.link.specs.declared.reception.Reception.{Reception}
use Rattle.link.specs.declared.receiver.Answer.{Answer}
use Rattle.link.specs.declared.receiver.Answer.TheVariants.{Cut}
use Rattle.link.specs.declared.receiver.NoMemory.{NoMemory}

module _ {V : Type 0} (holds : List ℕ → Tree → Type 0) (reads : Tree → V → Type 0) (limit s : ℕ) (front rest : List ℕ) (answers new : List (Answer V)) (used : ℕ) where
  kept_none : (vs : List Verdict) (a : Option Verdict) → a ≡ None → AllZip (Matches reads) answers vs → AllZip (Matches reads) answers (vs ++ option_to_list a)
  kept_none vs a e h = subst (λ o. AllZip (Matches reads) answers (vs ++ option_to_list o)) (sym e) (subst (λ x. AllZip (Matches reads) answers x) (sym (append-nil vs)) h)

  kept_some : (vs : List Verdict) (x : Answer V) (y : Verdict) (a : Option Verdict) → a ≡ Some y → Matches reads x y → AllZip (Matches reads) answers vs → AllZip (Matches reads) (answers ++ x ∷ []) (vs ++ option_to_list a)
  kept_some vs x y a e m h = subst (λ o. AllZip (Matches reads) (answers ++ x ∷ []) (vs ++ option_to_list o)) (sym e) (all_zipped_more (Matches reads) answers vs x y h m)

  -- what is given of the stream and the bytes that a push used
  pub kept_given : (answer : Result (Option (Answer V)) NoMemory)
      → HasGiven holds reads limit s answers front
      → Answered holds reads limit s front rest used answer → KeepsAnswer answer answers new
      → HasGiven holds reads limit s new (front ++ take used rest)
  kept_given (Ok None) g (a, says, push) k = record {
    verdicts = g.verdicts ++ option_to_list a;
    given = push.gives g.verdicts g.given;
    matching = subst (λ x. AllZip (Matches reads) x (g.verdicts ++ option_to_list a)) (sym k) (kept_none g.verdicts a says g.matching);
  }
  kept_given (Ok (Some x)) g (a, says, push) k = record {
    verdicts = g.verdicts ++ option_to_list a;
    given = push.gives g.verdicts g.given;
    matching = subst (λ z. AllZip (Matches reads) z (g.verdicts ++ option_to_list a)) (sym k) (kept_some g.verdicts x says.0 a says.2 says.1 g.matching);
  }
  kept_given (Err e) g h k = absurd k

  -- a receiver that a push has led on hears what the push answers
  pub heard_behind : {D : Type 0} (inside : D → Filled) (old later : Reception D)
      (answer : Result (Option (Answer V)) NoMemory)
      → Hears inside holds reads limit s old answers front
      → IsBehind inside limit s later (front ++ take used rest)
      → Answered holds reads limit s front rest used answer → KeepsAnswer answer answers new
      → Hears inside holds reads limit s later new (front ++ take used rest)
  heard_behind inside old later answer h behind answered k =
      record { after = behind; given = kept_given answer h.given answered k }

-- of nothing nothing is begun, and nothing given
pub none_begun : (limit s : ℕ) → begun limit s [] ≡ kept []
none_begun limit s = rw (le-ltb limit 0 (omega arith)) refl

pub none_given : {V : Type 0} (holds : List ℕ → Tree → Type 0) (reads : Tree → V → Type 0)
    (limit s : ℕ) → HasGiven {V = V} holds reads limit s [] []
none_given holds reads limit s = record {
  verdicts = [];
  given = record { done = []; each = tt; whole = rw (le-ltb limit 0 (omega arith)) refl };
  matching = tt;
}

module _ (holds : List ℕ → Tree → Type 0) (limit s : ℕ) (stream : List ℕ) where
  -- the answers so far are all with those that the end adds
  all_of : (vs more : List Verdict) → Given holds limit s stream vs → more ≡ cut_answers limit (unfinished s stream) → Answers holds limit s stream (vs ++ more)
  all_of vs more g e = record {
    done = g.done;
    each = g.each;
    whole = ap (λ x. x ++ more) g.whole ∙ append_assoc g.done (begun_answers limit (unfinished s stream)) more
        ∙ ap (λ x. g.done ++ (begun_answers limit (unfinished s stream) ++ x)) e;
  }

  module _ {V : Type 0} (reads : Tree → V → Type 0) (answers new : List (Answer V)) (g : HasGiven holds reads limit s answers stream) where
    none_more : new ≡ answers → [] ≡ cut_answers limit (unfinished s stream) → HasAnswered holds reads limit s new stream
    none_more k e = record { verdicts = g.verdicts ++ []; all = all_of g.verdicts [] g.given e; matching = subst (λ x. AllZip (Matches reads) x (g.verdicts ++ [])) (sym k) (subst (λ x. AllZip (Matches reads) answers x) (sym (append-nil g.verdicts)) g.matching) }

    -- by the unfinished stretch
    ended_at : (u : List ℕ) → u ≡ unfinished s stream → KeepsAnswer (Ok (finished (if nat_lt limit (length u) then over else kept u))) answers new → HasAnswered holds reads limit s new stream
    ended_at [] e k = none_more (rw (le-ltb limit 0 (omega arith)) at k) (ap (cut_answers limit) e)
    ended_at (b ∷ p) e k = elim (cases_lt limit (length (b ∷ p))) [
      | inl l ↦ (
          let long = lt-ltb limit (length (b ∷ p)) l in
          let none : [] ≡ cut_answers limit (b ∷ p) = rw long refl in
          none_more (rw long at k) (none ∙ ap (cut_answers limit) e))
      | inr l ↦ (
          let short = le-ltb limit (length (b ∷ p)) l in
          let more : new ≡ answers ++ Cut ∷ [] = rw short at k in
          let one : cut ∷ [] ≡ cut_answers limit (b ∷ p) = rw short refl in
          record { verdicts = g.verdicts ++ cut ∷ []; all = all_of g.verdicts (cut ∷ []) g.given (one ∙ ap (cut_answers limit) e); matching = subst (λ x. AllZip (Matches reads) x (g.verdicts ++ cut ∷ [])) (sym more) (all_zipped_more (Matches reads) answers g.verdicts Cut cut g.matching refl) })
    ]

    -- what the end of a stream adds
    pub ended_by : KeepsAnswer (Ok (finished (begun limit s stream))) answers new
        → HasAnswered holds reads limit s new stream
    ended_by = ended_at (unfinished s stream) refl

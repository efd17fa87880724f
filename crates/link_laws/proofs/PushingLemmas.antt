-- PushesPieces over pieces give what the whole stream gives.
use Rattle.std.proofs.Common.{◌≡◌, ℕ, List, [], ◌++◌, take, drop, refl, sym, ap, ◌∙◌, append_assoc, option_to_list}
use Rattle.std.proofs.lemmas.List.{append-nil, take-append-drop}
use Rattle.postcard_tree.specs.Tree.{Tree}
use Rattle.link.specs.Stream.{Verdict, unfinished, IsAnswer, begun_answers, cut_answers, Given}
use Rattle.link.specs.Roads.{joined}
use Rattle.link_laws.specs.Pieced.{PushesPieces, done, used_up, pushed, AreOfTheWhole}
use Rattle.link.specs.Lemmas.HeardLaws.{heard_of, heard_alone}
use Rattle.link_laws.specs.Limits.{IsSetAnew}
use Rattle.link_laws.proofs.ProvedLemmas.{none_begun, appends}

module _ (holds : List ℕ → Tree → Type 0) (limit s : ℕ) where
  moved : (x y : List ℕ) (us vs : List Verdict) → x ≡ y → us ≡ vs → Given holds limit s x us → Given holds limit s y vs
  moved x y us vs e d h = heard_of (IsAnswer holds limit) (begun_answers limit) s x y us vs e d h

  pushes_give : {stream : List ℕ} {pieces : List (List ℕ)} {answers : List Verdict} (given : List Verdict) → PushesPieces holds limit s stream pieces answers
      → Given holds limit s stream given → Given holds limit s (stream ++ joined pieces) (given ++ answers)
  pushes_give given (done {stream = stream}) h = moved stream (stream ++ []) given (given ++ []) (sym (append-nil stream)) (sym (append-nil given)) h
  pushes_give given (used_up k) h = pushes_give given k h
  pushes_give given (pushed {stream = stream} {piece = piece} {pieces = pieces} {answers = answers} used answer p k) h =
      moved ((stream ++ take used piece) ++ (drop used piece ++ joined pieces)) (stream ++ (piece ++ joined pieces)) ((given ++ option_to_list answer) ++ answers) (given ++ (option_to_list answer ++ answers))
      (append_assoc stream (take used piece) (drop used piece ++ joined pieces)
      ∙ ap (λ y. stream ++ y) (sym (append_assoc (take used piece) (drop used piece) (joined pieces)) ∙ ap (λ y. y ++ joined pieces) (take-append-drop used piece)))
      (append_assoc given (option_to_list answer) answers)
      (pushes_give (given ++ option_to_list answer) k (p.gives given h))

  pub of_the_whole : AreOfTheWhole holds limit s
  of_the_whole = record {
    given = λ pieces answers k. pushes_give [] k (moved [] [] (begun_answers limit []) [] refl (none_begun limit) (heard_alone (IsAnswer holds limit) (begun_answers limit) s [] tt));
    finished = λ stream answers h. record {
      done = h.done;
      each = h.each;
      whole = ap (λ x. x ++ cut_answers limit (unfinished s stream)) h.whole ∙ append_assoc h.done (begun_answers limit (unfinished s stream)) (cut_answers limit (unfinished s stream));
    };
  }

-- A limit that is set anew between stretches.
module _ (holds : List ℕ → Tree → Type 0) (s : ℕ) where
  pub set_anew : IsSetAnew holds s
  set_anew = record {
    pushed = λ limit next before behind us vs e p q. record {
      between = e;
      front = us;
      back = vs ++ cut_answers next (unfinished s (joined behind));
      given = (of_the_whole holds limit s).given before us p;
      answered = (of_the_whole holds next s).finished (joined behind) vs ((of_the_whole holds next s).given behind vs q);
      whole = refl;
    };
    same = λ limit first rest answers e. (
      λ h. (appends holds limit s first rest answers e).1 (h.front, h.back, h.given, h.answered, h.whole),
      λ h. (let k = (appends holds limit s first rest answers e).0 h in record { between = e; front = k.0; back = k.1; given = k.2; answered = k.3; whole = k.4 }),
    );
  }

-- What is heard of a front of a line is alike what was sent.
use Rattle.std.proofs.Common.{◌≡◌, ℕ, List, [], ◌∷◌, ◌++◌, length, map, take, Option, Some, refl, sym, ap, ◌∙◌, subst, inl, inr, append_assoc}
use Rattle.std.specs.List.{AllZip, AllByRecursion}
use Rattle.std.proofs.Math.Seq.{take-append_seam}
use Rattle.postcard_tree.specs.Tree.{Tree}
use Rattle.link.specs.Stream.{Verdict, unfinished, cut_answers, Answers}
use Rattle.link.specs.Run.{Send, completed, refused, broken, line, told, IsRun}
use Rattle.link.specs.Roads.{values_of}
use Rattle.link.specs.Pushes.{Matches}
use Rattle.link.specs.Listening.{IsReceived, HasGiven, Loss, through, answers_before, bytes_through}
use Rattle.link.specs.Lemmas.ValueLaws.{values_joined}
use Rattle.link.specs.Laws.{IsTold, HasOneAnswer, StartsAnywhere}
use Rattle.link_laws.specs.Answered.{Sends}
use Rattle.link_laws.specs.Crashes.{tried_in, tried, left, IsHeardBetween, IsLeft}
use Rattle.link_laws.specs.Pieced.{AreOfTheWhole}
use Rattle.link_laws.specs.Values.{sends_of, runs_of, AreSends, values_sent}
use Rattle.link.specs.declared.receiver.Answer.{Answer}
use Rattle.link.specs.declared.receiver.Answer.TheVariants.{Value, Damaged, TooLong, Cut}
use Rattle.line_io.specs.declared.transfers.End.{End}
use Rattle.line_io.specs.declared.transfers.End.TheVariants.{Ended, ReadFault, NoMemory}
use Rattle.calls.specs.Calls.{In}
use Rattle.calls.specs.Serving.{requests_of}
use Rattle.calls.specs.ServedLaws.{in_some, in_joined as in_parts, in_first, in_before as in_second, requests_then}
use Rattle.calls_laws.specs.Heard.{WasHeard}

in_front : (t : Tree) (us vs : List Verdict) → In t (values_of us) → In t (values_of (us ++ vs))
in_front t us vs i = subst (In t) (sym (values_joined us vs)) (in_first t (values_of us) (values_of vs) i)

module _ {V : Type 0} (reads : Tree → V → Type 0) where
  -- a value among answers was read from a tree among the verdicts
  read_of : (answers : List (Answer V)) (us : List Verdict) → AllZip (Matches reads) answers us → (w : V) → In w (requests_of answers) → (t : Tree) × In t (values_of us) × reads t w
  read_of [] us h w i = absurd i
  read_of (a ∷ answers) [] h w i = absurd h
  read_of (Value v ∷ answers) (u ∷ us) h w (inl e) =
      (h.0.0, subst (λ x. In h.0.0 (values_of (x ∷ us))) (sym h.0.2) (inl refl), subst (reads h.0.0) (sym e) h.0.1)
  read_of (Value v ∷ answers) (u ∷ us) h w (inr i) =
      let r = read_of answers us h.1 w i in (r.0, subst (λ x. In r.0 (values_of (x ∷ us))) (sym h.0.2) (inr r.1), r.2)
  read_of (Damaged ∷ answers) (u ∷ us) h w i =
      let r = read_of answers us h.1 w i in (r.0, subst (λ x. In r.0 (values_of (x ∷ us))) (sym h.0) r.1, r.2)
  read_of (TooLong ∷ answers) (u ∷ us) h w i =
      let r = read_of answers us h.1 w i in (r.0, subst (λ x. In r.0 (values_of (x ∷ us))) (sym h.0) r.1, r.2)
  read_of (Cut ∷ answers) (u ∷ us) h w i =
      let r = read_of answers us h.1 w i in (r.0, subst (λ x. In r.0 (values_of (x ∷ us))) (sym h.0) r.1, r.2)

module _ {V : Type 0} (writes : V → Option Tree) (valid : V → Type 0) where
  -- a tree of a send that was tried is what a value that was sent writes
  session_writes : (calls : List (V × Send)) → AllByRecursion (λ c. Sends writes valid c.0 c.1) calls → (t : Tree) → In t (tried_in (sends_of calls)) → (v : V) × In v (map (λ c. c.0) calls) × valid v × (writes v ≡ Some t)
  session_writes [] h t i = absurd i
  session_writes ((v, completed u) ∷ calls) h t (inl e) = (v, inl refl, h.0.0, h.0.1 ∙ ap Some (sym e))
  session_writes ((v, completed u) ∷ calls) h t (inr i) = let r = session_writes calls h.1 t i in (r.0, inr r.1, r.2, r.3)
  session_writes ((v, refused) ∷ calls) h t i = let r = session_writes calls h.1 t i in (r.0, inr r.1, r.2, r.3)
  session_writes ((v, broken u k) ∷ calls) h t (inl e) = (v, inl refl, h.0.0, h.0.1 ∙ ap Some (sym e))
  session_writes ((v, broken u k) ∷ calls) h t (inr i) = let r = session_writes calls h.1 t i in (r.0, inr r.1, r.2, r.3)

  pub run_writes : (run : List (List (V × Send))) → AreSends writes valid run → (t : Tree) → In t (tried (runs_of run)) → (v : V) × In v (values_sent run) × valid v × (writes v ≡ Some t)
  run_writes [] h t i = absurd i
  run_writes (calls ∷ run) h t i = elim (in_parts t (tried_in (sends_of calls)) (tried (runs_of run)) i) [
    | inl k ↦ let r = session_writes calls h.0 t k in (r.0, in_first r.0 (map (λ c. c.0) calls) (values_sent run) r.1, r.2, r.3)
    | inr k ↦ let r = run_writes run h.1 t k in (r.0, in_second r.0 (map (λ c. c.0) calls) (values_sent run) r.1, r.2, r.3)
  ]

module _ (takes : Tree → Type 0) (holds : List ℕ → Tree → Type 0) (limit s : ℕ) (told_is : IsTold takes holds limit s) (between : IsHeardBetween takes holds limit s) (left_is : IsLeft takes limit s) (whole : AreOfTheWhole holds limit s) (one : HasOneAnswer holds limit s) (anywhere : StartsAnywhere holds limit s) where
  -- a front of a run's line is the line of what is left of the run
  front_is : (run : List (List Send)) (front rest : List ℕ) → IsRun takes limit s run → line s run ≡ front ++ rest → front ≡ line s (left s (length front) run)
  front_is run front rest is parts = sym (take-append_seam front rest) ∙ sym (ap (take (length front)) parts) ∙ (left_is run (length front) is).bytes

  -- a tree that is heard of it was tried
  was_tried : (run : List (List Send)) (front rest : List ℕ) (us : List Verdict) → IsRun takes limit s run → line s run ≡ front ++ rest → Answers holds limit s front us → (t : Tree) → In t (values_of us) → In t (tried run)
  was_tried run front rest us is parts h t i =
      let k = left_is run (length front) is in
      let b = between (left s (length front) run) us k.is_run (subst (λ x. Answers holds limit s x us) (front_is run front rest is parts) h) in
      in_some t (tried (left s (length front) run)) (tried run) k.tried_before (in_some t (values_of us) (tried (left s (length front) run)) b.none_invented i)

  -- the answers to such a front
  told_front : (run : List (List Send)) (front rest : List ℕ) → IsRun takes limit s run → line s run ≡ front ++ rest → Answers holds limit s front (told s (left s (length front) run))
  told_front run front rest is parts =
      let run' = left s (length front) run in
      subst (λ x. Answers holds limit s x (told s run')) (sym (front_is run front rest is parts)) ((told_is run' (told s run') (left_is run (length front) is).is_run).1 refl)

  module _ {V : Type 0} (reads : Tree → V → Type 0) where
    -- what comes behind a value that had no memory
    behind : (l : Loss holds reads limit s) (more : List ℕ) → through l ++ more ≡ (l.front ++ l.lost.front) ++ (s ∷ more)
    behind l more =
        ap (λ x. x ++ more) (ap (λ x. l.front ++ x) l.lost.bytes ∙ sym (append_assoc l.front l.lost.front (s ∷ []))) ∙ append_assoc (l.front ++ l.lost.front) (s ∷ []) more

    -- a value that was heard by who went on was read from a tree among the answers to the whole
    heard_among : (all : List Verdict) (losses : List (Loss holds reads limit s)) (later : List (Answer V)) (rest : List ℕ) → Answers holds limit s (bytes_through losses ++ rest) all
        → HasGiven holds reads limit s later rest → (w : V) → In w (requests_of (answers_before losses ++ later)) → (t : Tree) × In t (values_of all) × reads t w
    heard_among all [] later rest a g w i =
        let r = read_of reads later g.verdicts g.matching w i in
        let cuts = cut_answers limit (unfinished s rest) in
        (r.0, subst (λ us. In r.0 (values_of us)) (one.whole rest (g.verdicts ++ cuts) all (whole.finished rest g.verdicts g.given) a) (in_front r.0 g.verdicts cuts r.1), r.2)
    heard_among all (l ∷ losses) later rest a g w i =
        let more = bytes_through losses ++ rest in
        let whole_of = subst (λ x. Answers holds limit s x all) (append_assoc (through l) (bytes_through losses) rest) a in
        let z = anywhere (l.front ++ l.lost.front) more all (subst (λ x. Answers holds limit s x all) (behind l more) whole_of) in
        elim (in_parts w (requests_of l.answers) (requests_of (answers_before losses ++ later)) (subst (In w) (ap requests_of (append_assoc l.answers (answers_before losses) later) ∙ requests_then l.answers (answers_before losses ++ later)) i)) [
          | inl k ↦ (
              let r = read_of reads l.answers l.given.verdicts l.given.matching w k in
              let b = l.begins more all whole_of in
              (r.0, subst (λ us. In r.0 (values_of us)) (sym b.2) (in_front r.0 l.given.verdicts (b.0 ∷ b.1) r.1), r.2))
          | inr k ↦ (
              let r = heard_among z.1 losses later rest z.2 g w k in
              (r.0, subst (λ us. In r.0 (values_of us)) (sym z.3) (subst (In r.0) (sym (values_joined z.0 z.1)) (in_second r.0 (values_of z.0) (values_of z.1) r.1)), r.2))
        ]

    -- a value that was heard, however the reading ended, was read from a tree that was tried
    received_tried : (run : List (List Send)) (front rest : List ℕ) (end : End) (answers : List (Answer V)) → IsRun takes limit s run → line s run ≡ front ++ rest
        → IsReceived holds reads limit s end answers front → (w : V) → In w (requests_of answers) → (t : Tree) × In t (tried run) × reads t w
    received_tried run front rest Ended answers is parts h w i =
        let r = read_of reads answers h.verdicts h.matching w i in
        (r.0, was_tried run front rest h.verdicts is parts h.all r.0 r.1, r.2)
    received_tried run front rest ReadFault answers is parts h w i =
        let r = read_of reads answers h.verdicts h.matching w i in
        let cuts = cut_answers limit (unfinished s front) in
        (r.0, was_tried run front rest (h.verdicts ++ cuts) is parts (whole.finished front h.verdicts h.given) r.0 (in_front r.0 h.verdicts cuts r.1), r.2)
    received_tried run front rest NoMemory answers is parts h w i =
        let r = read_of reads answers h.verdicts h.matching w i in
        let us = told s (left s (length front) run) in
        let all = told_front run front rest is parts in
        let b = h.begins us all in
        (r.0, was_tried run front rest us is parts all r.0 (subst (λ vs. In r.0 (values_of vs)) (sym b.2) (in_front r.0 h.verdicts (b.0 ∷ b.1) r.1)), r.2)

    pub heard_tried : (run : List (List Send)) (front rest : List ℕ) (answers : List (Answer V)) → IsRun takes limit s run → line s run ≡ front ++ rest
        → WasHeard holds reads limit s answers front → (w : V) → In w (requests_of answers) → (t : Tree) × In t (tried run) × reads t w
    heard_tried run front rest answers is parts (inl (end, h)) w i = received_tried run front rest end answers is parts h w i
    heard_tried run front rest answers is parts (inr h) w i =
        let us = told s (left s (length front) run) in
        let all = told_front run front rest is parts in
        let r = heard_among us h.losses h.later h.rest (subst (λ x. Answers holds limit s x us) h.parts all) h.given w (subst (λ xs. In w (requests_of xs)) h.said i) in
        (r.0, was_tried run front rest us is parts all r.0 r.1, r.2)

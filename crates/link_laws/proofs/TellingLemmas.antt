-- What is heard of a run's line is what is to be told.
use Rattle.std.proofs.Common.{◌≡◌, ℕ, zero, suc, ◌<◌, ◌≤◌, Bool, true, false, cond, ltb, List, [], ◌∷◌, ◌++◌, length, take, drop, refl, sym, ap, ◌∙◌, subst, inl, inr, ◌⊎◌, arith, append_assoc}
use Rattle.std.specs.Prelude.{bit_xor}
use Rattle.std.proofs.lemmas.Bool.{le-ltb, ltb-true, ltb-false}
use Rattle.std.proofs.lemmas.List.{take_all, take-append-drop, length-take, take-append-le, length-append, length-drop, append-nil, length-map, take-map}
use Rattle.postcard_tree.specs.Tree.{Tree}
use Rattle.postcard_tree.specs.Spelling.{short}
use Rattle.postcard.specs.Frames.{Holds}
use Rattle.cobs.specs.Frames.{NoZero, shortest_frame}
use Rattle.cobs.specs.Sentinel.{masked, frame_for}
use Rattle.link.specs.Stream.{Verdict, cut, damaged, value, IsAnswer, Answers}
use Rattle.link.specs.Run.{Send, completed, refused, broken, sent, session_line, line, IsFramed, IsSession, IsRun, told_broken, told_session, told}
use Rattle.link.specs.Lemmas.Facts.{Facts, Breaking, has_no_zero, has_bytes, front_holds_nothing}
use Rattle.link.specs.Lemmas.HeardLaws.{heard_skip, heard_ended, heard_alone, heard_unskip, heard_nothing, heard_of, at_end, empty_ending}

NoZero-take : (n : ℕ) (p : List ℕ) → NoZero p → NoZero (take n p)
NoZero-take zero p z = tt
NoZero-take (suc n) [] z = tt
NoZero-take (suc n) (b ∷ p) z = (z.0, NoZero-take n p z.1)

short_ending : (limit : ℕ) (p : List ℕ) → 0 < length p → length p ≤ limit → at_end limit p ≡ cut ∷ []
short_ending limit [] l m = absurd (omega arith)
short_ending limit (b ∷ p) l m = rw (le-ltb limit (length (b ∷ p)) m) refl

-- a stream that goes on goes on by a sentinel
abbrev Follows : ℕ → List ℕ → Type 0
Follows s later = (later ≡ []) ⊎ ((more : List ℕ) × (later ≡ s ∷ more))

-- What a stretch holds in some way, of the frames that sending makes: the tree, and then in the ordinary way too.
pub record Holding (takes : Tree → Type 0) (holds : List ℕ → Tree → Type 0) : Type 0 where
  pub whole : (t : Tree) → takes t → holds (shortest_frame (short t)) t
  pub ordinary : (p : List ℕ) (t : Tree) → holds p t → Holds takes p t

module _ (takes : Tree → Type 0) (facts : Facts takes) (breaking : Breaking takes) (holds : List ℕ → Tree → Type 0) (holding : Holding takes holds) (limit s : ℕ) where
  front_is_damaged : (t : Tree) (k : ℕ) → IsFramed takes limit t → k < length (shortest_frame (short t)) → IsAnswer holds limit (take k (shortest_frame (short t))) damaged
  front_is_damaged t k d m =
      let f = shortest_frame (short t) in
      let within : length f ≤ limit = d.within in (
        omega (arith, length-take k f),
        (λ u h. front_holds_nothing takes facts breaking t (take k f) (drop k f) d.taken (sym (take-append-drop k f)) (λ e. omega (arith, length-drop k f, ap length e)) u (holding.ordinary (take k f) u h)),
      )

  frame_is_value : (t : Tree) → IsFramed takes limit t → IsAnswer holds limit (shortest_frame (short t)) (value t)
  frame_is_value t d = (d.within, holding.whole t d.taken)

  -- a front of a frame that a sentinel ends
  ended_front : (t : Tree) (k : ℕ) (stream : List ℕ) (answers : List Verdict) → IsFramed takes limit t → 0 < k → k ≤ length (shortest_frame (short t))
      → Answers holds limit s stream answers → (b : Bool) → ltb k (length (shortest_frame (short t))) ≡ b
      → Answers holds limit s (masked s (take k (shortest_frame (short t))) ++ (s ∷ stream)) (cond b (damaged ∷ []) (value t ∷ []) ++ answers)
  ended_front t k stream answers d l m h true e =
      let f = shortest_frame (short t) in
      heard_ended (IsAnswer holds limit) (at_end limit) s (take k f) stream damaged answers (omega (arith, length-take k f))
      (NoZero-take k f (has_no_zero takes facts breaking t)) (front_is_damaged t k d (ltb-true k (length f) e)) h
  ended_front t k stream answers d l m h false e =
      let f = shortest_frame (short t) in
      let whole : take k f ≡ f = take_all k f (ltb-false k (length f) e) in
      heard_ended (IsAnswer holds limit) (at_end limit) s (take k f) stream (value t) answers (omega (arith, length-take k f))
      (NoZero-take k f (has_no_zero takes facts breaking t)) (subst (λ p. IsAnswer holds limit p (value t)) (sym whole) (frame_is_value t d)) h

  -- a front of a frame that is broken off, and what comes later
  broken_off : (t : Tree) (k : ℕ) (later : List ℕ) (answers : List Verdict) → IsFramed takes limit t → k ≤ length (shortest_frame (short t))
      → Follows s later → Answers holds limit s later answers
      → Answers holds limit s (masked s (take k (shortest_frame (short t))) ++ later) (told_broken t k later ++ answers)
  broken_off t zero later answers d l fo h = h
  broken_off t (suc out) [] answers d l fo h =
      let f = shortest_frame (short t) in
      let none : answers ≡ [] = heard_nothing (IsAnswer holds limit) (at_end limit) s answers h ∙ empty_ending limit in
      let front = take (suc out) f in
      let shown = heard_alone (IsAnswer holds limit) (at_end limit) s front (NoZero-take (suc out) f (has_no_zero takes facts breaking t)) in
      let within : length f ≤ limit = d.within in
      let last : at_end limit front ≡ cut ∷ [] = short_ending limit front (omega (arith, length-take (suc out) f)) (omega (arith, length-take (suc out) f)) in
      heard_of (IsAnswer holds limit) (at_end limit) s _ _ _ _ (sym (append-nil (masked s front))) (last ∙ ap (λ x. cut ∷ x) (sym none)) shown
  broken_off t (suc out) (b ∷ later) answers d l (inl e) h = absurd (cc)
  broken_off t (suc out) (b ∷ later) answers d l (inr (more, e)) h =
      let f = shortest_frame (short t) in
      let rest : Answers holds limit s more answers = heard_unskip (IsAnswer holds limit) (at_end limit) s more answers (heard_of (IsAnswer holds limit) (at_end limit) s _ _ _ _ e refl h) in
      heard_of (IsAnswer holds limit) (at_end limit) s _ _ _ _ (ap (λ x. masked s (take (suc out) f) ++ x) (sym e)) refl
      (ended_front t (suc out) more answers d (omega arith) l rest (ltb (suc out) (length f)) refl)

  follows_session : (xs : List Send) (later : List ℕ) → Follows s later → Follows s (session_line s false xs ++ later)
  follows_session [] later fo = fo
  follows_session (completed t ∷ xs) later fo = inr (_, refl)
  follows_session (refused ∷ xs) later fo = follows_session xs later fo
  follows_session (broken t zero ∷ xs) later fo = follows_session xs later fo
  follows_session (broken t (suc k) ∷ xs) later fo = inr (_, refl)

  regroup : (m x y : List ℕ) → m ++ (s ∷ (x ++ y)) ≡ ((m ++ (s ∷ [])) ++ x) ++ y
  regroup m x y = sym (append_assoc (m ++ (s ∷ [])) x y ∙ append_assoc m (s ∷ []) (x ++ y))

  completed_first : (t : Tree) (clean : Bool) (xs : List Send) (later : List ℕ) (answers : List Verdict) → IsFramed takes limit t
      → Answers holds limit s (session_line s clean xs ++ later) answers
      → Answers holds limit s ((sent s true t ++ session_line s clean xs) ++ later) (value t ∷ answers)
  completed_first t clean xs later answers d h =
      heard_of (IsAnswer holds limit) (at_end limit) s _ _ _ _ (regroup (frame_for s (short t)) (session_line s clean xs) later) refl
      (heard_ended (IsAnswer holds limit) (at_end limit) s (shortest_frame (short t)) _ (value t) answers (has_bytes takes facts t) (has_no_zero takes facts breaking t) (frame_is_value t d) h)

  broken_first : (t : Tree) (k : ℕ) (xs : List Send) (later : List ℕ) (answers : List Verdict) → IsFramed takes limit t → k < length (sent s true t)
      → Follows s later
      → Answers holds limit s (session_line s false xs ++ later) answers
      → Answers holds limit s ((take k (sent s true t) ++ session_line s false xs) ++ later) (told_broken t k (session_line s false xs ++ later) ++ answers)
  broken_first t k xs later answers d l fo h =
      let f = shortest_frame (short t) in
      let m : k ≤ length f = omega (arith, length-append (masked s f) (s ∷ []), length-map f (bit_xor s)) in
      let lm : k ≤ length (masked s f) = omega (arith, length-map f (bit_xor s)) in
      let front : take k (sent s true t) ≡ masked s (take k f) = take-append-le k (masked s f) (s ∷ []) lm ∙ take-map (bit_xor s) k f in
      heard_of (IsAnswer holds limit) (at_end limit) s _ _ _ _ (sym (append_assoc (take k (sent s true t)) (session_line s false xs) later ∙ ap (λ x. x ++ (session_line s false xs ++ later)) front)) refl
      (broken_off t k (session_line s false xs ++ later) answers d m (follows_session xs later fo) h)

  moved : (t : Tree) (k : ℕ) (xs : List Send) (later : List ℕ) (session answers : List Verdict) → IsFramed takes limit t → k < length (sent s true t)
      → Follows s later
      → Answers holds limit s (session_line s false xs ++ later) (session ++ answers)
      → Answers holds limit s ((take k (sent s true t) ++ session_line s false xs) ++ later) ((told_broken t k (session_line s false xs ++ later) ++ session) ++ answers)
  moved t k xs later session answers d l fo h =
      heard_of (IsAnswer holds limit) (at_end limit) s _ _ _ _ refl (sym (append_assoc (told_broken t k (session_line s false xs ++ later)) session answers)) (broken_first t k xs later (session ++ answers) d l fo h)

  told_of_session : (xs : List Send) (clean : Bool) (later : List ℕ) (answers : List Verdict) → IsSession takes limit s clean xs
      → Follows s later → Answers holds limit s later answers
      → Answers holds limit s (session_line s clean xs ++ later) (told_session s clean later xs ++ answers)
  told_of_session [] clean later answers d fo h = h
  told_of_session (completed t ∷ xs) true later answers d fo h = completed_first t true xs later _ d.0 (told_of_session xs true later answers d.1 fo h)
  told_of_session (completed t ∷ xs) false later answers d fo h =
      heard_skip (IsAnswer holds limit) (at_end limit) s _ _ (completed_first t true xs later _ d.0 (told_of_session xs true later answers d.1 fo h))
  told_of_session (refused ∷ xs) clean later answers d fo h = told_of_session xs clean later answers d.1 fo h
  told_of_session (broken t k ∷ xs) true later answers d fo h = moved t k xs later _ answers d.0.0 d.0.1 fo (told_of_session xs false later answers d.1 fo h)
  told_of_session (broken t zero ∷ xs) false later answers d fo h = told_of_session xs false later answers d.1 fo h
  told_of_session (broken t (suc k) ∷ xs) false later answers d fo h =
      heard_skip (IsAnswer holds limit) (at_end limit) s _ _ (moved t k xs later _ answers d.0.0 (omega (arith, d.0.1)) fo (told_of_session xs false later answers d.1 fo h))

  follows_run : (run : List (List Send)) → Follows s (line s run)
  follows_run [] = inl refl
  follows_run (session ∷ run) = follows_session session (line s run) (follows_run run)

  -- the answers to a run's line are what is told of the run
  pub told_of_run : (run : List (List Send)) → IsRun takes limit s run → Answers holds limit s (line s run) (told s run)
  told_of_run [] d = heard_of (IsAnswer holds limit) (at_end limit) s [] [] _ _ refl (empty_ending limit) (heard_alone (IsAnswer holds limit) (at_end limit) s [] tt)
  told_of_run (session ∷ run) d = told_of_session session false (line s run) (told s run) d.0 (follows_run run) (told_of_run run d.1)

-- What a crash leaves, and what is told of it.
use Rattle.std.proofs.Common.{◌≡◌, ℕ, zero, suc, ◌-◌, ◌<◌, ◌≤◌, Bool, true, false, cond, ltb, List, [], ◌∷◌, ◌++◌, length, take, refl, sym, ap, ◌∙◌, subst, inl, inr, arith}
use Rattle.std.proofs.lemmas.Bool.{le-ltb, lt-ltb, cases_lt}
use Rattle.std.proofs.lemmas.List.{length-take, take-append-le, append-nil}
use Rattle.postcard_tree.specs.Tree.{Tree}
use Rattle.link.specs.Stream.{damaged, value}
use Rattle.link.specs.Run.{Among, Send, completed, refused, broken, written, sent, clean_after, session_line, line, IsSend, IsSession, IsRun, told_broken, told_session, told, frame_bytes}
use Rattle.link.specs.Roads.{values_of}
use Rattle.link.specs.Lemmas.ValueLaws.{values_joined}
use Rattle.link_laws.specs.Crashes.{done_in, done, tried_in, tried, among_behind, among_joined, LiesBetween, broken_at, left_of, left}

-- what is told of a send that was broken off
broken_told : (t : Tree) (k : ℕ) (later : List ℕ) → Among (values_of (told_broken t k later)) (t ∷ [])
broken_told t zero later = tt
broken_told t (suc k) [] = tt
broken_told t (suc k) (b ∷ later) = go (ltb (suc k) _)
  where
    go : (c : Bool) → Among (values_of (cond c (damaged ∷ []) (value t ∷ []))) (t ∷ [])
    go true = tt
    go false = inl (refl, tt)

-- one session: what is told lies between what completed and what was tried
between_session : (s : ℕ) (clean : Bool) (later : List ℕ) (xs : List Send)
    → Among (done_in xs) (values_of (told_session s clean later xs)) × Among (values_of (told_session s clean later xs)) (tried_in xs)
between_session s clean later [] = (tt, tt)
between_session s clean later (completed t ∷ xs) = let h = between_session s true later xs in (inl (refl, h.0), inl (refl, h.1))
between_session s clean later (refused ∷ xs) = between_session s clean later xs
between_session s clean later (broken t k ∷ xs) =
    let h = between_session s false later xs in
    let told_first = told_broken t (frame_bytes clean k) (session_line s false xs ++ later) in
    let e = values_joined told_first (told_session s false later xs) in (
      subst (λ r. Among (done_in xs) r) (sym e) (among_behind (done_in xs) (values_of told_first) (values_of (told_session s false later xs)) h.0),
      subst (λ r. Among r (t ∷ tried_in xs)) (sym e) (among_joined (values_of told_first) (t ∷ []) (values_of (told_session s false later xs)) (tried_in xs) (broken_told t (frame_bytes clean k) (session_line s false xs ++ later)) h.1),
    )

-- a run
between : (s : ℕ) (run : List (List Send)) → Among (done run) (values_of (told s run)) × Among (values_of (told s run)) (tried run)
between s [] = (tt, tt)
between s (xs ∷ run) =
    let h = between_session s false (line s run) xs in
    let k = between s run in
    let first = told_session s false (line s run) xs in
    let e = values_joined first (told s run) in (
      subst (λ r. Among (done_in xs ++ done run) r) (sym e) (among_joined (done_in xs) (values_of first) (done run) (values_of (told s run)) h.0 k.0),
      subst (λ r. Among r (tried_in xs ++ tried run)) (sym e) (among_joined (values_of first) (tried_in xs) (values_of (told s run)) (tried run) h.1 k.1),
    )

-- the front of two lists
take_past : (k : ℕ) (x y : List ℕ) → length x ≤ k → take k (x ++ y) ≡ x ++ take (k - length x) y
take_past k [] y l = ap (λ n. take n y) (let e : k ≡ k - 0 = omega arith in e)
take_past zero (b ∷ x) y l = absurd (omega (arith, l))
take_past (suc k) (b ∷ x) y l =
    ap (λ z. b ∷ z) (take_past k x y (omega (arith, l))) ∙ ap (λ n. b ∷ (x ++ take n y)) (let e : k - length x ≡ suc k - length (b ∷ x) = omega arith in e)

-- a send that is broken off earlier
written_at : (s : ℕ) (clean : Bool) (k : ℕ) (x : Send) → k < length (written s clean x) → written s clean (broken_at k x) ≡ take k (written s clean x)
written_at s clean k (completed t) l = refl
written_at s clean k refused l = absurd (omega (arith, l))
written_at s clean k (broken t j) l = take_take k j (sent s clean t) (omega (arith, l, length-take j (sent s clean t)))
  where
    take_take : (k j : ℕ) (x : List ℕ) → k ≤ j → take k x ≡ take k (take j x)
    take_take zero j x l = refl
    take_take (suc k) zero x l = absurd (omega (arith, l))
    take_take (suc k) (suc j) [] l = refl
    take_take (suc k) (suc j) (b ∷ x) l = ap (λ z. b ∷ z) (take_take k j x (omega (arith, l)))

-- the line of what is left of a session
line_left : (s : ℕ) (clean : Bool) (k : ℕ) (xs : List Send) → take k (session_line s clean xs) ≡ session_line s clean (left_of s clean k xs)
line_left s clean zero [] = refl
line_left s clean (suc k) [] = refl
line_left s clean k (x ∷ xs) = elim (cases_lt k (length (written s clean x))) [
  | inl l ↦ rw (lt-ltb k (length (written s clean x)) l) (take-append-le k (written s clean x) (session_line s (clean_after clean x) xs) (omega (arith, l)) ∙ sym (written_at s clean k x l) ∙ sym (append-nil (written s clean (broken_at k x))))
  | inr l ↦ rw (le-ltb k (length (written s clean x)) l) (take_past k (written s clean x) (session_line s (clean_after clean x) xs) l ∙ ap (λ z. written s clean x ++ z) (line_left s (clean_after clean x) (k - length (written s clean x)) xs))
]

-- the front of two lists, wherever it ends
take_both : (k : ℕ) (x y : List ℕ) → take k (x ++ y) ≡ take k x ++ take (k - length x) y
take_both k [] y = go k ∙ ap (λ n. take k [] ++ take n y) (let e : k ≡ k - 0 = omega arith in e)
  where
    go : (k : ℕ) → take k y ≡ take k [] ++ take k y
    go zero = refl
    go (suc k) = refl
take_both zero (b ∷ x) y = ap (λ n. take n y) (let e : 0 ≡ 0 - length (b ∷ x) = omega arith in e)
take_both (suc k) (b ∷ x) y = ap (λ z. b ∷ z) (take_both k x y) ∙ ap (λ n. b ∷ (take k x ++ take n y)) (let e : k - length x ≡ suc k - length (b ∷ x) = omega arith in e)

pub line_of_left : (s k : ℕ) (run : List (List Send)) → take k (line s run) ≡ line s (left s k run)
line_of_left s zero [] = refl
line_of_left s (suc k) [] = refl
line_of_left s k (xs ∷ run) =
    take_both k (session_line s false xs) (line s run) ∙ ap (λ z. z ++ take (k - length (session_line s false xs)) (line s run)) (line_left s false k xs)
    ∙ ap (λ z. session_line s false (left_of s false k xs) ++ z) (line_of_left s (k - length (session_line s false xs)) run)

module _ (takes : Tree → Type 0) (limit s : ℕ) where
  send_left : (clean : Bool) (k : ℕ) (x : Send) → IsSend takes limit s clean x → k < length (written s clean x) → IsSend takes limit s clean (broken_at k x)
  send_left clean k (completed t) d l = (d, l)
  send_left clean k refused d l = tt
  send_left clean k (broken t j) d l = (d.0, omega (arith, l, length-take j (sent s clean t)))

  session_left : (clean : Bool) (k : ℕ) (xs : List Send) → IsSession takes limit s clean xs → IsSession takes limit s clean (left_of s clean k xs)
  session_left clean k [] d = tt
  session_left clean k (x ∷ xs) d = elim (cases_lt k (length (written s clean x))) [
    | inl l ↦ rw (lt-ltb k (length (written s clean x)) l) (send_left clean k x d.0 l, tt)
    | inr l ↦ rw (le-ltb k (length (written s clean x)) l) (d.0, session_left (clean_after clean x) (k - length (written s clean x)) xs d.1)
  ]

  pub run_left : (k : ℕ) (run : List (List Send)) → IsRun takes limit s run → IsRun takes limit s (left s k run)
  run_left k [] d = tt
  run_left k (xs ∷ run) d = (session_left false k xs d.0, run_left (k - length (session_line s false xs)) run d.1)

-- what is left was tried before
tried_at : (k : ℕ) (x : Send) (xs : List Send) → Among (tried_in (broken_at k x ∷ [])) (tried_in (x ∷ xs))
tried_at k (completed t) xs = inl (refl, tt)
tried_at k refused xs = tt
tried_at k (broken t j) xs = inl (refl, tt)

tried_first : (x : Send) (xs ys : List Send) → Among (tried_in xs) (tried_in ys) → Among (tried_in (x ∷ xs)) (tried_in (x ∷ ys))
tried_first (completed t) xs ys h = inl (refl, h)
tried_first refused xs ys h = h
tried_first (broken t j) xs ys h = inl (refl, h)

tried_left_of : (s : ℕ) (clean : Bool) (k : ℕ) (xs : List Send) → Among (tried_in (left_of s clean k xs)) (tried_in xs)
tried_left_of s clean k [] = tt
tried_left_of s clean k (x ∷ xs) = elim (cases_lt k (length (written s clean x))) [
  | inl l ↦ rw (lt-ltb k (length (written s clean x)) l) (tried_at k x xs)
  | inr l ↦ rw (le-ltb k (length (written s clean x)) l) (tried_first x (left_of s (clean_after clean x) (k - length (written s clean x)) xs) xs (tried_left_of s (clean_after clean x) (k - length (written s clean x)) xs))
]

pub tried_left : (s k : ℕ) (run : List (List Send)) → Among (tried (left s k run)) (tried run)
tried_left s k [] = tt
tried_left s k (xs ∷ run) =
    among_joined (tried_in (left_of s false k xs)) (tried_in xs) (tried (left s (k - length (session_line s false xs)) run)) (tried run) (tried_left_of s false k xs) (tried_left s (k - length (session_line s false xs)) run)

pub lies_between : (s : ℕ) (run : List (List Send)) → LiesBetween run (values_of (told s run))
lies_between s run = let h = between s run in record { none_lost = h.0; none_invented = h.1 }

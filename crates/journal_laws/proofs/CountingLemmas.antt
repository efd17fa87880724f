-- What is read of a log through its history.
use Rattle.std.proofs.Common.{◌≡◌, ℕ, zero, suc, ◌+◌, ◌-◌, ◌<◌, ◌≤◌, Bool, true, false, cond, ltb, List, [], ◌∷◌, ◌++◌, length, take, refl, sym, ap, ◌∙◌, subst, inl, inr, arith, append_assoc}
use Rattle.std.specs.Prelude.{replicate}
use Rattle.std.proofs.lemmas.Bool.{le-ltb, lt-ltb, cases_lt}
use Rattle.std.proofs.lemmas.List.{length-take, length-append, append-nil}
use Rattle.cobs.specs.Frames.{shortest_frame}
use Rattle.cobs.specs.Sentinel.{frame_for}
use Rattle.postcard_tree.specs.Tree.{Tree}
use Rattle.postcard_tree.specs.Spelling.{short}
use Rattle.link.specs.Stream.{damaged, value, Answers}
use Rattle.link.specs.Run.{Send, completed, refused, broken, written, sent, clean_after, session_line, line, told_broken, told_session, told, frame_bytes, IsRun}
use Rattle.link.specs.Laws.{IsTold}
use Rattle.link.specs.Roads.{values_of}
use Rattle.link_laws.specs.Crashes.{broken_at, left_of, left, IsLeft}
use Rattle.journal_laws.specs.Numbers.{read_broken, read_in, read_of, Counted, LogEvent, appended, broke, crashed, appends, opening, openings, opened, sends_broken, after, history, HasBytes, CountsOn}
use Rattle.link.specs.Lemmas.ValueLaws.{values_joined}
use Rattle.link.specs.Lemmas.SendLaws.{lines_joined, runs_joined}
use Rattle.journal_laws.proofs.RunsLemmas.{frame_more}

-- What is told where something comes later

read_told : (t : Tree) (k b : ℕ) (later : List ℕ) → values_of (told_broken t k (b ∷ later)) ≡ read_broken t k
read_told t zero b later = refl
read_told t (suc k) b later = go (ltb (suc k) (length (shortest_frame (short t))))
  where
    go : (c : Bool) → values_of (cond c (damaged ∷ []) (value t ∷ [])) ≡ cond c [] (t ∷ [])
    go true = refl
    go false = refl

-- some byte
abbrev Some' : List ℕ → Type 0
Some' x = (b : ℕ) × (rest : List ℕ) × (x ≡ b ∷ rest)

some_behind : (x y : List ℕ) → Some' y → Some' (x ++ y)
some_behind [] y h = h
some_behind (b ∷ x) y h = (b, x ++ y, refl)

read_session : (s : ℕ) (clean : Bool) (later : List ℕ) (xs : List Send) → Some' later → values_of (told_session s clean later xs) ≡ read_in clean xs
read_session s clean later [] h = refl
read_session s clean later (completed t ∷ xs) h = ap (λ x. t ∷ x) (read_session s true later xs h)
read_session s clean later (refused ∷ xs) h = read_session s clean later xs h
read_session s clean later (broken t k ∷ xs) h =
    let more = some_behind (session_line s false xs) later h in
    let first : values_of (told_broken t (frame_bytes clean k) (session_line s false xs ++ later)) ≡ read_broken t (frame_bytes clean k) =
    ap (λ x. values_of (told_broken t (frame_bytes clean k) x)) more.2 ∙ read_told t (frame_bytes clean k) more.0 more.1 in
    values_joined (told_broken t (frame_bytes clean k) (session_line s false xs ++ later)) (told_session s false later xs)
    ∙ ap (λ x. x ++ values_of (told_session s false later xs)) first ∙ ap (λ x. read_broken t (frame_bytes clean k) ++ x) (read_session s false later xs h)

read_run : (s : ℕ) (any : Tree) (run : List (List Send)) → values_of (told s (run ++ (opening any ∷ []))) ≡ read_of run
read_run s any [] = refl
read_run s any (xs ∷ run) =
    let later = line s (run ++ (opening any ∷ [])) in
    let some : Some' later = subst Some' (sym (lines_joined s run (opening any ∷ []))) (some_behind (line s run) (s ∷ []) (s, [], refl)) in
    values_joined (told_session s false later xs) (told s (run ++ (opening any ∷ []))) ∙ ap (λ x. x ++ values_of (told s (run ++ (opening any ∷ [])))) (read_session s false later xs some)
    ∙ ap (λ x. read_in false xs ++ x) (read_run s any run)

-- What a crash leaves is a beginning

abbrev Begins : List Tree → List Tree → Type 0
Begins xs ys = (rest : List Tree) × (xs ++ rest ≡ ys)

begins_behind : (xs ys zs : List Tree) → Begins ys zs → Begins (xs ++ ys) (xs ++ zs)
begins_behind xs ys zs (rest, e) = (rest, append_assoc xs ys rest ∙ ap (λ z. xs ++ z) e)

begins_more : (xs ys zs : List Tree) → Begins xs ys → Begins xs (ys ++ zs)
begins_more xs ys zs (rest, e) = (rest ++ zs, sym (append_assoc xs rest zs) ∙ ap (λ z. z ++ zs) e)

-- of a broken-off append nothing is read, or it
either_read : (P : List Tree → Type 0) (t : Tree) (k : ℕ) → P [] → P (t ∷ []) → P (read_broken t k)
either_read P t zero none one = none
either_read P t (suc k) none one = go (ltb (suc k) (length (shortest_frame (short t))))
  where
    go : (c : Bool) → P (cond c [] (t ∷ []))
    go true = none
    go false = one

-- one that was broken off earlier
earlier : (t : Tree) (k j : ℕ) (later : List Tree) → k ≤ j → Begins (read_broken t k ++ []) (read_broken t j ++ later)
earlier t zero j later l = (read_broken t j ++ later, refl)
earlier t (suc k) zero later l = absurd (omega (arith, l))
earlier t (suc k) (suc j) later l = elim (cases_lt (suc k) (length (shortest_frame (short t)))) [
  | inl m ↦ rw (lt-ltb (suc k) (length (shortest_frame (short t))) m) (_, refl)
  | inr m ↦ rw (le-ltb (suc k) (length (shortest_frame (short t))) m) (rw (le-ltb (suc j) (length (shortest_frame (short t))) (omega (arith, m, l))) (later, refl))
]

frame_bytes_grow : (clean : Bool) (k j : ℕ) → k ≤ j → frame_bytes clean k ≤ frame_bytes clean j
frame_bytes_grow true k j l = l
frame_bytes_grow false zero j l = omega arith
frame_bytes_grow false (suc k) zero l = absurd (omega (arith, l))
frame_bytes_grow false (suc k) (suc j) l = omega (arith, l)

none_at_zero : (clean : Bool) (t : Tree) → read_broken t (frame_bytes clean 0) ≡ []
none_at_zero true t = refl
none_at_zero false t = refl

cut_begins : (s : ℕ) (clean : Bool) (k : ℕ) (x : Send) (xs : List Send) → k < length (written s clean x) → Begins (read_in clean (broken_at k x ∷ [])) (read_in clean (x ∷ xs))
cut_begins s clean k (completed t) xs l =
    either_read (λ x. Begins (x ++ []) (t ∷ read_in true xs)) t (frame_bytes clean k) (t ∷ read_in true xs, refl) (read_in true xs, refl)
cut_begins s clean k refused xs l = absurd (omega (arith, l))
cut_begins s clean k (broken t j) xs l = earlier t (frame_bytes clean k) (frame_bytes clean j) (read_in false xs) (frame_bytes_grow clean k j (omega (arith, l, length-take j (sent s clean t))))

first_begins : (clean : Bool) (x : Send) (xs ys : List Send) (next : Bool) → Begins (read_in (clean_after clean x) xs) (read_in (clean_after clean x) ys) → Begins (read_in clean (x ∷ xs)) (read_in clean (x ∷ ys))
first_begins clean (completed t) xs ys next h = begins_behind (t ∷ []) (read_in true xs) (read_in true ys) h
first_begins clean refused xs ys next h = h
first_begins clean (broken t j) xs ys next h = begins_behind (read_broken t (frame_bytes clean j)) (read_in false xs) (read_in false ys) h

session_begins : (s : ℕ) (clean : Bool) (k : ℕ) (xs : List Send) → Begins (read_in clean (left_of s clean k xs)) (read_in clean xs)
session_begins s clean k [] = ([], refl)
session_begins s clean k (x ∷ xs) = elim (cases_lt k (length (written s clean x))) [
  | inl l ↦ rw (lt-ltb k (length (written s clean x)) l) (cut_begins s clean k x xs l)
  | inr l ↦ rw (le-ltb k (length (written s clean x)) l) (first_begins clean x (left_of s (clean_after clean x) (k - length (written s clean x)) xs) xs clean (session_begins s (clean_after clean x) (k - length (written s clean x)) xs))
]

-- a session that is left whole
whole_left : (s : ℕ) (clean : Bool) (k : ℕ) (xs : List Send) → length (session_line s clean xs) ≤ k → left_of s clean k xs ≡ xs
whole_left s clean k [] l = refl
whole_left s clean k (x ∷ xs) l =
    let long = length-append (written s clean x) (session_line s (clean_after clean x) xs) in
    rw (le-ltb k (length (written s clean x)) (omega (arith, l, long))) (ap (λ z. x ∷ z) (whole_left s (clean_after clean x) (k - length (written s clean x)) xs (omega (arith, l, long))))

-- nothing is left
some_sent : (s : ℕ) (clean : Bool) (t : Tree) → 0 < length (sent s clean t)
some_sent s true t = omega (arith, length-append (frame_for s (short t)) (s ∷ []))
some_sent s false t = omega (arith, length-append (frame_for s (short t)) (s ∷ []))

nothing_in : (s : ℕ) (clean : Bool) (xs : List Send) → read_in clean (left_of s clean 0 xs) ≡ []
nothing_in s clean [] = refl
nothing_in s clean (completed t ∷ xs) = rw (lt-ltb 0 (length (sent s clean t)) (some_sent s clean t)) (ap (λ x. x ++ []) (none_at_zero clean t))
nothing_in s clean (refused ∷ xs) = nothing_in s clean xs
nothing_in s clean (broken t zero ∷ xs) = ap (λ x. x ++ read_in false (left_of s false 0 xs)) (none_at_zero clean t) ∙ nothing_in s false xs
nothing_in s clean (broken t (suc j) ∷ xs) =
    let some : 0 < length (take (suc j) (sent s clean t)) = omega (arith, length-take (suc j) (sent s clean t), some_sent s clean t) in
    rw (lt-ltb 0 (length (take (suc j) (sent s clean t))) some) (ap (λ x. x ++ []) (none_at_zero clean t))

nothing_left : (s : ℕ) (run : List (List Send)) → read_of (left s 0 run) ≡ []
nothing_left s [] = refl
nothing_left s (xs ∷ run) =
    ap (λ x. x ++ read_of (left s (0 - length (session_line s false xs)) run)) (nothing_in s false xs)
    ∙ ap (λ n. read_of (left s n run)) (let e : 0 - length (session_line s false xs) ≡ 0 = omega arith in e) ∙ nothing_left s run

left_begins : (s k : ℕ) (run : List (List Send)) → Begins (read_of (left s k run)) (read_of run)
left_begins s k [] = ([], refl)
left_begins s k (xs ∷ run) = elim (cases_lt k (length (session_line s false xs))) [
  | inl l ↦ (
      let none : read_of (left s (k - length (session_line s false xs)) run) ≡ [] =
      ap (λ n. read_of (left s n run)) (let e : k - length (session_line s false xs) ≡ 0 = omega (arith, l) in e) ∙ nothing_left s run in
      subst (λ x. Begins x (read_in false xs ++ read_of run)) (sym (ap (λ x. read_in false (left_of s false k xs) ++ x) none ∙ append-nil (read_in false (left_of s false k xs))))
      (begins_more (read_in false (left_of s false k xs)) (read_in false xs) (read_of run) (session_begins s false k xs)))
  | inr l ↦ subst (λ x. Begins (read_in false x ++ read_of (left s (k - length (session_line s false xs)) run)) (read_in false xs ++ read_of run)) (sym (whole_left s false k xs l))
      (begins_behind (read_in false xs) (read_of (left s (k - length (session_line s false xs)) run)) (read_of run) (left_begins s (k - length (session_line s false xs)) run))
]

-- Numbers

counted_front : (numbered : ℕ → Tree → Tree) (n : ℕ) (xs ys : List Tree) → Counted numbered n (xs ++ ys) → Counted numbered n xs
counted_front numbered n [] ys c = tt
counted_front numbered n (x ∷ xs) ys c = (c.0, counted_front numbered (n + 1) xs ys c.1)

counted_begins : (numbered : ℕ → Tree → Tree) (xs ys : List Tree) → Begins xs ys → Counted numbered 0 ys → Counted numbered 0 xs
counted_begins numbered xs ys (rest, e) c = counted_front numbered 0 xs rest (subst (Counted numbered 0) (sym e) c)

counted_joined : (numbered : ℕ → Tree → Tree) (n : ℕ) (xs ys : List Tree) → Counted numbered n xs → Counted numbered (n + length xs) ys → Counted numbered n (xs ++ ys)
counted_joined numbered n [] ys c d = subst (λ m. Counted numbered m ys) (let e : n + 0 ≡ n = omega arith in e) d
counted_joined numbered n (x ∷ xs) ys c d = (c.0, counted_joined numbered (n + 1) xs ys c.1 (subst (λ m. Counted numbered m ys) (let e : n + length (x ∷ xs) ≡ (n + 1) + length xs = omega arith in e) d))

counted_appends : (numbered : ℕ → Tree → Tree) (clean : Bool) (n : ℕ) (vs : List Tree) → Counted numbered n (read_in clean (appends numbered n vs))
counted_appends numbered clean n [] = tt
counted_appends numbered clean n (v ∷ vs) = ((v, refl), counted_appends numbered true (n + 1) vs)

counted_broken : (numbered : ℕ → Tree → Tree) (clean : Bool) (n m k : ℕ) (vs : List Tree) (v : Tree) → m ≡ n + length vs
    → Counted numbered n (read_in clean (appends numbered n vs ++ (broken (numbered m v) k ∷ [])))
counted_broken numbered clean n m k [] v e =
    let same : m ≡ n = e ∙ omega arith in
    subst (λ x. Counted numbered n (read_broken (numbered x v) (frame_bytes clean k) ++ [])) (sym same)
    (either_read (λ x. Counted numbered n (x ++ [])) (numbered n v) (frame_bytes clean k) tt ((v, refl), tt))
counted_broken numbered clean n m k (w ∷ vs) v e = ((w, refl), counted_broken numbered true (n + 1) m k vs v (e ∙ omega arith))

read_joined : (run later : List (List Send)) → read_of (run ++ later) ≡ read_of run ++ read_of later
read_joined [] later = refl
read_joined (xs ∷ run) later = ap (λ x. read_in false xs ++ x) (read_joined run later) ∙ sym (append_assoc (read_in false xs) (read_of run) (read_of later))

-- What is read behind an opening is what is read of clean sends.
read_opened : (any : Tree) (xs : List Send) → read_in false (opened any xs) ≡ read_in true xs
read_opened any [] = refl
read_opened any (completed t ∷ xs) = refl
read_opened any (refused ∷ xs) = read_opened any xs
read_opened any (broken t k ∷ xs) = refl

read_openings : (any : Tree) (n : ℕ) → read_of (openings any n) ≡ []
read_openings any zero = refl
read_openings any (suc n) = read_openings any n

counted_opened : (numbered : ℕ → Tree → Tree) (any : Tree) (run : List (List Send)) (sends : List Send) → Counted numbered 0 (read_of run) → Counted numbered (length (read_of run)) (read_in true sends)
    → Counted numbered 0 (read_of (run ++ (opened any sends ∷ [])))
counted_opened numbered any run sends c d =
    subst (Counted numbered 0) (sym (read_joined run (opened any sends ∷ []) ∙ ap (λ x. read_of run ++ x) (append-nil (read_in false (opened any sends)) ∙ read_opened any sends)))
    (counted_joined numbered 0 (read_of run) (read_in true sends) c (subst (λ n. Counted numbered n (read_in true sends)) (let e : length (read_of run) ≡ 0 + length (read_of run) = omega arith in e) d))

step : (s : ℕ) (numbered : ℕ → Tree → Tree) (any : Tree) (run : List (List Send)) (e : LogEvent) → Counted numbered 0 (read_of run) → Counted numbered 0 (read_of (after s numbered any run e))
step s numbered any run (appended vs) c = counted_opened numbered any run (appends numbered (length (read_of run)) vs) c (counted_appends numbered true (length (read_of run)) vs)
step s numbered any run (broke vs v k) c =
    let n = length (read_of run) in
    counted_opened numbered any run (appends numbered n vs ++ (broken (numbered (n + length vs) v) k ∷ [])) c (counted_broken numbered true n (n + length vs) k vs v refl)
step s numbered any run (crashed k n) c =
    subst (Counted numbered 0) (sym (read_joined (left s k run) (openings any n) ∙ ap (λ x. read_of (left s k run) ++ x) (read_openings any n) ∙ append-nil (read_of (left s k run))))
    (counted_begins numbered (read_of (left s k run)) (read_of run) (left_begins s k run) c)

counted : (s : ℕ) (numbered : ℕ → Tree → Tree) (any : Tree) (run : List (List Send)) (events : List LogEvent) → Counted numbered 0 (read_of run) → Counted numbered 0 (read_of (history s numbered any run events))
counted s numbered any run [] c = c
counted s numbered any run (e ∷ events) c = counted s numbered any (after s numbered any run e) events (step s numbered any run e c)

-- What an opening reads is counted.
pub counts_by : (takes : Tree → Type 0) (holds : List ℕ → Tree → Type 0) (limit s : ℕ) → IsTold takes holds limit s → CountsOn takes holds limit s
counts_by takes holds limit s tells numbered any events answers framed d h =
    let run = history s numbered any [] events in
    let is : IsRun takes limit s (run ++ (opening any ∷ [])) = runs_joined takes limit s run (opening any ∷ []) d (((framed, frame_more s any), tt), tt) in
    let told_is : answers ≡ told s (run ++ (opening any ∷ [])) = (tells (run ++ (opening any ∷ [])) answers is).0 (subst (λ x. Answers holds limit s x answers) (sym (lines_joined s run (opening any ∷ []))) h) in
    let are : values_of answers ≡ read_of run = ap values_of told_is ∙ read_run s any run in
    record {
      counted = subst (Counted numbered 0) (sym are) (counted s numbered any [] events tt);
      are = are;
    }

-- Bytes

line_opened : (s : ℕ) (any : Tree) (xs : List Send) → session_line s false (opened any xs) ≡ s ∷ session_line s true xs
line_opened s any [] = refl
line_opened s any (completed t ∷ xs) = refl
line_opened s any (refused ∷ xs) = line_opened s any xs
line_opened s any (broken t k ∷ xs) = refl

line_openings : (s : ℕ) (any : Tree) (n : ℕ) → line s (openings any n) ≡ replicate n s
line_openings s any zero = refl
line_openings s any (suc n) = ap (λ x. s ∷ x) (line_openings s any n)

line_behind : (s : ℕ) (any : Tree) (run : List (List Send)) (xs : List Send) → line s (run ++ (opened any xs ∷ [])) ≡ line s run ++ (s ∷ session_line s true xs)
line_behind s any run xs = lines_joined s run (opened any xs ∷ []) ∙ ap (λ x. line s run ++ x) (append-nil (session_line s false (opened any xs)) ∙ line_opened s any xs)

pub has_bytes : (takes : Tree → Type 0) (limit s : ℕ) → IsLeft takes limit s → HasBytes takes limit s
has_bytes takes limit s front numbered any run (appended vs) d = line_behind s any run (appends numbered (length (read_of run)) vs)
has_bytes takes limit s front numbered any run (broke vs v k) d = line_behind s any run (sends_broken numbered (length (read_of run)) vs v k)
has_bytes takes limit s front numbered any run (crashed k n) d = lines_joined s (left s k run) (openings any n) ∙ ap (λ x. x ++ line s (openings any n)) (sym (front run k d).bytes) ∙ ap (λ x. take k (line s run) ++ x) (line_openings s any n)

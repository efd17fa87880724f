-- A front of a frame is a frame where it ends at a block's end.
use Rattle.std.proofs.Common.{◌≡◌, ◌≢◌, ◌↔◌, ℕ, zero, suc, pred, ◌<◌, ◌≤◌, nat_lt, Bool, List, [], ◌∷◌, ◌++◌, length, take, drop, inl, inr, refl, ap, sym, ◌∙◌, arith, append_assoc, subst}
use Rattle.std.proofs.lemmas.List.{append-nil, take_at, drop_at}
use Rattle.std.proofs.lemmas.Bool.{cases_lt}
use Rattle.std.proofs.lemmas.Bool.Decides.{eqb_tells}
use Rattle.cobs.specs.Frames.{block, IsBlock, gap, AreRuns, spelled, joined, EndsShort, Frame, Shortest, after, missing}
use Rattle.cobs.proofs.EncodingLemmas.{no_cons, gap_full, gap_other}
use Rattle.cobs.proofs.DecodingLemmas.{after_run, frame_ends}

-- a front that stops inside a block's bytes misses some
stops_inside : (left : ℕ) (owed : Bool) (bytes : List ℕ) → length bytes < left → 0 < (after left owed bytes).0
stops_inside left owed [] l = l
stops_inside zero owed (b ∷ bytes) l = absurd (omega arith)
stops_inside (suc left) owed (b ∷ bytes) l = stops_inside left owed bytes (omega arith)

-- the runs of a front that ends at a block's end are the first of the frame's
record Fronts (run : List ℕ) (runs : List (List ℕ)) (front : List ℕ) : Type 0 where
  others : List (List ℕ)
  are : AreRuns run others
  spells : front ≡ spelled run others

-- two beginnings of one list: the first is within the second, or goes on behind it
behind : (a b x y : List ℕ) → a ++ x ≡ b ++ y → length b ≤ length a → (more : List ℕ) × (a ≡ b ++ more) × (more ++ x ≡ y)
behind a [] x y e l = (a, refl, e)
behind [] (c ∷ b) x y e l = absurd (omega arith)
behind (d ∷ a) (c ∷ b) x y e l =
    let first : d ≡ c = cc in
    let rest : a ++ x ≡ b ++ y = cc in
    let h = behind a b x y rest (omega arith) in
    (h.0, ap (λ z. z ∷ a) first ∙ ap (λ z. c ∷ z) h.1, h.2)

-- a front that stops inside a run's bytes misses some
misses : (run front : List ℕ) (code : ℕ) → suc (length run) ≡ code → length front < length run → (after (pred code) (nat_lt code 255) front).0 ≡ 0 → ⊥
misses run front code codes l m =
    let p : pred code ≡ length run = omega arith in
    let k : 0 < (after (length run) (nat_lt code 255) front).0 = stops_inside (length run) (nat_lt code 255) front l in
    let v : (after (length run) (nat_lt code 255) front).0 ≡ 0 = subst (λ x. (after x (nat_lt code 255) front).0 ≡ 0) p m in
    omega arith

more_whole : (run next : List ℕ) (runs : List (List ℕ)) (front : List ℕ) (code : ℕ) (more : List ℕ) → IsBlock run → suc (length run) ≡ code → front ≡ run ++ more
    → (more ≢ [] → Fronts next runs more) → Fronts run (next ∷ runs) (code ∷ front)
more_whole run next runs front code [] h codes f k = record { others = []; are = h; spells = ap (λ x. x ∷ front) (sym codes) ∙ ap (λ x. suc (length run) ∷ x) (f ∙ append-nil run) }
more_whole run next runs front code (b ∷ more) h codes f k =
    let g = k (no_cons b more) in
    record { others = next ∷ g.others; are = (h, g.are); spells = ap (λ x. x ∷ front) (sym codes) ∙ ap (λ x. suc (length run) ∷ x) (f ∙ ap (λ x. run ++ x) g.spells) }

one_whole : (run front rest : List ℕ) (code : ℕ) → IsBlock run → suc (length run) ≡ code → run ≡ front ++ rest → (after (pred code) (nat_lt code 255) front).0 ≡ 0 → front ≡ run
one_whole run front rest code h codes tails m = elim (cases_lt (length front) (length run)) [
  | inl l ↦ absurd (misses run front code codes l m)
  | inr l ↦ (let b = behind front run rest [] (sym tails ∙ sym (append-nil run)) l in b.1 ∙ ap (λ x. run ++ x) (first_none b.0 rest b.2) ∙ append-nil run)
]
  where
    first_none : (x y : List ℕ) → x ++ y ≡ [] → x ≡ []
    first_none [] y e = refl
    first_none (z ∷ x) y e = absurd (no_cons z (x ++ y) e)

front_runs : (run : List ℕ) (runs : List (List ℕ)) (front rest : List ℕ) (owed : Bool) → AreRuns run runs → front ≢ [] → spelled run runs ≡ front ++ rest → (after 0 owed front).0 ≡ 0 → Fronts run runs front
front_runs run runs [] rest owed h n e m = absurd (n refl)
front_runs run [] (code ∷ front) rest owed h n e m =
    let codes : suc (length run) ≡ code = cc in
    let tails : run ≡ front ++ rest = cc in
    record { others = []; are = h; spells = ap (λ x. x ∷ front) (sym codes) ∙ ap (λ x. suc (length run) ∷ x) (one_whole run front rest code h codes tails m) }
front_runs run (next ∷ runs) (code ∷ front) rest owed h n e m =
    let codes : suc (length run) ≡ code = cc in
    let tails : run ++ spelled next runs ≡ front ++ rest = cc in
    elim (cases_lt (length front) (length run)) [
      | inl l ↦ absurd (misses run front code codes l m)
      | inr l ↦ (
          let b = behind front run rest (spelled next runs) (sym tails) l in
          let p : pred code ≡ length run = omega arith in
          let w : (after 0 (nat_lt code 255) b.0).0 ≡ 0 =
          ap (λ a. a.0) (sym (after_run run b.0 (nat_lt code 255))) ∙ ap (λ x. (after (length run) (nat_lt code 255) x).0) (sym b.1)
          ∙ subst (λ x. (after x (nat_lt code 255) front).0 ≡ 0) p m in
          more_whole run next runs front code b.0 h.0 codes b.1 (λ s. front_runs next runs b.0 rest (nat_lt code 255) h.1 s (sym b.2) w))
    ]

pub front_is : (frame message front rest : List ℕ) → Frame frame message → frame ≡ front ++ rest → front ≢ [] → ((begun : List ℕ) × Frame front begun) ↔ (missing front ≡ 0)
front_is frame message front rest f e n = (
  λ (begun, h). frame_ends front begun h,
  λ m. (let k = front_runs f.first f.others front rest _ f.runs n (sym f.spells ∙ e) m in
      (joined f.first k.others, record { first = f.first; others = k.others; runs = k.are; spells = k.spells; reads = refl })),
)

same_run : (r s p q : List ℕ) → block r ++ p ≡ block s ++ q → (r ≡ s) × (p ≡ q)
same_run r s p q e =
    let code : length r ≡ length s = cc in
    let rest : r ++ p ≡ s ++ q = cc in
    let run : r ≡ s = sym (take_at r p (length r) refl) ∙ ap (take (length r)) rest ∙ take_at s q (length r) (sym code) in
    let behind : p ≡ q = sym (drop_at r p (length r) refl) ∙ ap (drop (length r)) rest ∙ drop_at s q (length r) (sym code) in
    (run, behind)

-- a frame's runs behind those of a front that is a frame
record Splits (run : List ℕ) (runs : List (List ℕ)) (first : List ℕ) (others : List (List ℕ)) (rest : List ℕ) : Type 0 where
  next : List ℕ
  later : List (List ℕ)
  same : first ≡ run
  parts : others ≡ runs ++ next ∷ later
  behind : rest ≡ spelled next later

splits : (run : List ℕ) (runs : List (List ℕ)) (first : List ℕ) (others : List (List ℕ)) (rest : List ℕ) → (rest ≡ [] → ⊥) → spelled run runs ++ rest ≡ spelled first others → Splits run runs first others rest
splits run [] first [] rest n e =
    let s = same_run run first rest [] (e ∙ sym (append-nil (block first))) in absurd (n s.1)
splits run [] first (next ∷ later) rest n e =
    let s = same_run run first rest (spelled next later) e in
    record { next = next; later = later; same = sym s.0; parts = refl; behind = s.1 }
splits run (r ∷ runs) first [] rest n e =
    let s = same_run run first (spelled r runs ++ rest) [] (sym (append_assoc (block run) (spelled r runs) rest) ∙ e ∙ sym (append-nil (block first))) in
    absurd (long_enough r runs s.1)
  where
    long_enough : (r : List ℕ) (runs : List (List ℕ)) → spelled r runs ++ rest ≡ [] → ⊥
    long_enough r [] z = no_cons _ _ z
    long_enough r (x ∷ runs) z = no_cons _ _ z
splits run (r ∷ runs) first (next ∷ later) rest n e =
    let s = same_run run first (spelled r runs ++ rest) (spelled next later) (sym (append_assoc (block run) (spelled r runs) rest) ∙ e) in
    let t = splits r runs next later rest n s.1 in
    record { next = t.next; later = t.later; same = sym s.0; parts = ap (λ x. x ∷ later) t.same ∙ ap (λ l. r ∷ l) t.parts; behind = t.behind }

-- the last of some runs
last_of : List ℕ → List (List ℕ) → List ℕ
last_of run [] = run
last_of run (r ∷ runs) = last_of r runs

joined_front : (run : List ℕ) (runs : List (List ℕ)) (next : List ℕ) (later : List (List ℕ)) → joined run (runs ++ next ∷ later) ≡ joined run runs ++ (gap (last_of run runs) ++ joined next later)
unfolding last_of
joined_front run [] next later = refl
joined_front run (r ∷ runs) next later =
    ap (λ m. run ++ (gap run ++ m)) (joined_front r runs next later)
    ∙ sym (append_assoc run (gap run ++ joined r runs) _ ∙ ap (λ m. run ++ m) (append_assoc (gap run) (joined r runs) _))

ends_back : (run : List ℕ) (runs : List (List ℕ)) (next : List ℕ) (later : List (List ℕ)) → EndsShort run (runs ++ next ∷ later) → EndsShort (last_of run runs) (next ∷ later)
unfolding last_of
ends_back run [] next later h = h
ends_back run (r ∷ []) next later h = h
ends_back run (r ∷ x ∷ runs) next later h = ends_back r (x ∷ runs) next later h

last_run_is : (run : List ℕ) (runs : List (List ℕ)) → AreRuns run runs → IsBlock (last_of run runs)
unfolding last_of
last_run_is run [] h = h
last_run_is run (r ∷ runs) h = last_run_is r runs h.1

-- what comes behind a front of a shortest frame brings a byte of the message
brings : (run next : List ℕ) (later : List (List ℕ)) → IsBlock run → EndsShort run (next ∷ later) → gap run ++ joined next later ≢ []
brings run next later h s = elim (eqb_tells (length run) 254) [
  | inl t ↦ rw (gap_full run t.1) (begins next later s t.1)
  | inr t ↦ rw (gap_other run (omega (arith, h.0))) (no_cons 0 (joined next later))
]
  where
    begins : (next : List ℕ) (later : List (List ℕ)) → EndsShort run (next ∷ later) → length run ≡ 254 → joined next later ≢ []
    begins [] [] s l = absurd (s l refl)
    begins [] (x ∷ later) s l = no_cons 0 (joined x later)
    begins (b ∷ next) [] s l = no_cons b next
    begins (b ∷ next) (x ∷ later) s l = no_cons b (next ++ (gap (b ∷ next) ++ joined x later))

-- of a shortest frame the message begins with that of the front, and has more
pub front_begins : (frame message front rest begun : List ℕ) → Shortest frame message → frame ≡ front ++ rest → rest ≢ [] → Frame front begun → (later : List ℕ) × (message ≡ begun ++ later) × (later ≢ [])
front_begins frame message front rest begun s e n f =
    let g = s.is_frame in
    let t = splits f.first f.others g.first g.others rest n (sym (ap (λ x. x ++ rest) f.spells) ∙ sym e ∙ g.spells) in
    let ends : EndsShort (last_of f.first f.others) (t.next ∷ t.later) = ends_back f.first f.others t.next t.later (subst (λ r. EndsShort r (f.others ++ t.next ∷ t.later)) t.same (subst (EndsShort g.first) t.parts s.ends)) in (
      gap (last_of f.first f.others) ++ joined t.next t.later,
      g.reads ∙ ap (joined g.first) t.parts ∙ ap (λ r. joined r (f.others ++ t.next ∷ t.later)) t.same ∙ joined_front f.first f.others t.next t.later
          ∙ ap (λ m. m ++ (gap (last_of f.first f.others) ++ joined t.next t.later)) (sym f.reads),
      brings (last_of f.first f.others) t.next t.later (last_run_is f.first f.others f.runs) ends,
    )

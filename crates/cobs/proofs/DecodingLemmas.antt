-- A frame has one message, which is what its bytes decide.
use Rattle.std.proofs.Common.{◌≡◌, ℕ, zero, suc, pred, ◌+◌, ◌-◌, ◌<◌, ◌≤◌, nat_lt, if◌then◌else◌, Bool, true, false, List, [], ◌∷◌, ◌++◌, length, inl, inr, refl, ap, sym, ◌∙◌, arith, append_assoc, subst}
use Rattle.std.specs.List.{AllByRecursion}
use Rattle.std.proofs.lemmas.List.{append-nil, length_push}
use Rattle.std.proofs.lemmas.Bool.{lt-ltb, le-ltb}
use Rattle.std.proofs.lemmas.Bool.Decides.{eqb_tells}
use Rattle.cobs.specs.Frames.{NoZero, block, IsBlock, gap, AreRuns, spelled, joined, Frame, Shortest, part_from, part, after, missing}
use Rattle.cobs.proofs.EncodingLemmas.{nonzero_push, gap_full, gap_other}

-- what is decided goes on behind what was read
pub part_append : (left : ℕ) (owed : Bool) (p q : List ℕ) → part_from left owed (p ++ q) ≡ part_from left owed p ++ part_from (after left owed p).0 (after left owed p).1 q
part_append left owed [] q = refl
part_append zero owed (code ∷ p) q = ap (λ m. (if owed then (0 ∷ []) else []) ++ m) (part_append (pred code) (nat_lt code 255) p q) ∙ sym (append_assoc (if owed then (0 ∷ []) else []) _ _)
part_append (suc left) owed (byte ∷ p) q = ap (λ m. byte ∷ m) (part_append left owed p q)

pub after_append : (left : ℕ) (owed : Bool) (p q : List ℕ) → after left owed (p ++ q) ≡ after (after left owed p).0 (after left owed p).1 q
after_append left owed [] q = refl
after_append zero owed (code ∷ p) q = after_append (pred code) (nat_lt code 255) p q
after_append (suc left) owed (byte ∷ p) q = after_append left owed p q

-- what is decided is shorter
pub part_within : (left : ℕ) (owed : Bool) (p : List ℕ) → length (part_from left owed p) ≤ length p
part_within left owed [] = omega arith
part_within zero true (code ∷ p) = omega (arith, part_within (pred code) (nat_lt code 255) p)
part_within zero false (code ∷ p) = omega (arith, part_within (pred code) (nat_lt code 255) p)
part_within (suc left) owed (byte ∷ p) = omega (arith, part_within left owed p)

pub part_shorter : (p : List ℕ) → length (part p) ≤ length p - 1
part_shorter [] = omega arith
part_shorter (code ∷ p) = omega (arith, part_within (pred code) (nat_lt code 255) p)

-- a whole run, and what comes behind it
pub part_run : (run rest : List ℕ) (owed : Bool) → part_from (length run) owed (run ++ rest) ≡ run ++ part_from 0 owed rest
part_run [] rest owed = refl
part_run (x ∷ run) rest owed = ap (λ m. x ∷ m) (part_run run rest owed)

pub after_run : (run rest : List ℕ) (owed : Bool) → after (length run) owed (run ++ rest) ≡ after 0 owed rest
after_run [] rest owed = refl
after_run (x ∷ run) rest owed = after_run run rest owed

-- what a code owes
pub owes : (run : List ℕ) → IsBlock run → (if nat_lt (suc (length run)) 255 then (0 ∷ []) else []) ≡ gap run
owes run h = elim (eqb_tells (length run) 254) [
  | inl t ↦ rw (gap_full run t.1, le-ltb (suc (length run)) 255 (omega arith)) refl
  | inr t ↦ rw (gap_other run (omega (arith, h.0)), lt-ltb (suc (length run)) 255 (omega (arith, h.0))) refl
]

-- the zero that a code stands for too
abbrev pub zero_owed : Bool → List ℕ
zero_owed owed = if owed then (0 ∷ []) else []

-- the bytes of a frame decide its message, and end at a block's end
pub part_spelled : (run : List ℕ) (runs : List (List ℕ)) (owed : Bool) → AreRuns run runs → part_from 0 owed (spelled run runs) ≡ zero_owed owed ++ joined run runs
part_spelled run [] owed h =
    ap (λ m. zero_owed owed ++ m) (ap (part_from (length run) (nat_lt (suc (length run)) 255)) (sym (append-nil run)) ∙ part_run run [] _ ∙ append-nil run)
part_spelled run (next ∷ runs) owed h =
    ap (λ m. zero_owed owed ++ m) (part_run run (spelled next runs) _ ∙ ap (λ m. run ++ m) (part_spelled next runs _ h.1 ∙ ap (λ z. z ++ joined next runs) (owes run h.0)))

pub after_spelled : (run : List ℕ) (runs : List (List ℕ)) (owed : Bool) → AreRuns run runs → (after 0 owed (spelled run runs)).0 ≡ 0
after_spelled run [] owed h = ap (λ r. (after (length run) (nat_lt (suc (length run)) 255) r).0) (sym (append-nil run)) ∙ ap (λ a. a.0) (after_run run [] _)
after_spelled run (next ∷ runs) owed h = ap (λ a. a.0) (after_run run (spelled next runs) _) ∙ after_spelled next runs _ h.1

-- a frame has one message
pub frame_reads : (frame message : List ℕ) → Frame frame message → message ≡ part frame
frame_reads frame message f = f.reads ∙ sym (ap part f.spells ∙ part_spelled f.first f.others false f.runs)

-- a frame holds no zero
pub nonzero_append : (xs ys : List ℕ) → NoZero xs → NoZero ys → NoZero (xs ++ ys)
nonzero_append [] ys h k = k
nonzero_append (x ∷ xs) ys h k = (h.0, nonzero_append xs ys h.1 k)

pub spelled_nonzero : (run : List ℕ) (runs : List (List ℕ)) → AreRuns run runs → NoZero (spelled run runs)
spelled_nonzero run [] h = (omega arith, h.1)
spelled_nonzero run (next ∷ runs) h = (omega arith, nonzero_append run (spelled next runs) h.0.1 (spelled_nonzero next runs h.1))

pub frame_nonzero : (frame message : List ℕ) → Frame frame message → NoZero frame
frame_nonzero frame message f = subst NoZero (sym f.spells) (spelled_nonzero f.first f.others f.runs)

-- Bytes of a stretch that end at a block's end are a frame. Of the block that is open the run has come, and left bytes haven't.
abbrev pub Stretch : List ℕ → Type 0
Stretch bytes = AllByRecursion (λ x. (0 < x) × (x < 256)) bytes

record Blocks (bytes : List ℕ) : Type 0 where
  first : List ℕ
  others : List (List ℕ)
  runs : AreRuns first others
  spells : bytes ≡ spelled first others

last_block : (code : ℕ) (run : List ℕ) → IsBlock run → code ≡ suc (length run) → Blocks (code ∷ (run ++ []))
last_block code run h c = record {
  first = run;
  others = [];
  runs = h;
  spells = rw (append-nil run) (ap (λ c. c ∷ run) c);
}

one_more : (code : ℕ) (run bytes : List ℕ) → IsBlock run → code ≡ suc (length run) → Blocks bytes → Blocks (code ∷ (run ++ bytes))
one_more code run bytes h c b = record {
  first = run;
  others = b.first ∷ b.others;
  runs = (h, b.runs);
  spells = rw c (ap (λ f. block run ++ f) b.spells);
}

collect : (bytes : List ℕ) (left : ℕ) (owed : Bool) (code : ℕ) (run : List ℕ) → NoZero run → Stretch bytes → code ≤ 255 → code ≡ suc (length run + left) → (after left owed bytes).0 ≡ 0 → Blocks (code ∷ (run ++ bytes))
collect [] left owed code run n s l c e = last_block code run (omega arith, n) (omega arith)
collect (next ∷ bytes) zero owed code run n s l c e =
    one_more code run (next ∷ bytes) (omega arith, n) (omega arith)
    (collect bytes (pred next) (nat_lt next 255) next [] tt s.1 (omega (arith, s.0)) (omega (arith, s.0)) e)
collect (byte ∷ bytes) (suc left) owed code run n s l c e =
    rw (append_assoc run (byte ∷ []) bytes) at (collect bytes left owed code (run ++ byte ∷ []) (nonzero_push run byte n s.0.0) s.1 l (omega (arith, length_push run byte)) e)

pub stretch_frame : (bytes : List ℕ) → Stretch bytes → (bytes ≡ [] → ⊥) → missing bytes ≡ 0 → Frame bytes (part bytes)
stretch_frame [] s n e = absurd (n refl)
stretch_frame (code ∷ bytes) s n e =
    let b = collect bytes (pred code) (nat_lt code 255) code [] tt s.1 (omega (arith, s.0)) (omega (arith, s.0)) e in
    record {
      first = b.first;
      others = b.others;
      runs = b.runs;
      spells = b.spells;
      reads = ap part b.spells ∙ part_spelled b.first b.others false b.runs;
    }

-- and a frame ends there
pub frame_ends : (frame message : List ℕ) → Frame frame message → missing frame ≡ 0
frame_ends frame message f = ap missing f.spells ∙ after_spelled f.first f.others false f.runs

pub frame_of_shortest : (frame message : List ℕ) → Shortest frame message → Frame frame message
frame_of_shortest frame message s = s.is_frame

-- The shortest frame of a message: it is one, and the only one.
use Rattle.std.proofs.Common.{◌≡◌, ℕ, zero, suc, ◌+◌, ◌<◌, ◌≤◌, List, [], ◌∷◌, ◌++◌, length, inl, inr, refl, ap, sym, ◌∙◌, arith, append_assoc}
use Rattle.std.proofs.lemmas.List.{append-nil, length_push}
use Rattle.std.proofs.lemmas.Bool.{eq-eqb, ne_eqb}
use Rattle.std.proofs.lemmas.Bool.Decides.{eqb_tells}
use Rattle.cobs.specs.Frames.{NoZero, block, IsBlock, gap, AreRuns, spelled, joined, EndsShort, Shortest, shortest_from, shortest_frame}

pub nonzero_push : (xs : List ℕ) (x : ℕ) → NoZero xs → 0 < x → NoZero (xs ++ x ∷ [])
nonzero_push [] x h p = (p, tt)
nonzero_push (y ∷ xs) x h p = (h.0, nonzero_push xs x h.1 p)

-- a run that isn't full takes one more byte
pub run_push : (run : List ℕ) (x : ℕ) → IsBlock run → length run < 254 → 0 < x → IsBlock (run ++ x ∷ [])
run_push run x h l p = (omega (arith, length_push run x), nonzero_push run x h.1 p)

-- what follows a full run, and what follows another
pub gap_full : (run : List ℕ) → length run ≡ 254 → gap run ≡ []
gap_full run e = rw (eq-eqb (length run) 254 e) refl

pub gap_other : (run : List ℕ) → length run < 254 → gap run ≡ 0 ∷ []
gap_other run l = rw (ne_eqb (length run) 254 (λ e. omega arith)) refl

-- how the shortest frame goes on behind an open run
pub open_full : (run : List ℕ) (byte : ℕ) (bytes : List ℕ) → length run ≡ 254 → shortest_from run (byte ∷ bytes) ≡ block run ++ shortest_from [] (byte ∷ bytes)
open_full run byte bytes e = rw (eq-eqb (length run) 254 e) refl

pub open_zero : (run bytes : List ℕ) → length run < 254 → shortest_from run (0 ∷ bytes) ≡ block run ++ shortest_from [] bytes
open_zero run bytes l = rw (ne_eqb (length run) 254 (λ e. omega arith)) refl

pub open_more : (run : List ℕ) (byte : ℕ) (bytes : List ℕ) → length run < 254 → 0 < byte → shortest_from run (byte ∷ bytes) ≡ shortest_from (run ++ byte ∷ []) bytes
open_more run byte bytes l p = rw (ne_eqb (length run) 254 (λ e. omega arith), ne_eqb byte 0 (λ e. omega arith)) refl

-- where the rest has a byte, the last two blocks stay the last two
pub ends_full : (run next : List ℕ) (runs : List (List ℕ)) → EndsShort next runs → (joined next runs ≡ [] → ⊥) → EndsShort run (next ∷ runs)
ends_full run next [] h n = λ _ e. n e
ends_full run next (later ∷ runs) h n = h

pub ends_other : (run next : List ℕ) (runs : List (List ℕ)) → EndsShort next runs → length run < 254 → EndsShort run (next ∷ runs)
ends_other run next [] h l = λ e _. omega arith
ends_other run next (later ∷ runs) h l = h

-- one more block before a shortest frame
pub full_before : (run frame message : List ℕ) → IsBlock run → length run ≡ 254 → Shortest frame message → (message ≡ [] → ⊥) → Shortest (block run ++ frame) (run ++ message)
full_before run frame message h e s n =
    let f = s.is_frame in
    record {
      is_frame = record {
        first = run;
        others = f.first ∷ f.others;
        runs = (h, f.runs);
        spells = ap (λ b. block run ++ b) f.spells;
        reads = rw (gap_full run e) (ap (λ m. run ++ m) f.reads);
      };
      ends = ends_full run f.first f.others s.ends (λ z. n (f.reads ∙ z));
    }

pub other_before : (run frame message : List ℕ) → IsBlock run → length run < 254 → Shortest frame message → Shortest (block run ++ frame) (run ++ 0 ∷ message)
other_before run frame message h l s =
    let f = s.is_frame in
    record {
      is_frame = record {
        first = run;
        others = f.first ∷ f.others;
        runs = (h, f.runs);
        spells = ap (λ b. block run ++ b) f.spells;
        reads = rw (gap_other run l) (ap (λ m. run ++ 0 ∷ m) f.reads);
      };
      ends = ends_other run f.first f.others s.ends l;
    }

pub no_cons : {A : Type 0} (x : A) (xs : List A) → x ∷ xs ≡ [] → ⊥
no_cons x xs e = cc

-- the shortest frame of a message is one
pub shortest_is : (run bytes : List ℕ) → IsBlock run → Shortest (shortest_from run bytes) (run ++ bytes)
shortest_is run [] h = record { is_frame = record { first = run; others = []; runs = h; spells = refl; reads = append-nil run }; ends = tt }
shortest_is run (zero ∷ bytes) h =
    elim (eqb_tells (length run) 254) [
      | inl t ↦ rw (open_full run 0 bytes t.1) (full_before run _ _ h t.1 (other_before [] _ _ (omega arith, tt) (omega arith) (shortest_is [] bytes (omega arith, tt))) (no_cons 0 bytes))
      | inr t ↦ let l : length run < 254 = omega arith in rw (open_zero run bytes l) (other_before run _ _ h l (shortest_is [] bytes (omega arith, tt)))
    ]
shortest_is run (suc byte ∷ bytes) h =
    elim (eqb_tells (length run) 254) [
      | inl t ↦ rw (open_full run (suc byte) bytes t.1, open_more [] (suc byte) bytes (omega arith) (omega arith)) (full_before run _ _ h t.1 (shortest_is (suc byte ∷ []) bytes (omega arith, (omega arith, tt))) (no_cons (suc byte) bytes))
      | inr t ↦ let l : length run < 254 = omega arith in
          rw (open_more run (suc byte) bytes l (omega arith)) (rw (append_assoc run (suc byte ∷ []) bytes) at (shortest_is (run ++ suc byte ∷ []) bytes (run_push run (suc byte) h l (omega arith))))
    ]

-- a run of nonzero bytes goes onto an open run
pub open_run : (run bytes rest : List ℕ) → NoZero bytes → length run + length bytes ≤ 254 → shortest_from run (bytes ++ rest) ≡ shortest_from (run ++ bytes) rest
open_run run [] rest h l = rw (append-nil run) refl
open_run run (byte ∷ bytes) rest h l =
    open_more run byte (bytes ++ rest) (omega arith) h.0
    ∙ open_run (run ++ byte ∷ []) bytes rest h.1 (omega (arith, length_push run byte))
    ∙ ap (λ r. shortest_from r rest) (append_assoc run (byte ∷ []) bytes)

-- behind a full run comes what would come first
pub open_next : (run bytes : List ℕ) → length run ≡ 254 → (bytes ≡ [] → ⊥) → shortest_from run bytes ≡ block run ++ shortest_from [] bytes
open_next run [] e n = absurd (n refl)
open_next run (byte ∷ bytes) e n = open_full run byte bytes e

joined_none : (run : List ℕ) (runs : List (List ℕ)) → joined run runs ≡ [] → (run ≡ []) × (runs ≡ [])
joined_none [] [] e = (refl, refl)
joined_none [] (next ∷ runs) e = absurd (no_cons 0 (joined next runs) e)
joined_none (x ∷ run) [] e = absurd (no_cons _ _ e)
joined_none (x ∷ run) (next ∷ runs) e = absurd (no_cons _ _ e)

ends_tail : (run next : List ℕ) (runs : List (List ℕ)) → EndsShort run (next ∷ runs) → EndsShort next runs
ends_tail run next [] h = tt
ends_tail run next (later ∷ runs) h = h

has_byte : (run next : List ℕ) (runs : List (List ℕ)) → EndsShort run (next ∷ runs) → length run ≡ 254 → joined next runs ≡ [] → ⊥
has_byte run next [] h e z = h e z
has_byte run next (later ∷ runs) h e z = no_cons _ _ (joined_none next (later ∷ runs) z).1

-- the runs of a shortest frame are those of its message
pub shortest_of : (run : List ℕ) (runs : List (List ℕ)) → AreRuns run runs → EndsShort run runs → shortest_frame (joined run runs) ≡ spelled run runs
shortest_of run [] h s = ap (λ m. shortest_from [] m) (sym (append-nil run)) ∙ open_run [] run [] h.1 (omega (arith, h.0))
shortest_of run (next ∷ runs) h s =
    open_run [] run (gap run ++ joined next runs) h.0.1 (omega (arith, h.0.0))
    ∙ elim (eqb_tells (length run) 254) [
      | inl t ↦ rw (gap_full run t.1) (open_next run (joined next runs) t.1 (has_byte run next runs s t.1) ∙ ap (λ f. block run ++ f) (shortest_of next runs h.1 (ends_tail run next runs s)))
      | inr t ↦ let l : length run < 254 = omega arith in rw (gap_other run l) (open_zero run (joined next runs) l ∙ ap (λ f. block run ++ f) (shortest_of next runs h.1 (ends_tail run next runs s)))
    ]

-- a message has one shortest frame
pub shortest_is_frame : (message : List ℕ) → Shortest (shortest_frame message) message
shortest_is_frame message = shortest_is [] message (omega arith, tt)

pub shortest_one : (frame message : List ℕ) → Shortest frame message → frame ≡ shortest_frame message
shortest_one frame message s =
    let f = s.is_frame in
    f.spells ∙ sym (shortest_of f.first f.others f.runs s.ends) ∙ ap shortest_frame (sym f.reads)

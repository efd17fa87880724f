-- The longest frame of a message: it is one, and the only one.
use Rattle.std.proofs.Common.{◌≡◌, ℕ, zero, suc, ◌+◌, ◌<◌, List, [], ◌∷◌, ◌++◌, length, inl, inr, refl, ap, sym, ◌∙◌, arith, append_assoc}
use Rattle.std.proofs.lemmas.List.{append-nil, length_push}
use Rattle.std.proofs.lemmas.Bool.{eq-eqb, ne_eqb}
use Rattle.std.proofs.lemmas.Bool.Decides.{eqb_tells}
use Rattle.cobs.specs.Frames.{NoZero, block, IsBlock, gap, AreRuns, spelled, joined, EndsLong, Longest, longest_from, longest_frame}
use Rattle.cobs.proofs.EncodingLemmas.{run_push, gap_full, gap_other}

-- how the longest frame goes on behind an open run
pub long_full : (run : List ℕ) (byte : ℕ) (bytes : List ℕ) → length run ≡ 253 → 0 < byte → longest_from run (byte ∷ bytes) ≡ block (run ++ byte ∷ []) ++ longest_from [] bytes
long_full run byte bytes e p = rw (ne_eqb byte 0 (λ e. omega arith), eq-eqb (length run) 253 e) refl

pub long_more : (run : List ℕ) (byte : ℕ) (bytes : List ℕ) → length run < 253 → 0 < byte → longest_from run (byte ∷ bytes) ≡ longest_from (run ++ byte ∷ []) bytes
long_more run byte bytes l p = rw (ne_eqb byte 0 (λ e. omega arith), ne_eqb (length run) 253 (λ e. omega arith)) refl

block_before : (run frame message middle : List ℕ) → IsBlock run → gap run ≡ middle → Longest frame message → Longest (block run ++ frame) (run ++ (middle ++ message))
block_before run frame message middle h g s =
    let f = s.is_frame in
    record {
      is_frame = record {
        first = run;
        others = f.first ∷ f.others;
        runs = (h, f.runs);
        spells = ap (λ b. block run ++ b) f.spells;
        reads = rw g (ap (λ m. run ++ (middle ++ m)) f.reads);
      };
      ends = s.ends;
    }

pub longest_is : (run bytes : List ℕ) → IsBlock run → length run < 254 → Longest (longest_from run bytes) (run ++ bytes)
longest_is run [] h l = record { is_frame = record { first = run; others = []; runs = h; spells = refl; reads = append-nil run }; ends = l }
longest_is run (zero ∷ bytes) h l = block_before run _ _ (0 ∷ []) h (gap_other run l) (longest_is [] bytes (omega arith, tt) (omega arith))
longest_is run (suc byte ∷ bytes) h l =
    elim (eqb_tells (length run) 253) [
      | inl t ↦ let more = length_push run (suc byte) in
          rw (long_full run (suc byte) bytes t.1 (omega arith))
          (rw (append_assoc run (suc byte ∷ []) bytes) at
          (block_before (run ++ suc byte ∷ []) _ _ [] (run_push run (suc byte) h l (omega arith)) (gap_full _ (omega arith)) (longest_is [] bytes (omega arith, tt) (omega arith))))
      | inr t ↦ let more = length_push run (suc byte) in
          rw (long_more run (suc byte) bytes (omega arith) (omega arith))
          (rw (append_assoc run (suc byte ∷ []) bytes) at (longest_is (run ++ suc byte ∷ []) bytes (run_push run (suc byte) h l (omega arith)) (omega arith)))
    ]

-- a run of nonzero bytes goes onto an open run that it doesn't fill
pub long_run : (run bytes rest : List ℕ) → NoZero bytes → length run + length bytes < 254 → longest_from run (bytes ++ rest) ≡ longest_from (run ++ bytes) rest
long_run run [] rest h l = rw (append-nil run) refl
long_run run (byte ∷ bytes) rest h l =
    long_more run byte (bytes ++ rest) (omega arith) h.0
    ∙ long_run (run ++ byte ∷ []) bytes rest h.1 (omega (arith, length_push run byte))
    ∙ ap (λ r. longest_from r rest) (append_assoc run (byte ∷ []) bytes)

-- and one that it fills is closed
pub long_closed : (run bytes rest : List ℕ) → NoZero bytes → length run < 254 → length run + length bytes ≡ 254 → longest_from run (bytes ++ rest) ≡ block (run ++ bytes) ++ longest_from [] rest
long_closed run [] rest h s l = absurd (omega arith)
long_closed run (byte ∷ []) rest h s l = long_full run byte rest (omega arith) h.0
long_closed run (byte ∷ next ∷ bytes) rest h s l =
    long_more run byte (next ∷ (bytes ++ rest)) (omega arith) h.0
    ∙ long_closed (run ++ byte ∷ []) (next ∷ bytes) rest h.1 (omega (arith, length_push run byte)) (omega (arith, length_push run byte))
    ∙ ap (λ r. block r ++ longest_from [] rest) (append_assoc run (byte ∷ []) (next ∷ bytes))

pub longest_of : (run : List ℕ) (runs : List (List ℕ)) → AreRuns run runs → EndsLong run runs → longest_frame (joined run runs) ≡ spelled run runs
longest_of run [] h s = ap (λ m. longest_from [] m) (sym (append-nil run)) ∙ long_run [] run [] h.1 (omega arith)
longest_of run (next ∷ runs) h s =
    elim (eqb_tells (length run) 254) [
      | inl t ↦ rw (gap_full run t.1) (long_closed [] run (joined next runs) h.0.1 (omega arith) (omega arith) ∙ ap (λ f. block run ++ f) (longest_of next runs h.1 s))
      | inr t ↦ let l : length run < 254 = omega (arith, h.0.0) in rw (gap_other run l)
          (long_run [] run (0 ∷ joined next runs) h.0.1 (omega arith) ∙ ap (λ f. block run ++ f) (longest_of next runs h.1 s))
    ]

pub longest_is_frame : (message : List ℕ) → Longest (longest_frame message) message
longest_is_frame message = longest_is [] message (omega arith, tt) (omega arith)

pub longest_one : (frame message : List ℕ) → Longest frame message → frame ≡ longest_frame message
longest_one frame message s =
    let f = s.is_frame in
    f.spells ∙ sym (longest_of f.first f.others f.runs s.ends) ∙ ap longest_frame (sym f.reads)

-- A frame by its first block.
use Rattle.std.proofs.Common.{◌≡◌, ◌≢◌, ℕ, zero, suc, ◌+◌, ◌*◌, ◌<◌, List, [], ◌∷◌, ◌++◌, length, ◌⊎◌, inl, inr, refl, ap, sym, ◌∙◌, arith, subst, append_assoc}
use Rattle.std.proofs.lemmas.List.{length_push}
use Rattle.std.proofs.lemmas.Bool.{ne_eqb}
use Rattle.std.proofs.lemmas.Bool.Decides.{eqb_tells}
use Rattle.cobs.specs.Frames.{block, IsBlock, gap, AreRuns, spelled, joined, EndsShort, EndsLong, Frame, shortest_from, shortest_frame, longest_from, longest_frame}
use Rattle.cobs.specs.Cases.{OneBlock, MoreBlocks, trailing_from, trailing, FillsBlocks}
use Rattle.cobs.proofs.EncodingLemmas.{open_full, open_zero, open_more, no_cons, shortest_one}
use Rattle.cobs.proofs.LongerLemmas.{long_full, long_more, longest_one, longest_is_frame}

pub by_block : (frame message : List ℕ) → Frame frame message → OneBlock frame message ⊎ MoreBlocks frame message
by_block frame message f = split f.first f.others f.runs f.spells f.reads
  where
    split : (first : List ℕ) (others : List (List ℕ)) → AreRuns first others → frame ≡ spelled first others → message ≡ joined first others → OneBlock frame message ⊎ MoreBlocks frame message
    split first [] h s r = inl (subst IsBlock (sym r) h, s ∙ ap block (sym r))
    split first (next ∷ later) h s r = inr (first, spelled next later, joined next later, h.0, record { first = next; others = later; runs = h.1; spells = refl; reads = refl }, s, r)

pub from_block : (frame message : List ℕ) → OneBlock frame message ⊎ MoreBlocks frame message → Frame frame message
from_block frame message (inl o) = record { first = message; others = []; runs = o.0; spells = o.1; reads = refl }
from_block frame message (inr (run, g, h, k, f, s, r)) = record {
  first = run;
  others = f.first ∷ f.others;
  runs = (k, f.runs);
  spells = s ∙ ap (λ x. block run ++ x) f.spells;
  reads = r ∙ ap (λ x. run ++ (gap run ++ x)) f.reads;
}

-- how the longest frame differs from the shortest one behind an open run: what ends in a full run has a block 01 more
abbrev Differs : ℕ → List ℕ → List ℕ → Type 0
Differs n short long = (FillsBlocks n × (long ≡ short ++ 1 ∷ [])) ⊎ ((FillsBlocks n → ⊥) × (long ≡ short))

differs_behind : (n : ℕ) (front short long : List ℕ) → Differs n short long → Differs n (front ++ short) (front ++ long)
differs_behind n front short long (inl (f, e)) = inl (f, ap (λ x. front ++ x) e ∙ sym (append_assoc front short (1 ∷ [])))
differs_behind n front short long (inr (f, e)) = inr (f, ap (λ x. front ++ x) e)

trailing_byte : (n byte : ℕ) (bytes : List ℕ) → trailing_from n (suc byte ∷ bytes) ≡ trailing_from (suc n) bytes
trailing_byte n byte bytes = rw (ne_eqb (suc byte) 0 (λ e. omega arith)) refl

none_full : FillsBlocks 0 → ⊥
none_full (k, e) = omega arith

differs : (run bytes : List ℕ) (k n : ℕ) → length run < 254 → n ≡ 254 * k + length run → (bytes ≡ [] → FillsBlocks n → ⊥) → Differs (trailing_from n bytes) (shortest_from run bytes) (longest_from run bytes)
differs run [] k n l e h = inr (h refl, refl)
differs run (zero ∷ bytes) k n l e h =
    rw (open_zero run bytes l) (differs_behind (trailing_from 0 bytes) (block run) _ _ (differs [] bytes 0 0 (omega arith) (omega arith) (λ _ f. none_full f)))
differs run (suc byte ∷ []) k n l e h =
    rw (trailing_byte n byte []) (elim (eqb_tells (length run) 253) [
      | inl t ↦ rw (open_more run (suc byte) [] l (omega arith), long_full run (suc byte) [] t.1 (omega arith)) (inl ((k, omega arith), refl))
      | inr t ↦ rw (open_more run (suc byte) [] l (omega arith), long_more run (suc byte) [] (omega arith) (omega arith)) (inr (λ (j, f). absurd (omega arith), refl))
    ])
differs run (suc byte ∷ next ∷ bytes) k n l e h =
    let longer : length (run ++ suc byte ∷ []) ≡ length run + 1 = length_push run (suc byte) in
    rw (trailing_byte n byte (next ∷ bytes)) (elim (eqb_tells (length run) 253) [
      | inl t ↦ rw (open_more run (suc byte) (next ∷ bytes) l (omega arith), long_full run (suc byte) (next ∷ bytes) t.1 (omega arith), open_full (run ++ suc byte ∷ []) next bytes (omega arith))
          (differs_behind (trailing_from (suc n) (next ∷ bytes)) (block (run ++ suc byte ∷ [])) _ _ (differs [] (next ∷ bytes) (suc k) (suc n) (omega arith) (omega arith) (λ z _. no_cons next bytes z)))
      | inr t ↦ rw (open_more run (suc byte) (next ∷ bytes) l (omega arith), long_more run (suc byte) (next ∷ bytes) (omega arith) (omega arith))
          (differs (run ++ suc byte ∷ []) (next ∷ bytes) k (suc n) (omega arith) (omega arith) (λ z _. no_cons next bytes z))
    ])

pub frames_differ : (message : List ℕ) → Differs (trailing message) (shortest_frame message) (longest_frame message)
frames_differ message = differs [] message 0 0 (omega arith) (omega arith) (λ _ g. none_full g)

-- each frame is the shortest or the longest
ends_either : (run : List ℕ) (runs : List (List ℕ)) → AreRuns run runs → EndsShort run runs ⊎ EndsLong run runs
ends_either run [] h = inl tt
ends_either run (next ∷ []) h = elim (eqb_tells (length next) 254) [
  | inl t ↦ inl (λ _ z. absurd (omega (arith, t.1, ap length z)))
  | inr t ↦ inr (omega (arith, h.1.0))
]
ends_either run (next ∷ later ∷ runs) h = ends_either next (later ∷ runs) h.1

either_frame : (frame message : List ℕ) → Frame frame message → (frame ≡ shortest_frame message) ⊎ (frame ≡ longest_frame message)
either_frame frame message f = elim (ends_either f.first f.others f.runs) [
  | inl s ↦ inl (shortest_one frame message (record { is_frame = f; ends = s }))
  | inr l ↦ inr (longest_one frame message (record { is_frame = f; ends = l }))
]

no_longer : (xs : List ℕ) (x : ℕ) → xs ++ x ∷ [] ≡ xs → ⊥
no_longer xs x e = omega (arith, length_push xs x, ap length e)

-- another frame than the shortest one has a block 01 more
pub other_is : (frame message : List ℕ) → Frame frame message → frame ≢ shortest_frame message → FillsBlocks (trailing message) × (frame ≡ shortest_frame message ++ 1 ∷ [])
other_is frame message f n = elim (either_frame frame message f) [
  | inl s ↦ absurd (n s)
  | inr l ↦ elim (frames_differ message) [
    | inl d ↦ (d.0, l ∙ d.1)
    | inr d ↦ absurd (n (l ∙ d.1))
  ]
]

-- and there is one
pub other_from : (frame message : List ℕ) → FillsBlocks (trailing message) → frame ≡ shortest_frame message ++ 1 ∷ [] → Frame frame message × (frame ≢ shortest_frame message)
other_from frame message f e = (
  elim (frames_differ message) [
    | inl d ↦ subst (λ x. Frame x message) (d.1 ∙ sym e) (longest_is_frame message).is_frame
    | inr d ↦ absurd (d.0 f)
  ],
  λ s. no_longer (shortest_frame message) 1 (sym e ∙ s),
)

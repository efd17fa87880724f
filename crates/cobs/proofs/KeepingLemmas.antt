-- How a kept buffer goes on.
use Rattle.std.proofs.Common.{◌≡◌, ℕ, suc, ◌+◌, ◌<◌, List, [], ◌∷◌, ◌++◌, length, take, drop, set, get_or, ap, sym, ◌∙◌, arith, append_assoc, length-drop}
use Rattle.std.proofs.lemmas.List.{append-nil, length_push, take-append-drop, take_at, set_at, drop_more, length-take-le, length-set, drop_all}
use Rattle.cobs.specs.Frames.{block, longest_from, longest_frame}
use Rattle.cobs.specs.Kept.{KeepsAt}
use Rattle.cobs.proofs.LongerLemmas.{long_full}

-- the buffer is closed blocks, a placeholder and a run
pub record Open (buffer : List ℕ) (code_at code : ℕ) (closed run : List ℕ) (holder : ℕ) : Type 0 where
  pub spells : buffer ≡ closed ++ (holder ∷ run)
  pub closes : code_at ≡ length closed
  pub counts : code ≡ suc (length run)

pub open_of : (buffer : List ℕ) (code_at code : ℕ) → length buffer ≡ code_at + code → 0 < code → Open buffer code_at code (take code_at buffer) (drop (code_at + 1) buffer) (get_or buffer code_at 0)
open_of buffer code_at code l p = record {
  spells = sym (take-append-drop code_at buffer) ∙ ap (λ d. take code_at buffer ++ d) (drop_more buffer code_at 0 (omega arith));
  closes = sym (length-take-le code_at buffer (omega arith));
  counts = simp length-drop (omega arith);
}

-- the last code is set
pub open_set : (buffer : List ℕ) (code_at code : ℕ) (closed run : List ℕ) (holder value : ℕ) → Open buffer code_at code closed run holder → set buffer code_at value ≡ closed ++ (value ∷ run)
open_set buffer code_at code closed run holder value o = rw o.spells (set_at closed holder run value code_at (sym o.closes))

-- a zero ends the block
pub kept_zero : (holder code_at code : ℕ) (buffer message : List ℕ) → 0 < code → KeepsAt code_at code buffer message → KeepsAt (code_at + code) 1 (set buffer code_at code ++ holder ∷ []) (message ++ 0 ∷ [])
kept_zero holder code_at code buffer message p k =
    let o = open_of buffer code_at code k.long p in
    let long : length (set buffer code_at code) ≡ code_at + code = length-set buffer code_at code ∙ k.long in
    let front : take (code_at + code) (set buffer code_at code ++ holder ∷ []) ≡ take code_at buffer ++ block (drop (code_at + 1) buffer) =
    take_at (set buffer code_at code) (holder ∷ []) (code_at + code) long ∙ open_set buffer code_at code _ _ _ code o ∙ ap (λ n. take code_at buffer ++ (n ∷ drop (code_at + 1) buffer)) o.counts in
    let back : drop ((code_at + code) + 1) (set buffer code_at code ++ holder ∷ []) ≡ [] = drop_all ((code_at + code) + 1) (set buffer code_at code ++ holder ∷ []) (omega (arith, length_push (set buffer code_at code) holder)) in
    record {
      within = omega (arith, length_push (set buffer code_at code) holder);
      long = omega (arith, length_push (set buffer code_at code) holder);
      goes_on = λ more. ap longest_frame (append_assoc message (0 ∷ []) more) ∙ k.goes_on (0 ∷ more)
          ∙ sym (append_assoc (take code_at buffer) (block (drop (code_at + 1) buffer)) (longest_from [] more))
          ∙ ap (λ f. f ++ longest_from [] more) (sym front) ∙ ap (λ r. take (code_at + code) (set buffer code_at code ++ holder ∷ []) ++ longest_from r more) (sym back);
    }

-- a byte fills the block
pub kept_full : (holder code_at byte : ℕ) (buffer message : List ℕ) → 0 < byte → KeepsAt code_at 254 buffer message → KeepsAt (code_at + 255) 1 (set buffer code_at 255 ++ byte ∷ holder ∷ []) (message ++ byte ∷ [])
kept_full holder code_at byte buffer message p k =
    let o = open_of buffer code_at 254 k.long (omega arith) in
    let run = drop (code_at + 1) buffer in
    let long : length (set buffer code_at 255) ≡ code_at + 254 = length-set buffer code_at 255 ∙ k.long in
    let more_run : length (run ++ byte ∷ []) ≡ length run + 1 = length_push run byte in
    let full : suc (length (run ++ byte ∷ [])) ≡ 255 = omega (arith, o.counts) in
    let split : set buffer code_at 255 ++ byte ∷ holder ∷ [] ≡ (set buffer code_at 255 ++ byte ∷ []) ++ holder ∷ [] = sym (append_assoc (set buffer code_at 255) (byte ∷ []) (holder ∷ [])) in
    let longer : length (set buffer code_at 255 ++ byte ∷ []) ≡ code_at + 255 = length_push (set buffer code_at 255) byte ∙ omega arith in
    let front : take (code_at + 255) (set buffer code_at 255 ++ byte ∷ holder ∷ []) ≡ take code_at buffer ++ block (run ++ byte ∷ []) =
    ap (take (code_at + 255)) split ∙ take_at (set buffer code_at 255 ++ byte ∷ []) (holder ∷ []) (code_at + 255) longer
    ∙ ap (λ f. f ++ byte ∷ []) (open_set buffer code_at 254 _ _ _ 255 o) ∙ append_assoc (take code_at buffer) (255 ∷ run) (byte ∷ []) ∙ ap (λ n. take code_at buffer ++ (n ∷ (run ++ byte ∷ []))) (sym full) in
    let longest : length (set buffer code_at 255 ++ byte ∷ holder ∷ []) ≡ code_at + 256 = ap length split ∙ length_push (set buffer code_at 255 ++ byte ∷ []) holder ∙ omega arith in
    let back : drop ((code_at + 255) + 1) (set buffer code_at 255 ++ byte ∷ holder ∷ []) ≡ [] = drop_all ((code_at + 255) + 1) (set buffer code_at 255 ++ byte ∷ holder ∷ []) (omega arith) in
    record {
      within = omega arith;
      long = omega arith;
      goes_on = λ more. ap longest_frame (append_assoc message (byte ∷ []) more) ∙ k.goes_on (byte ∷ more)
          ∙ ap (λ f. take code_at buffer ++ f) (long_full run byte more (omega (arith, o.counts)) p)
          ∙ sym (append_assoc (take code_at buffer) (block (run ++ byte ∷ [])) (longest_from [] more))
          ∙ ap (λ f. f ++ longest_from [] more) (sym front) ∙ ap (λ r. take (code_at + 255) (set buffer code_at 255 ++ byte ∷ holder ∷ []) ++ longest_from r more) (sym back);
    }

-- the end
pub kept_end : (code_at code : ℕ) (buffer message : List ℕ) → 0 < code → KeepsAt code_at code buffer message → set buffer code_at code ≡ longest_frame message
kept_end code_at code buffer message p k =
    let o = open_of buffer code_at code k.long p in
    open_set buffer code_at code _ _ _ code o ∙ ap (λ n. take code_at buffer ++ (n ∷ drop (code_at + 1) buffer)) o.counts
    ∙ sym (k.goes_on []) ∙ ap longest_frame (append-nil message)

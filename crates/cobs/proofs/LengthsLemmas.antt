-- How long the shortest frame of a message is.
use Rattle.std.proofs.Common.{◌≡◌, ◌≢◌, ℕ, zero, suc, ◌+◌, ◌-◌, ◌*◌, ◌<◌, ◌≤◌, if◌then◌else◌, true, List, [], ◌∷◌, ◌++◌, length, inl, inr, refl, ap, sym, ◌∙◌, arith, length-append, subst, take, drop, get_or, ◌==◌, add-one, length-drop}
use Rattle.std.proofs.lemmas.List.{length_push, length-replicate, length-take-le, get_or-take}
use Rattle.std.proofs.Math.ListN.{replicate}
use Rattle.std.proofs.lemmas.Bool.{eq-eqb, ne_eqb, eqb-true}
use Rattle.std.proofs.lemmas.Bool.Decides.{eqb_tells}
use Rattle.cobs.specs.Frames.{NoZero, block, shortest_from, shortest_frame, most_length}
use Rattle.cobs.proofs.EncodingLemmas.{open_full, open_zero, open_more}

-- what holds of each way to go on holds of the frame
pub by_byte : (P : ℕ → Type 0) (run : List ℕ) (byte : ℕ) (bytes : List ℕ) → length run ≤ 254
    → (length run ≡ 254 → byte ≡ 0 → P (suc (length run) + suc (length (shortest_from [] bytes))))
    → (length run ≡ 254 → 0 < byte → P (suc (length run) + length (shortest_from (byte ∷ []) bytes)))
    → (length run < 254 → byte ≡ 0 → P (suc (length run) + length (shortest_from [] bytes)))
    → (length run < 254 → 0 < byte → P (length (shortest_from (run ++ byte ∷ []) bytes)))
    → P (length (shortest_from run (byte ∷ bytes)))
by_byte P run zero bytes l a b c d = elim (eqb_tells (length run) 254) [
  | inl t ↦ subst P (sym (ap length (open_full run 0 bytes t.1) ∙ length-append (block run) _)) (a t.1 refl)
  | inr t ↦ let s : length run < 254 = omega arith in subst P (sym (ap length (open_zero run bytes s) ∙ length-append (block run) _)) (c s refl)
]
by_byte P run (suc byte) bytes l a b c d = elim (eqb_tells (length run) 254) [
  | inl t ↦ subst P (sym (ap length (open_full run (suc byte) bytes t.1) ∙ length-append (block run) _ ∙ ap (λ f. suc (length run) + length f) (open_more [] (suc byte) bytes (omega arith) (omega arith)))) (b t.1 (omega arith))
  | inr t ↦ let s : length run < 254 = omega arith in subst P (sym (ap length (open_more run (suc byte) bytes s (omega arith)))) (d s (omega arith))
]

pub least_length : (run bytes : List ℕ) → length run ≤ 254 → length run + length bytes + 1 ≤ length (shortest_from run bytes)
least_length run [] l = omega arith
least_length run (byte ∷ bytes) l = by_byte (λ n. length run + suc (length bytes) + 1 ≤ n) run byte bytes l
    (λ e z. omega (arith, least_length [] bytes (omega arith)))
    (λ e p. omega (arith, least_length (byte ∷ []) bytes (omega arith)))
    (λ e z. omega (arith, least_length [] bytes (omega arith)))
    (λ e p. omega (arith, length_push run byte, least_length (run ++ byte ∷ []) bytes (omega (arith, length_push run byte))))

-- each full block before the last one holds 254 bytes of the message, and a byte comes behind it
pub most_longest : (run bytes : List ℕ) → length run ≤ 254
    → 254 * length (shortest_from run bytes) ≤ 254 * (length run + length bytes) + 254 + (length run + length bytes - 1)
most_longest run [] l = omega arith
most_longest run (byte ∷ bytes) l = by_byte (λ n. 254 * n ≤ 254 * (length run + suc (length bytes)) + 254 + (length run + suc (length bytes) - 1)) run byte bytes l
    (λ e z. omega (arith, most_longest [] bytes (omega arith)))
    (λ e p. omega (arith, most_longest (byte ∷ []) bytes (omega arith)))
    (λ e z. omega (arith, most_longest [] bytes (omega arith)))
    (λ e p. omega (arith, length_push run byte, most_longest (run ++ byte ∷ []) bytes (omega (arith, length_push run byte))))

-- a longer message has no shorter frame
pub longer_by : (run bytes more : List ℕ) → length run ≤ 254 → length (shortest_from run bytes) + length more ≤ length (shortest_from run (bytes ++ more))
longer_by run [] more l = omega (arith, least_length run more l)
longer_by run (byte ∷ bytes) more l =
    by_byte (λ n. n + length more ≤ length (shortest_from run (byte ∷ (bytes ++ more)))) run byte bytes l
    (λ e z. by_byte (λ n. suc (length run) + suc (length (shortest_from [] bytes)) + length more ≤ n) run byte (bytes ++ more) l
    (λ _ _. omega (arith, longer_by [] bytes more (omega arith))) (λ _ p. absurd (omega arith)) (λ s _. absurd (omega arith)) (λ s _. absurd (omega arith)))
    (λ e p. by_byte (λ n. suc (length run) + length (shortest_from (byte ∷ []) bytes) + length more ≤ n) run byte (bytes ++ more) l
    (λ _ z. absurd (omega arith)) (λ _ _. omega (arith, longer_by (byte ∷ []) bytes more (omega arith))) (λ s _. absurd (omega arith)) (λ s _. absurd (omega arith)))
    (λ s z. by_byte (λ n. suc (length run) + length (shortest_from [] bytes) + length more ≤ n) run byte (bytes ++ more) l
    (λ e _. absurd (omega arith)) (λ e _. absurd (omega arith)) (λ _ _. omega (arith, longer_by [] bytes more (omega arith))) (λ _ p. absurd (omega arith)))
    (λ s p. by_byte (λ n. length (shortest_from (run ++ byte ∷ []) bytes) + length more ≤ n) run byte (bytes ++ more) l
    (λ e _. absurd (omega arith)) (λ e _. absurd (omega arith)) (λ _ z. absurd (omega arith)) (λ _ _. longer_by (run ++ byte ∷ []) bytes more (omega (arith, length_push run byte))))

pub frame_at_least : (message : List ℕ) → length message + 1 ≤ length (shortest_frame message)
frame_at_least message = omega (arith, least_length [] message (omega arith))

pub frame_at_most : (message : List ℕ) → length (shortest_frame message) ≤ most_length (length message)
frame_at_most message = omega (arith, most_longest [] message (omega arith))

-- without a zero each block but the last one is full
reaches : (run bytes : List ℕ) → length run ≤ 254 → NoZero bytes → 255 * (length run + length bytes) ≤ 254 * length (shortest_from run bytes)
reaches run [] l h = omega arith
reaches run (byte ∷ bytes) l h = by_byte (λ n. 255 * (length run + suc (length bytes)) ≤ 254 * n) run byte bytes l
    (λ e z. absurd (omega (arith, h.0)))
    (λ e p. omega (arith, reaches (byte ∷ []) bytes (omega arith) h.1))
    (λ e z. absurd (omega (arith, h.0)))
    (λ e p. omega (arith, length_push run byte, reaches (run ++ byte ∷ []) bytes (omega (arith, length_push run byte)) h.1))

pub frame_reaches : (message : List ℕ) → NoZero message → length (shortest_frame message) ≡ most_length (length message)
frame_reaches message h = omega (arith, reaches [] message (omega arith) h, frame_at_least message, frame_at_most message)

pub frame_grows : (message more : List ℕ) → length (shortest_frame message) + length more ≤ length (shortest_frame (message ++ more))
frame_grows message more = longer_by [] message more (omega arith)

-- The length goes by how long the open run is.
abbrev pub length_from : ℕ → List ℕ → ℕ
length_from run [] = suc run
length_from run (byte ∷ bytes) =
    if run == 254
    then (if byte == 0 then 256 + length_from 0 bytes else 255 + length_from 1 bytes)
    else (if byte == 0 then suc run + length_from 0 bytes else length_from (suc run) bytes)

pub length_is : (run bytes : List ℕ) → length run ≤ 254 → length (shortest_from run bytes) ≡ length_from (length run) bytes
length_is run [] l = refl
length_is run (byte ∷ bytes) l = by_byte (λ n. n ≡ length_from (length run) (byte ∷ bytes)) run byte bytes l
    (λ e z. rw (eq-eqb (length run) 254 e, eq-eqb byte 0 z) (omega (arith, length_is [] bytes (omega arith))))
    (λ e p. rw (eq-eqb (length run) 254 e, ne_eqb byte 0 (λ z. omega arith)) (omega (arith, length_is (byte ∷ []) bytes (omega arith))))
    (λ s z. rw (ne_eqb (length run) 254 (λ e. omega arith), eq-eqb byte 0 z) (omega (arith, length_is [] bytes (omega arith))))
    (λ s p. rw (ne_eqb (length run) 254 (λ e. omega arith), ne_eqb byte 0 (λ z. omega arith))
    (length_is (run ++ byte ∷ []) bytes (omega (arith, length_push run byte)) ∙ ap (λ n. length_from n bytes) (length_push run byte ∙ add-one (length run))))

-- a byte more
pub length_full : (byte run : ℕ) (bytes : List ℕ) → run ≡ 254 → length_from run (byte ∷ bytes) ≡ 255 + length_from 0 (byte ∷ bytes)
length_full byte run bytes e = rw e (elim (eqb_tells byte 0) [ inl t ↦ rw t.0 (omega arith) | inr t ↦ rw t.0 refl ])

pub frame_length : (message : List ℕ) → length (shortest_frame message) ≡ length_from 0 message
frame_length message = length_is [] message (omega arith)

pub least_from : (run : ℕ) (bytes : List ℕ) → run ≤ 254 → run + length bytes + 1 ≤ length_from run bytes
least_from run bytes l =
    let ones : List ℕ = replicate run 1 in
    let long : length ones ≡ run = length-replicate {A = ℕ} run 1 in
    let same : length_from (length ones) bytes ≡ length_from run bytes = ap (λ n. length_from n bytes) long in
    omega (arith, least_length ones bytes (omega arith), length_is ones bytes (omega arith))

-- bytes that fit the open run
length_short : (run : ℕ) (bytes : List ℕ) → run + length bytes ≤ 254 → length_from run bytes ≡ run + length bytes + 1
length_short run [] l = omega arith
length_short run (byte ∷ bytes) l = elim (eqb_tells byte 0) [
  | inl t ↦ rw (ne_eqb run 254 (λ e. omega arith), t.0) (omega (arith, length_short 0 bytes (omega arith)))
  | inr t ↦ rw (ne_eqb run 254 (λ e. omega arith), t.0) (omega (arith, length_short (suc run) bytes (omega arith)))
]

-- behind a zero the open run is empty
length_at_zero : (run : ℕ) (bytes : List ℕ) (i : ℕ) → i < length bytes → run + i < 254 → get_or bytes i 0 ≡ 0 → length_from run bytes ≡ run + suc i + length_from 0 (drop (suc i) bytes)
length_at_zero run [] i l s z = absurd (omega arith)
length_at_zero run (byte ∷ bytes) zero l s z = rw (ne_eqb run 254 (λ e. omega arith), eq-eqb byte 0 z) (omega arith)
length_at_zero run (byte ∷ bytes) (suc i) l s z = elim (eqb_tells byte 0) [
  | inl t ↦ rw (ne_eqb run 254 (λ e. omega arith), t.0) (omega (arith, length_at_zero 0 bytes i (omega arith) (omega arith) z))
  | inr t ↦ rw (ne_eqb run 254 (λ e. omega arith), t.0) (omega (arith, length_at_zero (suc run) bytes i (omega arith) (omega arith) z))
]

-- behind a full run a block opens
length_at_full : (run : ℕ) (bytes : List ℕ) (i : ℕ) → i < length bytes → run + i ≡ 254 → ((k : ℕ) → k < i → get_or bytes k 0 ≢ 0) → length_from run bytes ≡ 255 + length_from 0 (drop i bytes)
length_at_full run [] i l e h = absurd (omega arith)
length_at_full run (byte ∷ bytes) zero l e h = length_full byte run bytes (omega arith)
length_at_full run (byte ∷ bytes) (suc i) l e h =
    rw (ne_eqb run 254 (λ f. omega arith), ne_eqb byte 0 (h 0 (omega arith)))
    (length_at_full (suc run) bytes i (omega arith) (omega arith) (λ k b. h (suc k) (omega arith)))

-- The count of a frame's length: bytes in front were counted, and so many full runs, each with a byte behind it.
pub record Counted (source : List ℕ) (full_runs : ℕ) (rest : List ℕ) : Type 0 where
  pub within : length rest ≤ length source
  pub sum : length source + full_runs + length_from 0 rest ≡ length (shortest_frame source) + length rest

pub counted_none : (source : List ℕ) → Counted source 0 source
counted_none source = record { within = omega arith; sum = omega (arith, frame_length source) }

-- the last zero of the next 254 bytes
pub counted_zero : (source : List ℕ) (full_runs : ℕ) (rest run : List ℕ) (i : ℕ) → 254 < length rest → run ≡ take 254 rest → i < length run → (get_or run i 0 == 0) ≡ true → Counted source full_runs rest → Counted source full_runs (drop (i + 1) rest)
counted_zero source full_runs rest run i l e s z c =
    let few : length run ≡ 254 = ap length e ∙ length-take-le 254 rest (omega arith) in
    let there : get_or rest i 0 ≡ 0 = sym (get_or-take 254 rest i 0 (omega arith)) ∙ ap (λ x. get_or x i 0) (sym e) ∙ eqb-true _ _ z in
    rw (add-one i) (record {
      within = omega (arith, c.within, length-drop (suc i) rest);
      sum = omega (arith, c.sum, length-drop (suc i) rest, length_at_zero 0 rest i (omega arith) (omega arith) there);
    })

-- none of them is zero
pub counted_full : (source : List ℕ) (full_runs : ℕ) (rest run : List ℕ) → 254 < length rest → run ≡ take 254 rest → ((k : ℕ) → k < length run → (get_or run k 0 == 0) ≡ true → ⊥) → Counted source full_runs rest → Counted source (full_runs + 1) (drop 254 rest)
counted_full source full_runs rest run l e h c =
    let few : length run ≡ 254 = ap length e ∙ length-take-le 254 rest (omega arith) in
    let none : (k : ℕ) → k < 254 → get_or rest k 0 ≢ 0 = λ k b z. h k (omega arith) (eq-eqb _ _ (ap (λ x. get_or x k 0) e ∙ get_or-take 254 rest k 0 b ∙ z)) in
    record {
      within = omega (arith, c.within, length-drop 254 rest);
      sum = omega (arith, c.sum, length-drop 254 rest, length_at_full 0 rest 254 l (omega arith) none);
    }

pub counted_few : (source : List ℕ) (full_runs : ℕ) (rest : List ℕ) → Counted source full_runs rest → full_runs + length source < length (shortest_frame source)
counted_few source full_runs rest c = omega (arith, c.sum, least_from 0 rest (omega arith))

pub counted_all : (source : List ℕ) (full_runs : ℕ) (rest : List ℕ) → length rest ≤ 254 → Counted source full_runs rest → length source + 1 + full_runs ≡ length (shortest_frame source)
counted_all source full_runs rest l c = omega (arith, c.sum, length_short 0 rest (omega arith))

-- How long the frame of a counted message is.
use Rattle.std.proofs.Common.{◌≡◌, ◌≢◌, ℕ, zero, suc, ◌+◌, ◌/◌, ◌<◌, ◌≤◌, ◌^◌, List, [], ◌∷◌, ◌++◌, length, take, drop, get_or, inl, inr, refl, sym, ap, ◌∙◌, subst, arith, append_assoc}
use Rattle.std.proofs.lemmas.Bool.{cases_eq, cases_lt, eq-eqb, ne_eqb, lt-ltb, le-ltb}
use Rattle.std.proofs.lemmas.List.{length-append, length_push, take-append-drop, drop_more, length-take-le}
use Rattle.cobs.specs.Frames.{NoZero, block, shortest_from, shortest_frame, most_length}
use Rattle.cobs.specs.FrameLaws.{IsWithinLengths, ReachesMostLength}
use Rattle.postcard_tree.specs.Tree.{Tree, number, text_of, IsTree}
use Rattle.postcard_tree.specs.Spelling.{Spells, short, varint, groups_of}
use Rattle.postcard_tree.specs.Texts.{short_text}
use Rattle.link.specs.Lemmas.MaskLaws.{NoZero-append}

-- how the shortest frame goes on behind an open run
open_full : (run : List ℕ) (byte : ℕ) (bytes : List ℕ) → length run ≡ 254 → shortest_from run (byte ∷ bytes) ≡ block run ++ shortest_from [] (byte ∷ bytes)
open_full run byte bytes e = rw (eq-eqb (length run) 254 e) refl

open_zero : (run bytes : List ℕ) → length run < 254 → shortest_from run (0 ∷ bytes) ≡ block run ++ shortest_from [] bytes
open_zero run bytes l = rw (ne_eqb (length run) 254 (λ e. omega arith)) refl

open_more : (run : List ℕ) (byte : ℕ) (bytes : List ℕ) → length run < 254 → 0 < byte → shortest_from run (byte ∷ bytes) ≡ shortest_from (run ++ byte ∷ []) bytes
open_more run byte bytes l p = rw (ne_eqb (length run) 254 (λ e. omega arith), ne_eqb byte 0 (λ e. omega arith)) refl

closed : (run frame : List ℕ) → length (block run ++ frame) ≡ length run + 1 + length frame
closed run frame = omega (arith, length-append (block run) frame)

-- A run without zeros, a zero and what is behind it: each full block of the run costs a code, and what is behind begins anew.
run_length : (run r m : List ℕ) → length run ≤ 254 → NoZero r
    → length (shortest_from run (r ++ 0 ∷ m)) ≡ length run + length r + 1 + (length run + length r) / 254 + length (shortest_frame m)
run_length run [] m l z = elim (cases_eq (length run) 254) [
  | inl e ↦ omega (arith, e, ap length (open_full run 0 m e), closed run (shortest_from [] (0 ∷ m)), ap length (open_zero [] m (omega arith)), closed [] (shortest_from [] m))
  | inr n ↦ let s : length run < 254 = omega (arith, l, n) in omega (arith, s, ap length (open_zero run m s), closed run (shortest_from [] m))
]
run_length run (byte ∷ r) m l z = elim (cases_eq (length run) 254) [
  | inl e ↦
      let x = r ++ 0 ∷ m in
      omega (arith, e, ap length (open_full run byte x e), closed run (shortest_from [] (byte ∷ x)), ap length (open_more [] byte x (omega arith) z.0), run_length (byte ∷ []) r m (omega arith) z.1)
  | inr n ↦
      let s : length run < 254 = omega (arith, l, n) in
      omega (arith, s, ap length (open_more run byte (r ++ 0 ∷ m) s z.0), length_push run byte, run_length (run ++ byte ∷ []) r m (omega (arith, s, length_push run byte)) z.1)
]

-- no byte of a count is zero, but of that of nothing
groups_nonzero : (more n : ℕ) → 0 < n → NoZero (groups_of more n)
groups_nonzero zero n p = (p, tt)
groups_nonzero (suc more) n p = elim (cases_lt n 128) [
  | inl l ↦ rw (lt-ltb n 128 l) (p, tt)
  | inr g ↦ rw (le-ltb n 128 g) (omega arith, groups_nonzero more (n / 128) (omega (arith, g)))
]

count_nonzero : (n : ℕ) → 0 < n → NoZero (varint n)
unfolding varint
count_nonzero n p = groups_nonzero 18 n p

-- a count has ten bytes at most
pub count_most : ((t : Tree) → IsTree t → Spells t (short t)) → (n : ℕ) → n < 2 ^ 64 → length (varint n) ≤ 10
unfolding Spells
count_most spells n l = (spells (number 64 n) (inr (inr (inl refl)), l)).within

-- the bytes before the first zero have none
front_nonzero : (bytes : List ℕ) (n : ℕ) → n ≤ length bytes → ((k : ℕ) → k < n → get_or bytes k 0 ≢ 0) → NoZero (take n bytes)
front_nonzero bytes zero l f = tt
front_nonzero [] (suc n) l f = absurd (omega (arith, l))
front_nonzero (b ∷ bytes) (suc n) l f = (omega (arith, f 0 (omega arith)), front_nonzero bytes n (omega (arith, l)) (λ k s. f (suc k) (omega (arith, s))))

module _ (message : List ℕ) (some : 0 < length message) (before : ℕ) (none : (k : ℕ) → k < before → get_or message k 0 ≢ 0) where
  abbrev pub count : List ℕ
  count = varint (length message)

  spelled : short (text_of message) ≡ count ++ message
  spelled = short_text message

  -- there is none
  pub without_zero : ReachesMostLength → before ≡ length message → most_length (length count + before) ≡ length (shortest_frame (short (text_of message)))
  without_zero reaches e =
      let whole : take before message ≡ message = ap (λ n. take n message) e ∙ take_all message in
      let z : NoZero (count ++ message) = NoZero-append count message (count_nonzero (length message) some) (subst NoZero whole (front_nonzero message before (omega (arith, e)) none)) in
      let size : length count + before ≡ length (count ++ message) = omega (arith, e, length-append count message) in
      ap most_length size ∙ sym (reaches (count ++ message) z) ∙ ap (λ x. length (shortest_frame x)) (sym spelled)
    where
      take_all : (x : List ℕ) → take (length x) x ≡ x
      take_all [] = refl
      take_all (b ∷ x) = ap (λ y. b ∷ y) (take_all x)

  -- a zero is there
  pub with_zero : before < length message → get_or message before 0 ≡ 0
      → length count + before + 1 + (length count + before) / 254 + length (shortest_frame (drop (before + 1) message)) ≡ length (shortest_frame (short (text_of message)))
  with_zero l at =
      let front = take before message in
      let behind = drop (before + 1) message in
      let split : message ≡ front ++ 0 ∷ behind =
      sym (take-append-drop before message) ∙ ap (λ x. front ++ x) (drop_more message before 0 l ∙ ap (λ b. b ∷ behind) at) in
      let whole : short (text_of message) ≡ (count ++ front) ++ 0 ∷ behind =
      spelled ∙ ap (λ x. count ++ x) split ∙ sym (append_assoc count front (0 ∷ behind)) in
      let z : NoZero (count ++ front) = NoZero-append count front (count_nonzero (length message) some) (front_nonzero message before (omega (arith, l)) none) in
      omega (arith, ap (λ x. length (shortest_frame x)) whole, run_length [] (count ++ front) behind (omega arith) z, length-append count front, length-take-le before message (omega (arith, l)))

one_byte : (n : ℕ) → n < 128 → varint n ≡ n ∷ []
unfolding varint
one_byte n s = rw (lt-ltb n 128 s) refl

-- a count below 128 is one byte, and its frame one block
pub short_frame : IsWithinLengths → (message : List ℕ) → length message < 128 → length (shortest_frame (short (text_of message))) ≡ length message + 2
short_frame within message l =
    let size : length (short (text_of message)) ≡ length message + 1 =
    ap length (short_text message) ∙ omega (arith, length-append (varint (length message)) message, ap length (one_byte (length message) l)) in
    let w = within (short (text_of message)) in
    omega (arith, l, size, w.0, w.1)

-- the bound by the length of the spelling
pub most_frame : IsWithinLengths → (message : List ℕ) → length (shortest_frame (short (text_of message))) ≤ most_length (length (varint (length message)) + length message)
most_frame within message =
    let size : length (short (text_of message)) ≡ length (varint (length message)) + length message = ap length (short_text message) ∙ length-append (varint (length message)) message in
    subst (λ n. length (shortest_frame (short (text_of message))) ≤ most_length n) size (within (short (text_of message))).1

-- How the bytes of a piece that was copied into the open block are coded.
use Rattle.std.proofs.Common.{◌≡◌, ℕ, suc, ◌+◌, ◌-◌, ◌<◌, ◌≤◌, ◌==◌, true, replicate, List, [], ◌∷◌, ◌++◌, length, take, drop, set, get_or, zero, subst, refl, ap, sym, ◌∙◌, arith, append_assoc, length-append, add-one}
use Rattle.std.proofs.lemmas.List.{set_at, take_at, drop_at, length-replicate, replicate-append-replicate, length-take-le, drop_more, drop_all, take-append-drop}
use borrow.Rule.Slice.PartMut.{put_mid}
use Rattle.cobs.specs.Frames.{NoZero, block, shortest_from, shortest_frame}
use Rattle.cobs.specs.Held.{pushed, Laid, GoesOnFromBlock, HoldsFrame, last_run}
use Rattle.cobs.specs.Codes.{Coding}
use Rattle.cobs.proofs.EncodingLemmas.{open_zero, open_run}
use Rattle.cobs.proofs.LengthsLemmas.{least_length}
use Rattle.cobs.proofs.HoldingLemmas.{Parts, holds_of, run_length}

-- nonzero bytes go into the open run
pub coded_front : (bytes : List ℕ) (code_at at : ℕ) (m front rest : List ℕ) → NoZero front → Coding bytes code_at at m (front ++ rest) → Coding bytes code_at (at + length front) m rest
coded_front bytes code_at at m front rest h c =
    let long : length (c.run ++ front) ≡ length c.run + length front = length-append c.run front in
    let all : length (front ++ rest) ≡ length front + length rest = length-append front rest in
    record {
      closed = c.closed;
      code = c.code;
      run = c.run ++ front;
      tail = c.tail;
      spells = c.spells ∙ ap (λ x. c.closed ++ (c.code ∷ x)) (ap (λ x. c.run ++ x) (append_assoc front rest c.tail) ∙ sym (append_assoc c.run front (rest ++ c.tail)));
      begins = c.begins;
      ends = omega (arith, c.ends, long);
      short = omega (arith, c.short, long, all);
      goes_on = λ more. c.goes_on more ∙ ap (λ x. c.closed ++ x) (ap (shortest_from c.run) (append_assoc front rest more) ∙ open_run c.run front (rest ++ more) h (omega (arith, c.short, all)));
    }

-- a zero closes it
pub coded_zero : (bytes : List ℕ) (code_at at : ℕ) (m rest : List ℕ) → Coding bytes code_at at m (0 ∷ rest) → Coding (set bytes code_at (at - code_at)) at (at + 1) m rest
coded_zero bytes code_at at m rest c =
    let long : length (c.closed ++ block c.run) ≡ at = length-append c.closed (block c.run) ∙ sym c.ends in
    let code : at - code_at ≡ suc (length c.run) = omega (arith, c.begins, c.ends) in
    record {
      closed = c.closed ++ block c.run;
      code = 0;
      run = [];
      tail = c.tail;
      spells = rw (code, c.spells, set_at c.closed c.code (c.run ++ (0 ∷ (rest ++ c.tail))) (suc (length c.run)) code_at (sym c.begins), append_assoc c.closed (block c.run) (0 ∷ (rest ++ c.tail))) refl;
      begins = sym long;
      ends = omega (arith, long);
      short = omega (arith, c.short);
      goes_on = λ more. c.goes_on more ∙ ap (λ x. c.closed ++ x) (open_zero c.run (rest ++ more) (omega (arith, c.short))) ∙ sym (append_assoc c.closed (block c.run) (shortest_from [] (rest ++ more)));
    }

-- with the code of the last run the buffer holds the message
pub coded_end : (bytes : List ℕ) (code_at at : ℕ) (m : List ℕ) → Coding bytes code_at at m [] → HoldsFrame (set bytes code_at (at - code_at)) code_at at × (pushed (set bytes code_at (at - code_at)) at ≡ m)
coded_end bytes code_at at m c =
    let code : at - code_at ≡ suc (length c.run) = omega (arith, c.begins, c.ends) in
    let parts : Parts (set bytes code_at (at - code_at)) code_at at c.closed c.run c.tail = record {
      spells = rw (code, c.spells, set_at c.closed c.code (c.run ++ c.tail) (suc (length c.run)) code_at (sym c.begins)) refl;
      code = c.begins;
      end = c.ends;
    } in
    holds_of _ c.closed c.run c.tail m code_at at parts (omega (arith, c.short)) c.goes_on

-- the same at a place of a piece
pub zero_at : (bytes : List ℕ) (code_at at next : ℕ) (m piece more : List ℕ) (i : ℕ) → i < length piece → get_or piece i 0 ≡ 0 → next ≡ at + 1 → Coding bytes code_at at m (drop i piece ++ more)
    → Coding (set bytes code_at (at - code_at)) at next m (drop (i + 1) piece ++ more)
zero_at bytes code_at at next m piece more i l z e c =
    let there : drop i piece ≡ 0 ∷ drop (i + 1) piece = drop_more piece i 0 l ∙ ap (λ b. b ∷ drop (i + 1) piece) z in
    rw e (coded_zero bytes code_at at m (drop (i + 1) piece ++ more) (rw there at c))

-- what isn't zero
pub is_more : (x : ℕ) → ((x == 0) ≡ true → ⊥) → 0 < x
is_more zero h = absurd (h refl)
is_more (suc x) h = omega arith

-- nothing before a place is zero
pub none_before : (xs : List ℕ) (n : ℕ) → n ≤ length xs → ((k : ℕ) → k < n → 0 < get_or xs k 0) → NoZero (take n xs)
none_before xs zero l h = tt
none_before [] (suc n) l h = tt
none_before (x ∷ xs) (suc n) l h = (h 0 (omega arith), none_before xs n (omega arith) (λ k b. h (suc k) (omega arith)))

-- the bytes before the first zero go into the open run
pub front_at : (bytes : List ℕ) (code_at at next : ℕ) (m piece more : List ℕ) (n : ℕ) → n ≤ length piece → ((k : ℕ) → k < n → 0 < get_or piece k 0) → next ≡ at + n → Coding bytes code_at at m (piece ++ more)
    → Coding bytes code_at next m (drop n piece ++ more)
front_at bytes code_at at next m piece more n l h e c =
    let long : length (take n piece) ≡ n = length-take-le n piece l in
    let there : next ≡ at + length (take n piece) = omega (arith, long) in
    let split : piece ++ more ≡ take n piece ++ (drop n piece ++ more) = ap (λ p. p ++ more) (sym (take-append-drop n piece)) ∙ append_assoc (take n piece) (drop n piece) more in
    rw there (coded_front bytes code_at at m (take n piece) (drop n piece ++ more) (none_before piece n l h) (subst (Coding bytes code_at at m) split c))

-- all the bytes, where none is zero
pub all_at : (bytes : List ℕ) (code_at at next : ℕ) (m piece more : List ℕ) → ((k : ℕ) → k < length piece → 0 < get_or piece k 0) → next ≡ at + length piece → Coding bytes code_at at m (piece ++ more) → Coding bytes code_at next m more
all_at bytes code_at at next m piece more h e c =
    let none : drop (length piece) piece ++ more ≡ more = ap (λ p. p ++ more) (drop_all (length piece) piece (omega arith)) in
    rw none at (front_at bytes code_at at next m piece more (length piece) (omega arith) h e c)

-- what doesn't fit behind an open run
pub no_room : (bytes : List ℕ) (code_at len room : ℕ) (m more : List ℕ) → Laid bytes code_at len → GoesOnFromBlock bytes code_at len m → 0 < length more → room < len + length more → room < length (shortest_frame (m ++ more))
no_room bytes code_at len room m [] l g s h = absurd (omega arith)
no_room bytes code_at len room m (byte ∷ more) l g s h =
    let run = last_run bytes code_at len in
    let long : suc (length run) ≡ len - code_at = run_length bytes code_at len l in
    let closed : length (take code_at bytes) ≡ code_at = length-take-le code_at bytes (omega (arith, l.begins, l.within)) in
    let all : length (shortest_frame (m ++ byte ∷ more)) ≡ length (take code_at bytes) + length (shortest_from run (byte ∷ more)) = ap length (g byte more) ∙ length-append (take code_at bytes) (shortest_from run (byte ∷ more)) in
    omega (arith, l.begins, l.short, long, closed, all, least_length run (byte ∷ more) (omega (arith, l.begins, l.short, long)))

ones_from : (n : ℕ) (more : List ℕ) → shortest_from [] (replicate n 0 ++ more) ≡ replicate n 1 ++ shortest_from [] more
ones_from zero more = refl
ones_from (suc n) more = ap (λ f. 1 ∷ f) (ones_from n more)

all_zero : (xs : List ℕ) → ((k : ℕ) → k < length xs → get_or xs k 0 ≡ 0) → xs ≡ replicate (length xs) 0
all_zero [] h = refl
all_zero (x ∷ xs) h = ap (λ y. y ∷ xs) (h 0 (omega arith)) ∙ ap (λ ys. 0 ∷ ys) (all_zero xs (λ k l. h (suc k) (omega arith)))

-- zeros, each with the code 1 for the next one
pub zeros_at : (bytes : List ℕ) (code_at at long code next : ℕ) (m piece more ones : List ℕ) → 0 < length piece → ((k : ℕ) → k < length piece → get_or piece k 0 ≡ 0) → ones ≡ replicate (length piece) 1
    → long ≡ length piece → code + 1 ≡ at + length piece → next ≡ at + length piece
    → Coding bytes code_at at m (piece ++ more) → Coding (put_mid at long (set bytes code_at (at - code_at)) ones) code next m more
zeros_at bytes code_at at long code next m [] more ones s z o k e f c = absurd (omega arith)
zeros_at bytes code_at at long code next m (x ∷ piece) more ones s z o k e f c =
    let n = length piece in
    let base : List ℕ = c.closed ++ block c.run in
    let is_base : length base ≡ at = length-append c.closed (block c.run) ∙ sym c.ends in
    let code_is : at - code_at ≡ suc (length c.run) = omega (arith, c.begins, c.ends) in
    let rest : List ℕ = more ++ c.tail in
    let laid : set bytes code_at (at - code_at) ≡ base ++ ((x ∷ piece) ++ rest) =
    rw (code_is, c.spells, set_at c.closed c.code (c.run ++ (((x ∷ piece) ++ more) ++ c.tail)) (suc (length c.run)) code_at (sym c.begins), append_assoc c.closed (block c.run) ((x ∷ piece) ++ rest), append_assoc (x ∷ piece) more c.tail) refl in
    let front : take at (base ++ ((x ∷ piece) ++ rest)) ≡ base = take_at base ((x ∷ piece) ++ rest) at is_base in
    let behind : drop long (drop at (base ++ ((x ∷ piece) ++ rest))) ≡ rest = ap (drop long) (drop_at base ((x ∷ piece) ++ rest) at is_base) ∙ drop_at (x ∷ piece) rest long (sym k) in
    let last : ones ≡ replicate n 1 ++ 1 ∷ [] = o ∙ ap (λ j. replicate j 1) (sym (add-one n)) ∙ sym (replicate-append-replicate n 1 1) in
    let same : x ∷ piece ≡ 0 ∷ replicate n 0 = all_zero (x ∷ piece) z in
    let before : length (base ++ replicate n 1) ≡ at + n = length-append base (replicate n 1) ∙ omega (arith, is_base, length-replicate {A = ℕ} n 1) in
    record {
      closed = base ++ replicate n 1;
      code = 1;
      run = [];
      tail = c.tail;
      spells = ap (λ b. take at b ++ (ones ++ drop long (drop at b))) laid ∙ ap (λ b. b ++ (ones ++ drop long (drop at (base ++ ((x ∷ piece) ++ rest))))) front
          ∙ ap (λ b. base ++ (ones ++ b)) behind ∙ ap (λ b. base ++ (b ++ rest)) last ∙ ap (λ b. base ++ b) (append_assoc (replicate n 1) (1 ∷ []) rest) ∙ sym (append_assoc base (replicate n 1) (1 ∷ rest));
      begins = omega (arith, before);
      ends = omega (arith, before);
      short = omega (arith, c.short, length-append (x ∷ piece) more);
      goes_on = λ later. c.goes_on later ∙ ap (λ p. c.closed ++ shortest_from c.run p) (ap (λ p. (p ++ more) ++ later) same ∙ append_assoc (0 ∷ replicate n 0) more later)
          ∙ ap (λ p. c.closed ++ p) (open_zero c.run (replicate n 0 ++ (more ++ later)) (omega (arith, c.short)))
          ∙ sym (append_assoc c.closed (block c.run) (shortest_from [] (replicate n 0 ++ (more ++ later)))) ∙ ap (λ p. base ++ p) (ones_from n (more ++ later)) ∙ sym (append_assoc base (replicate n 1) (shortest_from [] (more ++ later)));
    }

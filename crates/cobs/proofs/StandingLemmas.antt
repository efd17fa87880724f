-- How a message is coded where it stands.
use Rattle.std.proofs.Common.{◌≡◌, ℕ, ◌+◌, ◌-◌, ◌<◌, ◌≤◌, List, [], ◌∷◌, ◌++◌, length, take, drop, set, get_or, replicate, refl, ap, sym, subst, ◌∙◌, arith, append_assoc, length-append, length-drop}
use Rattle.std.proofs.lemmas.List.{take-append-drop, take-append-le, take_at, drop_at, drop_all, drop_more, drop-drop, length-replicate, length-take-le}
use borrow.Rule.Slice.PartMut.{put_mid}
use Rattle.cobs.specs.Frames.{shortest_frame}
use Rattle.cobs.specs.Codes.{Coding, Coded}
use Rattle.cobs.specs.InPlace.{written_over}
use Rattle.cobs.specs.Sentinel.{masked}
use Rattle.cobs.proofs.MaskingLemmas.{masked_length, masked_twice, masked_zero}
use Rattle.cobs.proofs.CodingLemmas.{coded_end}

-- a message that stands behind a first byte
pub standing_new : (bytes : List ℕ) (n : ℕ) → n ≤ 254 → n < length bytes → Coding bytes 0 1 (take n (drop 1 bytes)) (take n (drop 1 bytes))
standing_new bytes n few room =
    let m = take n (drop 1 bytes) in
    let long : length m ≡ n = length-take-le n (drop 1 bytes) (omega (arith, length-drop 1 bytes)) in
    record {
      closed = [];
      code = get_or bytes 0 0;
      run = [];
      tail = drop n (drop 1 bytes);
      spells = drop_more bytes 0 0 (omega arith) ∙ ap (λ x. get_or bytes 0 0 ∷ x) (sym (take-append-drop n (drop 1 bytes)));
      begins = refl;
      ends = refl;
      short = omega (arith, long);
      goes_on = λ more. refl;
    }

-- what is still to be coded stands there
pub standing_piece : (bytes : List ℕ) (code_at at : ℕ) (m rest : List ℕ) (k : ℕ) → k ≤ length rest → Coding bytes code_at at m rest → take k (drop at bytes) ≡ take k rest
standing_piece bytes code_at at m rest k l c =
    let front : List ℕ = c.closed ++ (c.code ∷ c.run) in
    let long : length front ≡ at = length-append c.closed (c.code ∷ c.run) ∙ sym c.ends in
    let split : bytes ≡ front ++ (rest ++ c.tail) = c.spells ∙ sym (append_assoc c.closed (c.code ∷ c.run) (rest ++ c.tail)) in
    ap (λ b. take k (drop at b)) split ∙ ap (take k) (drop_at front (rest ++ c.tail) at long) ∙ take-append-le k rest c.tail l

-- a front of it is coded
pub standing_on : (before after m : List ℕ) (code_at done count next : ℕ) → done + count ≤ length m → Coding before code_at (done + 1) m (drop done m)
    → Coded before code_at (done + 1) (take count (drop (done + 1) before)) after next → Coding after next (done + count + 1) m (drop (done + count) m)
standing_on before after m code_at done count next l c step =
    let rest : List ℕ = drop done m in
    let some : count ≤ length rest = omega (arith, length-drop done m) in
    let is : take count (drop (done + 1) before) ≡ take count rest = standing_piece before code_at (done + 1) m rest count some c in
    let long : length (take count (drop (done + 1) before)) ≡ count = ap length is ∙ length-take-le count rest some in
    let split : take count (drop (done + 1) before) ++ drop count rest ≡ rest = ap (λ x. x ++ drop count rest) is ∙ take-append-drop count rest in
    let there : done + 1 + length (take count (drop (done + 1) before)) ≡ done + count + 1 = omega (arith, long) in
    let left : drop count rest ≡ drop (done + count) m = drop-drop count done m in
    rw (← there, ← left) (step.coding m (drop count rest) (rw split c))

-- what was coded for the sentinel zero
pub standing_plain : (before piece after : List ℕ) (code_at from last : ℕ) → Coded (masked 0 before) code_at from (masked 0 piece) (masked 0 after) last → Coded before code_at from piece after last
standing_plain before piece after code_at from last c =
    subst (λ b. Coded b code_at from piece after last) (masked_zero before)
    (subst (λ p. Coded (masked 0 before) code_at from p after last) (masked_zero piece)
    (subst (λ a. Coded (masked 0 before) code_at from (masked 0 piece) a last) (masked_zero after) c))

-- all of it is coded
pub standing_all : (bytes : List ℕ) (code_at done n : ℕ) (m : List ℕ) → done ≡ n → length m ≤ n → Coding bytes code_at (done + 1) m (drop done m) → Coding bytes code_at (n + 1) m []
standing_all bytes code_at done n m e l c =
    subst (λ x. Coding bytes code_at (n + 1) m x) (drop_all n m l) (subst (λ k. Coding bytes code_at (k + 1) m (drop k m)) e c)

-- with the last code the buffer begins with the frame
pub standing_end : (bytes : List ℕ) (code_at end : ℕ) (message : List ℕ) → Coding bytes code_at end message []
    → (end ≡ length (shortest_frame message)) × (take end (set bytes code_at (end - code_at)) ≡ shortest_frame message)
standing_end bytes code_at end message c =
    let new = set bytes code_at (end - code_at) in
    let whole = coded_end bytes code_at end message c in
    let is : take end new ≡ shortest_frame message = sym whole.0.is ∙ ap shortest_frame whole.1 in
    (sym (length-take-le end new whole.0.laid.within) ∙ ap length is, is)

-- a row that is written over a part
pub row_put : (at n byte : ℕ) (bytes : List ℕ) → written_over at (replicate n byte) bytes ≡ put_mid at n bytes (replicate n byte)
row_put at n byte bytes =
    ap (λ x. take at bytes ++ (replicate n byte ++ x)) (ap (λ j. drop (at + j) bytes) (length-replicate {A = ℕ} n byte) ∙ sym (drop-drop n at bytes))

-- bytes that were copied stand there
pub over_stands : (s at : ℕ) (dest copied bytes : List ℕ) → at + length bytes ≤ length dest → copied ≡ written_over at (masked s bytes) dest → masked s (take (length bytes) (drop at copied)) ≡ bytes
over_stands s at dest copied bytes room e =
    let front : length (take at dest) ≡ at = length-take-le at dest (omega arith) in
    let rest = drop (at + length (masked s bytes)) dest in
    ap (λ b. masked s (take (length bytes) (drop at b))) e
    ∙ ap (λ b. masked s (take (length bytes) b)) (drop_at (take at dest) (masked s bytes ++ rest) at front)
    ∙ ap (masked s) (take_at (masked s bytes) rest (length bytes) (masked_length s bytes))
    ∙ masked_twice s bytes

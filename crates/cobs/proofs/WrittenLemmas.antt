-- Bytes that are written over a buffer one behind the other, and over one another.
use Rattle.std.proofs.Common.{◌≡◌, ℕ, ◌+◌, ◌-◌, ◌<◌, ◌≤◌, List, ◌++◌, length, take, drop, set, get_or, ap, sym, ◌∙◌, arith, append_assoc, length-append, length-drop}
use Rattle.std.proofs.lemmas.List.{take-append-le, take-append-drop, take_all, take_at, take-take, drop-take, length-take-le, drop-drop, drop_more}
use Rattle.std.proofs.Math.Seq.{take-append-add, drop-append-add}
use Rattle.std.specs.Prelude.{bit_xor}
use Rattle.cobs.specs.InPlace.{written_over}
use Rattle.cobs.specs.Sentinel.{masked}
use Rattle.cobs.proofs.MaskingLemmas.{masked_length, masked_take, masked_append}
use Rattle.cobs.proofs.WindowsLemmas.{one_written}

-- what is behind them is as it was
pub written_behind : (place k : ℕ) (bytes old : List ℕ) → place + length bytes ≤ k → place + length bytes ≤ length old → drop k (written_over place bytes old) ≡ drop k old
written_behind place k bytes old l r =
    let p = take place old in
    let rest = drop (place + length bytes) old in
    let front : length (p ++ bytes) ≡ place + length bytes = omega (arith, length-append p bytes, length-take-le place old (omega arith)) in
    let at : k ≡ length (p ++ bytes) + (k - (place + length bytes)) = omega (arith, front) in
    ap (λ b. drop k b) (sym (append_assoc p bytes rest))
    ∙ ap (λ j. drop j ((p ++ bytes) ++ rest)) at
    ∙ drop-append-add (p ++ bytes) rest (k - (place + length bytes))
    ∙ drop-drop (k - (place + length bytes)) (place + length bytes) old
    ∙ ap (λ j. drop j old) (omega (arith, l))

-- the last ones may begin among the first
pub written_twice : (place k at : ℕ) (a b old : List ℕ) → k ≤ length a → length a ≤ k + length b → place + k + length b ≤ length old → at ≡ place + k
    → written_over at b (written_over place a old) ≡ written_over place (take k a ++ b) old
written_twice place k at a b old l m r e =
    let p = take place old in
    let rest = drop (place + length a) old in
    let mid = written_over place a old in
    let long : length p ≡ place = length-take-le place old (omega arith) in
    let front : take at mid ≡ p ++ take k a =
    ap (λ j. take j mid) (omega (arith, e, long))
    ∙ take-append-add p (a ++ rest) k
    ∙ ap (λ x. p ++ x) (take-append-le k a rest l) in
    let back : drop (at + length b) mid ≡ drop (place + (k + length b)) old =
    ap (λ j. drop j mid) (omega (arith, e))
    ∙ written_behind place (place + (k + length b)) a old (omega (arith, m)) (omega (arith, m, r)) in
    let count : length (take k a ++ b) ≡ k + length b = omega (arith, length-append (take k a) b, length-take-le k a l) in
    ap (λ x. x ++ (b ++ drop (at + length b) mid)) front
    ∙ ap (λ x. (p ++ take k a) ++ (b ++ x)) back
    ∙ append_assoc p (take k a) (b ++ drop (place + (k + length b)) old)
    ∙ ap (λ x. p ++ x) (sym (append_assoc (take k a) b (drop (place + (k + length b)) old)))
    ∙ ap (λ j. p ++ ((take k a ++ b) ++ drop (place + j) old)) (sym count)

-- one behind the other
pub written_then : (place at : ℕ) (a b old : List ℕ) → place + length a + length b ≤ length old → at ≡ place + length a → written_over at b (written_over place a old) ≡ written_over place (a ++ b) old
written_then place at a b old r e =
    written_twice place (length a) at a b old (omega arith) (omega arith) r e ∙ ap (λ x. written_over place (x ++ b) old) (take_all (length a) a (omega arith))

-- a front and an end of some bytes that meet
pub written_ends : (sentinel place behind at w n : ℕ) (m front back old : List ℕ) → length m ≡ n → front ≡ take w m → back ≡ drop behind m → behind ≤ w → w ≤ n → n ≡ behind + w → place + n ≤ length old → at ≡ place + behind
    → written_over at (masked sentinel back) (written_over place (masked sentinel front) old) ≡ written_over place (masked sentinel m) old
written_ends s place behind at w n m front back old long f b l q e r a =
    let fl : length (masked s front) ≡ w = masked_length s front ∙ ap length f ∙ length-take-le w m (omega (arith, long)) in
    let bl : length (masked s back) ≡ w = masked_length s back ∙ ap length b ∙ length-drop behind m ∙ omega (arith, long, e) in
    let seam : take behind (masked s front) ++ masked s back ≡ masked s m =
    ap (λ x. x ++ masked s back) (masked_take s behind front ∙ ap (λ x. masked s (take behind x)) f ∙ ap (masked s) (take-take behind w m l))
    ∙ ap (λ x. masked s (take behind m) ++ masked s x) b
    ∙ sym (masked_append s (take behind m) (drop behind m))
    ∙ ap (masked s) (take-append-drop behind m) in
    written_twice place behind at (masked s front) (masked s back) old (omega (arith, fl, l)) (omega (arith, fl, bl)) (omega (arith, bl, r, e)) a
    ∙ ap (λ x. written_over place x old) seam

-- a front of some bytes and what comes behind it
pub front_then : (k n : ℕ) (bytes : List ℕ) → k ≤ n → take k bytes ++ take (n - k) (drop k bytes) ≡ take n bytes
front_then k n bytes l =
    ap (λ x. take k bytes ++ x) (sym (drop-take k (n - k) bytes) ∙ ap (λ j. drop k (take j bytes)) (omega (arith, l)))
    ∙ ap (λ x. x ++ drop k (take n bytes)) (sym (take-take k n bytes l))
    ∙ take-append-drop k (take n bytes)

-- bytes that go on from those that were moved: what is still to be moved is as it was
pub moved_on : (sentinel from place moved more at here : ℕ) (old new : List ℕ) → new ≡ written_over place (masked sentinel (take moved (drop from old))) old → place ≤ from → from + moved + more ≤ length old → at ≡ place + moved → here ≡ from + moved
    → written_over at (masked sentinel (take more (drop here new))) new ≡ written_over place (masked sentinel (take (moved + more) (drop from old))) old
moved_on s from place moved more at here old new e d r a h =
    let rest = drop from old in
    let first = masked s (take moved rest) in
    let left : length rest ≡ length old - from = length-drop from old in
    let long : length first ≡ moved = masked_length s (take moved rest) ∙ length-take-le moved rest (omega (arith, left)) in
    let same : drop here new ≡ drop moved rest =
    ap (drop here) e ∙ written_behind place here first old (omega (arith, long, d, h)) (omega (arith, long, d, r)) ∙ ap (λ j. drop j old) (omega (arith, h)) ∙ sym (drop-drop moved from old) in
    let more_long : length (masked s (take more (drop moved rest))) ≡ more =
    masked_length s (take more (drop moved rest)) ∙ length-take-le more (drop moved rest) (omega (arith, length-drop moved rest, left)) in
    ap (λ x. written_over at (masked s (take more x)) new) same
    ∙ ap (written_over at (masked s (take more (drop moved rest)))) e
    ∙ written_then place at first (masked s (take more (drop moved rest))) old (omega (arith, long, more_long, d, r)) (omega (arith, long, a))
    ∙ ap (λ x. written_over place x old) (sym (masked_append s (take moved rest) (take more (drop moved rest))) ∙ ap (masked s) (ap (λ j. take moved rest ++ take j (drop moved rest)) (omega arith) ∙ front_then moved (moved + more) rest (omega arith)))

-- nothing was moved yet
pub moved_none : (sentinel from place : ℕ) (old : List ℕ) → old ≡ written_over place (masked sentinel (take 0 (drop from old))) old
moved_none s from place old = sym (ap (λ j. take place old ++ drop j old) (omega arith) ∙ take-append-drop place old)

-- a byte of them
pub moved_byte : (sentinel from place moved at here : ℕ) (old new : List ℕ) → new ≡ written_over place (masked sentinel (take moved (drop from old))) old → place ≤ from → from + moved < length old → length new ≡ length old → at ≡ place + moved → here ≡ from + moved
    → set new at (bit_xor sentinel (get_or new here 0)) ≡ written_over place (masked sentinel (take (moved + 1) (drop from old))) old
moved_byte s from place moved at here old new e d r k a h =
    one_written new at (bit_xor s (get_or new here 0)) (omega (arith, k, a, d, r))
    ∙ ap (λ b. written_over at (masked s b) new) (ap (take 1) (sym (drop_more new here 0 (omega (arith, h, k, r)))))
    ∙ moved_on s from place moved 1 at here old new e d (omega (arith, r)) a h

-- the next of some bytes that are copied part by part; they may begin among those before them
pub written_next : (sentinel place j k n at : ℕ) (m part old new : List ℕ) → new ≡ written_over place (masked sentinel (take j m)) old → part ≡ take n (drop k m) → k ≤ j → j ≤ k + n → k + n ≤ length m → place + length m ≤ length old → at ≡ place + k
    → written_over at (masked sentinel part) new ≡ written_over place (masked sentinel (take (k + n) m)) old
written_next s place j k n at m part old new e p l r q room a =
    let first = masked s (take j m) in
    let next = masked s (take n (drop k m)) in
    let fl : length first ≡ j = masked_length s (take j m) ∙ length-take-le j m (omega (arith, r, q)) in
    let nl : length next ≡ n = masked_length s (take n (drop k m)) ∙ length-take-le n (drop k m) (omega (arith, length-drop k m, q)) in
    ap (λ x. written_over at (masked s x) new) p
    ∙ ap (written_over at next) e
    ∙ written_twice place k at first next old (omega (arith, fl, l)) (omega (arith, fl, nl, r)) (omega (arith, nl, q, room)) a
    ∙ ap (λ x. written_over place x old) (
    ap (λ x. x ++ next) (masked_take s k (take j m) ∙ ap (masked s) (take-take k j m l))
    ∙ sym (masked_append s (take k m) (take n (drop k m)))
    ∙ ap (masked s) (ap (λ i. take k m ++ take i (drop k m)) (omega arith) ∙ front_then k (k + n) m (omega arith))
    )

-- what is in front of them is as it was
pub written_front : (place : ℕ) (bytes old : List ℕ) → place ≤ length old → take place (written_over place bytes old) ≡ take place old
written_front place bytes old l = take_at (take place old) (bytes ++ drop (place + length bytes) old) place (length-take-le place old l)

-- Bytes of an open block that are taken in at once.
use Rattle.std.proofs.Common.{◌≡◌, ◌≢◌, ℕ, zero, suc, pred, ◌+◌, ◌-◌, ◌^◌, ◌<◌, ◌≤◌, nat_lt, Bool, true, false, List, [], ◌∷◌, ◌++◌, length, take, drop, set, get_or, replicate, Option, Some, None, refl, ap, sym, ◌∙◌, arith, append_assoc, length-append, length-drop}
use Rattle.std.proofs.lemmas.List.{append-nil, take_all, drop_all, drop_more, drop-drop, set_at, take-append-drop, take_more_set, drop-set-lt, length-set, length-take-le, get_or-drop}
use Rattle.std.proofs.lemmas.Bool.{ne_eqb, lt-ltb}
use Rattle.cobs.specs.Frames.{NoZero, part, part_from, after}
use Rattle.cobs.specs.Feeding.{told_by, fed, listed, stands_by, standing, placed, stored}
use Rattle.cobs.specs.InPlace.{written_over}
use Rattle.cobs.specs.Streaming.{HasStreamed}
use Rattle.cobs.specs.Taking.{TakesFront}
use Rattle.cobs.specs.declared.dec.progress.Progress.{Progress}
use borrow.Rule.Slice.PartMut.{put_mid}
use Rattle.cobs.specs.declared.dec.state.DecoderState.{DecoderState}
use Rattle.cobs.specs.declared.dec.state.DecoderState.TheVariants.{Grab, GrabChain}
use Rattle.cobs.proofs.DecodingLemmas.{part_append, after_append}
use Rattle.cobs.proofs.FeedsLemmas.{told_stands}
use Rattle.cobs.proofs.PassingLemmas.{all_placed}

-- what an open block takes as it is, and what comes behind
pub open_part : (left : ℕ) (owed : Bool) (bytes : List ℕ) → part_from left owed bytes ≡ take left bytes ++ part_from (left - length bytes) owed (drop left bytes)
open_part zero owed bytes = ap (λ n. part_from n owed bytes) (omega arith)
open_part (suc left) owed [] = refl
open_part (suc left) owed (b ∷ bytes) =
    ap (λ m. b ∷ m) (open_part left owed bytes ∙ ap (λ n. take left bytes ++ part_from n owed (drop left bytes)) (omega arith))

pub open_after : (left : ℕ) (owed : Bool) (bytes : List ℕ) → after left owed bytes ≡ after (left - length bytes) owed (drop left bytes)
open_after zero owed bytes = ap (λ n. after n owed bytes) (omega arith)
open_after (suc left) owed [] = ap (λ n. (n, owed)) (omega arith)
open_after (suc left) owed (b ∷ bytes) = open_after left owed bytes ∙ ap (λ n. after n owed (drop left bytes)) (omega arith)

-- bytes of one block alone
pub one_part : (left : ℕ) (owed : Bool) (bytes : List ℕ) → length bytes ≤ left → part_from left owed bytes ≡ bytes
one_part left owed bytes l =
    open_part left owed bytes
    ∙ ap (λ b. take left bytes ++ part_from (left - length bytes) owed b) (drop_all left bytes l)
    ∙ append-nil (take left bytes)
    ∙ take_all left bytes l

pub one_after : (left : ℕ) (owed : Bool) (bytes : List ℕ) → length bytes ≤ left → after left owed bytes ≡ (left - length bytes, owed)
one_after left owed bytes l = open_after left owed bytes ∙ ap (after (left - length bytes) owed) (drop_all left bytes l)

-- behind a front
take_over : (a r : List ℕ) (n c : ℕ) → length a ≡ n → 0 < c → take (n + c) (a ++ 0 ∷ r) ≡ a ++ 0 ∷ take (pred c) r
take_over a r n zero e q = absurd (omega arith)
take_over [] r n (suc c) e q = let same : n + suc c ≡ suc c = omega arith in ap (λ k. take k (0 ∷ r)) same
take_over (x ∷ a) r n (suc c) e q =
    let same : n + suc c ≡ suc (length a + suc c) = omega (arith, e) in
    ap (λ k. take k (x ∷ (a ++ 0 ∷ r))) same ∙ ap (λ b. x ∷ b) (take_over a r (length a) (suc c) refl q)

drop_over : (a r : List ℕ) (n c : ℕ) → length a ≡ n → 0 < c → drop (n + c) (a ++ 0 ∷ r) ≡ drop (pred c) r
drop_over a r n zero e q = absurd (omega arith)
drop_over [] r n (suc c) e q = let same : n + suc c ≡ suc c = omega arith in ap (λ k. drop k (0 ∷ r)) same
drop_over (x ∷ a) r n (suc c) e q =
    let same : n + suc c ≡ suc (length a + suc c) = omega (arith, e) in
    ap (λ k. drop k (x ∷ (a ++ 0 ∷ r))) same ∙ drop_over a r (length a) (suc c) refl q

-- The codes before the place `at` of copied bytes became zeros, and the next one stands there.
pub record Walked (left : ℕ) (bytes : List ℕ) (at : ℕ) (out : List ℕ) : Type 0 where
  pub decides : part_from left true bytes ≡ take at out ++ part_from (at - length bytes) true (drop at bytes)
  pub stands : after left true bytes ≡ after (at - length bytes) true (drop at bytes)
  pub rest : drop at out ≡ drop at bytes
  pub long : length out ≡ length bytes
  pub high : at ≤ length bytes + 255

-- The codes of a part have been passed, and the last one was that of a full block, which goes on behind.
pub record WalkedOver (left : ℕ) (bytes : List ℕ) (at : ℕ) (out : List ℕ) : Type 0 where
  pub decides : out ≡ part_from left true bytes
  pub stands : GrabChain (at - length bytes) ≡ stands_by (after left true bytes)
  pub over : length bytes ≤ at
  pub high : at ≤ length bytes + 254

pub walked_start : (left : ℕ) (bytes out : List ℕ) → out ≡ bytes → left ≤ 255 → Walked left bytes left out
walked_start left bytes out e l = record {
  decides = open_part left true bytes ∙ ap (λ b. take left b ++ part_from (left - length bytes) true (drop left bytes)) (sym e);
  stands = open_after left true bytes;
  rest = ap (drop left) e;
  long = ap length e;
  high = omega arith;
}

module _ (left : ℕ) (bytes : List ℕ) (at : ℕ) (out : List ℕ) (w : Walked left bytes at out) where
  module _ (l : at < length bytes) where
    -- it wasn't written yet
    pub walked_code : get_or out at 0 ≡ get_or bytes at 0
    walked_code = ap (λ n. get_or out n 0) (sym at_all) ∙ sym (get_or-drop at out 0 0) ∙ ap (λ b. get_or b 0 0) w.rest ∙ get_or-drop at bytes 0 0 ∙ ap (λ n. get_or bytes n 0) at_all
      where
        at_all : at + 0 ≡ at
        at_all = omega arith

    here : drop at bytes ≡ get_or bytes at 0 ∷ drop (at + 1) bytes
    here = drop_more bytes at 0 l

    -- the code is a zero of the message
    zeroed : set out at 0 ≡ take at out ++ 0 ∷ drop (at + 1) bytes
    zeroed =
        ap (λ b. set b at 0) (sym (take-append-drop at out) ∙ ap (λ b. take at out ++ b) (w.rest ∙ here))
        ∙ set_at (take at out) (get_or bytes at 0) (drop (at + 1) bytes) 0 at (length-take-le at out (omega (arith, l, w.long)))

    decided : part_from left true bytes ≡ take at out ++ 0 ∷ part_from (pred (get_or bytes at 0)) (nat_lt (get_or bytes at 0) 255) (drop (at + 1) bytes)
    decided = w.decides ∙ ap (λ n. take at out ++ part_from n true (drop at bytes)) (omega (arith, l)) ∙ ap (λ b. take at out ++ part_from 0 true b) here

    stood : after left true bytes ≡ after (pred (get_or bytes at 0)) (nat_lt (get_or bytes at 0) 255) (drop (at + 1) bytes)
    stood = w.stands ∙ ap (λ n. after n true (drop at bytes)) (omega (arith, l)) ∙ ap (after 0 true) here

    left_over : length (drop (at + 1) bytes) ≡ length bytes - (at + 1)
    left_over = length-drop (at + 1) bytes

    -- behind the code of a full block all is of that block
    pub walked_full : get_or bytes at 0 ≡ 255 → length bytes ≤ 254 → (set out at 0 ≡ part_from left true bytes) × (GrabChain (255 + at - length bytes) ≡ stands_by (after left true bytes))
    walked_full f s =
        let few : length (drop (at + 1) bytes) ≤ 254 = omega (arith, left_over, s) in (
          zeroed ∙ sym (decided ∙ ap (λ c. take at out ++ 0 ∷ part_from (pred c) (nat_lt c 255) (drop (at + 1) bytes)) f ∙ ap (λ b. take at out ++ 0 ∷ b) (one_part 254 false (drop (at + 1) bytes) few)),
          ap (λ n. GrabChain n) (omega (arith, left_over, l, s))
              ∙ sym (ap stands_by (stood ∙ ap (λ c. after (pred c) (nat_lt c 255) (drop (at + 1) bytes)) f ∙ one_after 254 false (drop (at + 1) bytes) few)),
        )

    pub walked_over : length bytes ≤ 254 → get_or bytes at 0 ≡ 255 → WalkedOver left bytes (at + get_or bytes at 0) (set out at 0)
    walked_over s f = record {
      decides = (walked_full f s).0;
      stands = ap (λ n. GrabChain n) (omega (arith, f)) ∙ (walked_full f s).1;
      over = omega (arith, f, s);
      high = omega (arith, f, l);
    }

    -- behind another one comes its block
    pub walked_on : 0 < get_or bytes at 0 → get_or bytes at 0 < 255 → Walked left bytes (at + get_or bytes at 0) (set out at 0)
    walked_on p s =
        let c = get_or bytes at 0 in
        let r = drop (at + 1) bytes in
        let front : length (take at out) ≡ at = length-take-le at out (omega (arith, l, w.long)) in
        let owed : nat_lt c 255 ≡ true = lt-ltb c 255 s in
        let behind : pred c - length r ≡ at + c - length bytes = omega (arith, left_over, l, p) in
        let later : drop (pred c) r ≡ drop (at + c) bytes = drop-drop (pred c) (at + 1) bytes ∙ ap (λ n. drop n bytes) (omega (arith, p)) in
        let ahead : take (at + c) (set out at 0) ≡ take at out ++ 0 ∷ take (pred c) r =
        ap (take (at + c)) zeroed ∙ take_over (take at out) r at c front p in
        record {
          decides =
              decided
              ∙ ap (λ t. take at out ++ 0 ∷ part_from (pred c) t r) owed
              ∙ ap (λ m. take at out ++ 0 ∷ m) (open_part (pred c) true r)
              ∙ ap (λ n. take at out ++ 0 ∷ (take (pred c) r ++ part_from n true (drop (pred c) r))) behind
              ∙ ap (λ b. take at out ++ 0 ∷ (take (pred c) r ++ part_from (at + c - length bytes) true b)) later
              ∙ sym (append_assoc (take at out) (0 ∷ take (pred c) r) (part_from (at + c - length bytes) true (drop (at + c) bytes)))
              ∙ ap (λ b. b ++ part_from (at + c - length bytes) true (drop (at + c) bytes)) (sym ahead);
          stands =
              stood ∙ ap (λ t. after (pred c) t r) owed ∙ open_after (pred c) true r
              ∙ ap (λ n. after n true (drop (pred c) r)) behind ∙ ap (after (at + c - length bytes) true) later;
          rest = ap (drop (at + c)) zeroed ∙ drop_over (take at out) r at c front p ∙ later;
          long = length-set out at 0 ∙ w.long;
          high = omega (arith, l, s);
        }

-- bytes put one behind the other
abbrev over : List ℕ → ℕ → List ℕ → List ℕ
over buffer place [] = buffer
over buffer place (x ∷ bytes) = over (set buffer place x) (place + 1) bytes

over_is : (bytes buffer : List ℕ) (place : ℕ) → place + length bytes ≤ length buffer → over buffer place bytes ≡ written_over place bytes buffer
over_is [] buffer place l = sym (ap (λ n. take place buffer ++ drop n buffer) (omega arith) ∙ take-append-drop place buffer)
over_is (x ∷ bytes) buffer place l =
    let same : length (set buffer place x) ≡ length buffer = length-set buffer place x in
    over_is bytes (set buffer place x) (place + 1) (omega (arith, same, l))
    ∙ ap (λ b. b ++ (bytes ++ drop (place + 1 + length bytes) (set buffer place x))) (take_more_set buffer place x (omega (arith, l)))
    ∙ ap (λ b. (take place buffer ++ x ∷ []) ++ (bytes ++ b)) (drop-set-lt (place + 1 + length bytes) buffer place x (omega arith))
    ∙ append_assoc (take place buffer) (x ∷ []) (bytes ++ drop (place + 1 + length bytes) buffer)
    ∙ ap (λ n. take place buffer ++ (x ∷ (bytes ++ drop n buffer))) (omega arith)

over_stored : (told : Option ℕ) (buffer bytes : List ℕ) (place next : ℕ) → next ≡ place + length (listed told) → over (stored told place buffer) next bytes ≡ over buffer place (listed told ++ bytes)
over_stored None buffer bytes place next e = ap (λ n. over buffer n bytes) (omega (arith, e))
over_stored (Some x) buffer bytes place next e = ap (λ n. over (set buffer place x) n bytes) (omega (arith, e))

-- what a further byte tells
abbrev tells : List ℕ → List ℕ → List ℕ
tells p bytes = part_from (after 0 false p).0 (after 0 false p).1 bytes

told_is : (p : List ℕ) (b : ℕ) → 0 < b → listed (told_by (fed (standing p) b)) ≡ tells p (b ∷ [])
told_is [] b z = rw (ne_eqb b 0 (λ e. omega arith)) refl
told_is (code ∷ p) b z = let a = after 0 false (code ∷ p) in told_stands a.0 a.1 b z

placed_is : (p bytes buffer : List ℕ) (place : ℕ) → NoZero bytes → place ≡ length (part p) → all_placed p bytes buffer ≡ over buffer place (tells p bytes)
placed_is p [] buffer place z e = refl
placed_is p (b ∷ bytes) buffer place z e =
    let a = after 0 false p in
    let told = told_by (fed (standing p) b) in
    let next : length (part (p ++ b ∷ [])) ≡ place + length (listed told) =
    omega (arith, e, ap length (part_append 0 false p (b ∷ [])), length-append (part p) (tells p (b ∷ [])), ap length (told_is p b z.0)) in
    placed_is (p ++ b ∷ []) bytes (placed p b buffer) (length (part (p ++ b ∷ []))) z.1 refl
    ∙ ap (λ n. over (stored told n buffer) (length (part (p ++ b ∷ []))) (tells (p ++ b ∷ []) bytes)) (sym e)
    ∙ over_stored told buffer (tells (p ++ b ∷ []) bytes) place (length (part (p ++ b ∷ []))) next
    ∙ ap (over buffer place) (
    ap (λ m. m ++ tells (p ++ b ∷ []) bytes) (told_is p b z.0)
    ∙ ap (λ (x : ℕ × Bool). tells p (b ∷ []) ++ part_from x.0 x.1 bytes) (after_append 0 false p (b ∷ []))
    ∙ sym (part_append a.0 a.1 (b ∷ []) bytes)
    )

-- bytes behind p that have room stand behind what p decided
pub placed_written : (p bytes buffer : List ℕ) → NoZero bytes → length (part p) + length (tells p bytes) ≤ length buffer → all_placed p bytes buffer ≡ written_over (length (part p)) (tells p bytes) buffer
placed_written p bytes buffer z l = placed_is p bytes buffer (length (part p)) z refl ∙ over_is (tells p bytes) buffer (length (part p)) l

-- where a decoder is inside a block
pub at_grab : (p : List ℕ) (left : ℕ) → Grab left ≡ standing p → (after 0 false p ≡ (left, true)) × (p ≢ [])
at_grab [] left e = absurd (cc)
at_grab (code ∷ p) left e = (is (after 0 false (code ∷ p)) e, λ n. cc)
  where
    is : (a : ℕ × Bool) → Grab left ≡ stands_by a → a ≡ (left, true)
    is (n, true) h = let same : left ≡ n = cc in ap (λ k. (k, true)) (sym same)
    is (n, false) h = absurd (cc)

pub at_chain : (p : List ℕ) (left : ℕ) → GrabChain left ≡ standing p → (after 0 false p ≡ (left, false)) × (p ≢ [])
at_chain [] left e = absurd (cc)
at_chain (code ∷ p) left e = (is (after 0 false (code ∷ p)) e, λ n. cc)
  where
    is : (a : ℕ × Bool) → GrabChain left ≡ stands_by a → a ≡ (left, false)
    is (n, false) h = let same : left ≡ n = cc in ap (λ k. (k, false)) (sym same)
    is (n, true) h = absurd (cc)

pub stands_behind : (p bytes : List ℕ) (left : ℕ) (owed : Bool) → after 0 false p ≡ (left, owed) → p ≢ [] → standing (p ++ bytes) ≡ stands_by (after left owed bytes)
stands_behind [] bytes left owed e n = absurd (n refl)
stands_behind (code ∷ p) bytes left owed e n = ap stands_by (after_append 0 false (code ∷ p) bytes ∙ ap (λ (a : ℕ × Bool). after a.0 a.1 bytes) e)

-- bytes of which none is zero
pub none_zero : (bytes : List ℕ) → ((k : ℕ) → k < length bytes → 0 < get_or bytes k 0) → NoZero bytes
none_zero [] h = tt
none_zero (b ∷ bytes) h = (h 0 (omega arith), none_zero bytes (λ k l. h (suc k) (omega arith)))

pub no_bytes : (bytes : List ℕ) → length bytes ≡ 0 → bytes ≡ []
no_bytes [] e = refl
no_bytes (b ∷ bytes) e = absurd (omega arith)

-- a further byte of them
pub written_next : (bytes buffer : List ℕ) (place x : ℕ) → place + length bytes < length buffer → set (written_over place bytes buffer) (place + length bytes) x ≡ written_over place (bytes ++ x ∷ []) buffer
written_next bytes buffer place x l =
    let n = place + length bytes in
    let front : length (take place buffer ++ bytes) ≡ n = omega (arith, length-append (take place buffer) bytes, length-take-le place buffer (omega arith)) in
    let next : n + 1 ≡ place + length (bytes ++ x ∷ []) = omega (arith, length-append bytes (x ∷ [])) in
    ap (λ b. set b n x) (sym (append_assoc (take place buffer) bytes (drop n buffer)) ∙ ap (λ b. (take place buffer ++ bytes) ++ b) (drop_more buffer n 0 l))
    ∙ set_at (take place buffer ++ bytes) (get_or buffer n 0) (drop (n + 1) buffer) x n front
    ∙ append_assoc (take place buffer) bytes (x ∷ drop (n + 1) buffer)
    ∙ ap (λ b. take place buffer ++ b) (sym (append_assoc bytes (x ∷ []) (drop (n + 1) buffer)))
    ∙ ap (λ j. take place buffer ++ ((bytes ++ x ∷ []) ++ drop j buffer)) next

pub one_written : (buffer : List ℕ) (place x : ℕ) → place < length buffer → set buffer place x ≡ written_over place (x ∷ []) buffer
one_written buffer place x l =
    ap (λ b. set b place x) (sym (take-append-drop place buffer) ∙ ap (λ b. take place buffer ++ b) (drop_more buffer place 0 l))
    ∙ set_at (take place buffer) (get_or buffer place 0) (drop (place + 1) buffer) x place (length-take-le place buffer (omega arith))

-- codes 01 are zeros
pub of_ones : (bytes : List ℕ) → ((k : ℕ) → k < length bytes → get_or bytes k 0 ≡ 1) → (part_from 0 true bytes ≡ replicate (length bytes) 0) × (after 0 true bytes ≡ (0, true))
of_ones [] h = (refl, refl)
of_ones (b ∷ bytes) h =
    let one : b ≡ 1 = h 0 (omega arith) in
    let rest = of_ones bytes (λ k l. h (suc k) (omega arith)) in (
      ap (λ c. 0 ∷ part_from (pred c) (nat_lt c 255) bytes) one ∙ ap (λ m. 0 ∷ m) rest.0,
      ap (λ c. after (pred c) (nat_lt c 255) bytes) one ∙ rest.1,
    )

-- what was decoded is written behind what p decided
module _ (p piece old out new : List ℕ) (d : Progress) (n left : ℕ) (owed : Bool) (state : DecoderState) (s : HasStreamed d p) (a : after 0 false p ≡ (left, owed)) (some : p ≢ [])
    (within : n ≤ length piece) (nonzero : (j : ℕ) → j < n → 0 < get_or (take n piece) j 0) (room : d.len + n ≤ length old) (small : length old < 2 ^ 63)
    (decoded : out ≡ part_from left owed (take n piece)) (long : length out ≡ n) (put : new ≡ written_over d.len out old) (stands : state ≡ stands_by (after left owed (take n piece))) where
  counted : d.len ≡ length (part p)
  counted = omega (arith, s.len, room, small)

  clear : NoZero (take n piece)
  clear = none_zero (take n piece) (λ j l. nonzero j (omega (arith, l, length-take-le n piece within)))

  more : part (p ++ take n piece) ≡ part p ++ out
  more = part_append 0 false p (take n piece) ∙ ap (λ (x : ℕ × Bool). part p ++ part_from x.0 x.1 (take n piece)) a ∙ ap (λ m. part p ++ m) (sym decoded)

  longer : length (part (p ++ take n piece)) ≡ d.len + n
  longer = ap length more ∙ length-append (part p) out ∙ omega (arith, counted, long)

  told : out ≡ tells p (take n piece)
  told = decoded ∙ sym (ap (λ (x : ℕ × Bool). part_from x.0 x.1 (take n piece)) a)

  unchanged : n ≡ 0 → new ≡ old
  unchanged z =
      put
      ∙ ap (λ m. take d.len old ++ (m ++ drop (d.len + length m) old)) (no_bytes out (omega (arith, z, long)))
      ∙ ap (λ j. take d.len old ++ drop j old) (omega arith)
      ∙ take-append-drop d.len old

  pub front_written : TakesFront p piece old n (record { state = state; len = d.len + n }) new
  front_written = record {
    within = within;
    clear = clear;
    fits = λ _. omega (arith, longer, room);
    has = record { state = stands ∙ sym (stands_behind p (take n piece) left owed a some); len = omega (arith, longer, room, small) };
    buffer = λ _. put ∙ ap (λ j. take j old ++ (out ++ drop (j + length out) old)) counted ∙ ap (λ m. take (length (part p)) old ++ (m ++ drop (length (part p) + length m) old)) told;
    same = unchanged;
  }

-- a part of a buffer that was written anew
pub part_written : (old out : List ℕ) (place k : ℕ) → k ≡ length out → put_mid place k old out ≡ written_over place out old
part_written old out place k e = ap (λ b. take place old ++ (out ++ b)) (drop-drop k place old ∙ ap (λ j. drop j old) (omega (arith, e)))

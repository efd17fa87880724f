-- The three ways to receive values give the same.
use Rattle.std.proofs.Common.{◌≡◌, ◌≢◌, ℕ, zero, suc, ◌+◌, ◌-◌, ◌<◌, Bool, true, false, List, [], ◌∷◌, ◌++◌, length, map, drop, refl, sym, ap, ◌∙◌, subst, inl, inr, ◌⊎◌, arith, append_assoc, length-append, bit_xor, ne_eqb, append-nil}
use Rattle.std.specs.List.{AllZip, AllByRecursion}
use Rattle.std.specs.Int.Bits.{xor_self}
use Rattle.std.proofs.lemmas.Bool.{cases_lt}
use Rattle.std.proofs.lemmas.List.{map-append}
use Rattle.cobs.specs.Frames.{NoZero}
use Rattle.cobs.specs.InPlace.{stretch}
use Rattle.cobs.specs.Sentinel.{masked}
use Rattle.postcard_tree.specs.Tree.{Tree}
use Rattle.postcard.specs.Frames.{Holds, HoldsValue}
use Rattle.postcard.specs.Feeds.{Feeds}
use Rattle.link.specs.Stream.{Verdict, value, damaged, too_long, cut, IsContent, IsAnswer, Heard, Answers, pieces, ended_of, unfinished_of, ended, unfinished}
use Rattle.link.specs.Roads.{values_of, AllFit, ReadsInPlace, nothing, skipped, answered, unanswered, IsSameInPlace, Loops, done, stopped, used_up, consumed, overfull, failed, success, joined, AreValues, AreFirst, IsSameByAccumulator}
use Rattle.link.specs.Lemmas.Facts.{some_bytes}
use Rattle.link.specs.Lemmas.ValueLaws.{values_joined, values_done}
use Rattle.link.specs.Lemmas.MaskLaws.{unmasked as plain, NoZero-append as nonzero_joined}
use Rattle.link.specs.Lemmas.HeardLaws.{IsOne, zip_once, heard_of, heard_skip, heard_ended, heard_alone, at_end}
use Rattle.link.specs.Lemmas.Pieces.{Parted, alone, more, parted, masked_twice, pieces_at, pieces_alone, ended_skip, ended_at, ended_alone}

-- under a limit that they fit, stretches are answered as without one
contents : (holds : List ℕ → Tree → Type 0) (room : ℕ) (ps : List (List ℕ)) (us : List Verdict)
    → AllByRecursion (λ p. length p < room) ps → AllZip (IsAnswer holds room) ps us
    → AllZip (IsContent holds) ps us
contents holds room [] [] f h = tt
contents holds room [] (u ∷ us) f h = absurd h
contents holds room (p ∷ ps) [] f h = absurd h
contents holds room (p ∷ ps) (value t ∷ us) f h = (h.0.1, contents holds room ps us f.1 h.1)
contents holds room (p ∷ ps) (damaged ∷ us) f h = (h.0.1, contents holds room ps us f.1 h.1)
contents holds room (p ∷ ps) (too_long ∷ us) f h = absurd (omega (arith, f.0, h.0))
contents holds room (p ∷ ps) (cut ∷ us) f h = absurd h.0

one_content : (holds : List ℕ → Tree → Type 0) → IsOne holds → IsOne (IsContent holds)
one_content holds one p (value t) (value u) h k = ap value (one p t u h k)
one_content holds one p (value t) damaged h k = absurd (k t h)
one_content holds one p damaged (value u) h k = absurd (h u k)
one_content holds one p damaged damaged h k = refl
one_content holds one p too_long v h k = absurd h
one_content holds one p cut v h k = absurd h
one_content holds one p u too_long h k = absurd k
one_content holds one p u cut h k = absurd k

-- In place

-- what is said of an unfinished stretch
abbrev unended : List ℕ → List Verdict
unended [] = []
unended (b ∷ p) = cut ∷ []

no_values_unended : (p : List ℕ) → values_of (unended p) ≡ []
no_values_unended [] = refl
no_values_unended (b ∷ p) = refl

some_length : (p : List ℕ) → p ≢ [] → 0 < length p
some_length [] n = absurd (n refl)
some_length (b ∷ p) n = omega arith

some_unended : (p : List ℕ) → p ≢ [] → unended p ≡ cut ∷ []
some_unended [] n = absurd (n refl)
some_unended (b ∷ p) n = refl

module _ (holds : List ℕ → Tree → Type 0) (s : ℕ) where
  in_place_heard : {stream : List ℕ} {answers : List Verdict} → ReadsInPlace holds s stream answers
      → Heard (IsContent holds) unended s stream answers
  in_place_heard nothing = heard_alone (IsContent holds) unended s [] tt
  in_place_heard (skipped {stream = stream} {answers = answers} h) = heard_skip (IsContent holds) unended s stream answers (in_place_heard h)
  in_place_heard (answered {stream = stream} {answers = answers} p a rest z n e c h) =
      heard_of (IsContent holds) unended s (masked s p ++ (s ∷ rest)) stream (a ∷ answers) (a ∷ answers) (sym e) refl (heard_ended (IsContent holds) unended s p rest a answers (some_length p n) z c (in_place_heard h))
  in_place_heard (unanswered {stream = stream} p z n e) =
      heard_of (IsContent holds) unended s (masked s p) stream (unended p) (cut ∷ []) (sym e) (some_unended p n) (heard_alone (IsContent holds) unended s p z)

  pub same_in_place : IsOne holds → IsSameInPlace holds s
  same_in_place one room stream us vs f h k =
      let i = in_place_heard k in
      let same : h.done ≡ i.done = zip_once (IsContent holds) (one_content holds one) (ended s stream) h.done i.done (contents holds room (ended s stream) h.done f h.each) i.each in
      values_done h ∙ ap values_of same ∙ sym (ap values_of i.whole ∙ values_joined i.done (unended (unfinished s stream))
      ∙ ap (λ x. values_of i.done ++ x) (no_values_unended (unfinished s stream)) ∙ append-nil (values_of i.done))

-- By an accumulator

nonzero_drop : (n : ℕ) (p : List ℕ) → NoZero p → NoZero (drop n p)
nonzero_drop zero p z = z
nonzero_drop (suc n) [] z = tt
nonzero_drop (suc n) (b ∷ p) z = nonzero_drop n p z.1

stretch_byte : (b : ℕ) (x : List ℕ) → stretch (suc b ∷ x) ≡ suc b ∷ stretch x
stretch_byte b x = rw (ne_eqb (suc b) 0 (λ e. omega arith)) refl

pub stretch_nonzero : (x : List ℕ) → NoZero (stretch x)
stretch_nonzero [] = tt
stretch_nonzero (zero ∷ x) = tt
stretch_nonzero (suc b ∷ x) = subst NoZero (sym (stretch_byte b x)) (omega arith, stretch_nonzero x)

-- bytes without a zero, or those before the first and behind it
pub record Zeroed (x : List ℕ) : Type 0 where
  pub either : (x ≡ stretch x) ⊎ (x ≡ stretch x ++ (0 ∷ drop (length (stretch x) + 1) x))

pub zeroed : (x : List ℕ) → Zeroed x
zeroed [] = record { either = inl refl }
zeroed (zero ∷ x) = record { either = inr refl }
zeroed (suc b ∷ x) = record {
  either = elim (zeroed x).either [
    | inl e ↦ inl (ap (λ y. suc b ∷ y) e ∙ sym (stretch_byte b x))
    | inr e ↦ inr (
        let n : length (stretch (suc b ∷ x)) + 1 ≡ suc (length (stretch x) + 1) = ap (λ y. length y + 1) (stretch_byte b x) ∙ omega arith in
        ap (λ y. suc b ∷ y) e ∙ ap (λ y. y ++ (0 ∷ drop (length (stretch x) + 1) x)) (sym (stretch_byte b x)) ∙ ap (λ m. stretch (suc b ∷ x) ++ (0 ∷ drop m (suc b ∷ x))) (sym n))
  ];
}

pub whole_length : (x : List ℕ) → x ≡ stretch x → length (stretch x) ≡ length x
whole_length x e = ap length (sym e)

pub less_length : (x : List ℕ) → x ≡ stretch x ++ (0 ∷ drop (length (stretch x) + 1) x)
    → length (stretch x) < length x
less_length x e = omega (arith, ap length e, length-append (stretch x) (0 ∷ drop (length (stretch x) + 1) x))

-- What feeding came to: a piece without a zero is kept or doesn't fit, else what stands before the first is answered or doesn't.
pub fed_by : {P : Type 0} (room : ℕ) (held piece kept : List ℕ) (C : Type 0) (O : List ℕ → Type 0)
    (A : List ℕ → List ℕ → Type 0) → Feeds room held piece C O A kept
    → (NoZero piece → C → kept ≡ held ++ piece → P)
    → (NoZero piece → room < length held + length piece → O (drop (room - length held) piece)
    → kept ≡ [] → P)
    → (piece ≡ stretch piece ++ (0 ∷ drop (length (stretch piece) + 1) piece)
    → A (held ++ stretch piece) (drop (length (stretch piece) + 1) piece) → kept ≡ [] → P)
    → (piece ≡ stretch piece ++ (0 ∷ drop (length (stretch piece) + 1) piece)
    → room < length held + length (stretch piece) + 1
    → O (drop (length (stretch piece) + 1) piece) → kept ≡ [] → P) → P
fed_by room held piece kept C O A g keeps full answers over = elim (zeroed piece).either [
  | inl e ↦ (
      let z : NoZero piece = subst NoZero (sym e) (stretch_nonzero piece) in
      elim (cases_lt room (length held + length piece)) [
        | inl l ↦ (let w = g.full (whole_length piece e) l in full z l w.0 w.1)
        | inr l ↦ (let w = g.more (whole_length piece e) l in keeps z w.0 w.1)
      ])
  | inr e ↦ elim (cases_lt room (length held + length (stretch piece) + 1)) [
    | inl l ↦ (let w = g.full_ended (less_length piece e) l in over e l w.0 w.1)
    | inr l ↦ (let w = g.ended (less_length piece e) l in answers e w.0 w.1)
  ]
]

-- the stretches of a stream without a sentinel, and behind the first
pub no_ended : (p : List ℕ) → NoZero p → ended 0 p ≡ []
no_ended p z = ap (ended 0) (sym (plain p)) ∙ ended_alone 0 p z

first_ended : (b : ℕ) (p stream : List ℕ) → NoZero (b ∷ p)
    → ended 0 ((b ∷ p) ++ (0 ∷ stream)) ≡ (b ∷ p) ∷ ended 0 stream
first_ended b p stream z = ap (λ y. ended 0 (y ++ (0 ∷ stream))) (sym (plain (b ∷ p))) ∙ ended_at 0 b p stream z

-- a stretch that fits, where it has bytes
fits : (room : ℕ) (p stream : List ℕ) → 0 < room → NoZero p
    → AllByRecursion (λ q. length q < room) (ended 0 (p ++ (0 ∷ stream))) → length p < room
fits room [] stream l z f = l
fits room (b ∷ p) stream l z f = (subst (AllByRecursion (λ q. length q < room)) (first_ended b p stream z) f).0

module _ {A : Type 0} (takes : Tree → Type 0) (reads : Tree → A → Type 0) (growing may_stop : Bool) (room : ℕ) (some_room : 0 < room) (one : IsOne (Holds takes)) where
  -- values over the rest of a stream, behind its first stretch
  record Rest (p stream : List ℕ) (us : List Verdict) : Type 0 where
    later : List Verdict
    each : AllZip (IsContent (Holds takes)) (ended 0 stream) later
    fit : AllFit room 0 stream
    skips : ((t : Tree) → Holds takes p t → growing ≡ true)
        → (vs : List A) → AreFirst reads growing may_stop (values_of later) vs
        → AreFirst reads growing may_stop (values_of us) vs
    takes_value : (t : Tree) → Holds takes p t → (v : A) → reads t v
        → (vs : List A) → AreFirst reads growing may_stop (values_of later) vs
        → AreFirst reads growing may_stop (values_of us) (v ∷ vs)

  skip_one : (t : Tree) (ts : List Tree) (vs : List A) → growing ≡ true
      → AreValues reads growing ts vs → AreValues reads growing (t ∷ ts) vs
  skip_one t ts [] g h = record { all = λ e. let no : true ≡ false = sym g ∙ e in cc; some = tt }
  skip_one t ts (v ∷ vs) g h = record { all = λ e. let no : true ≡ false = sym g ∙ e in cc; some = inr h.some }

  first_skips : (t : Tree) (ts : List Tree) (vs : List A) → growing ≡ true
      → AreFirst reads growing may_stop ts vs → AreFirst reads growing may_stop (t ∷ ts) vs
  first_skips t ts vs g k = record { first = t ∷ k.first; more = k.more; parts = ap (λ x. t ∷ x) k.parts; are = skip_one t k.first vs g k.are; whole = k.whole }

  first_takes : (t : Tree) (ts : List Tree) (v : A) (vs : List A) → reads t v
      → AreFirst reads growing may_stop ts vs → AreFirst reads growing may_stop (t ∷ ts) (v ∷ vs)
  first_takes t ts v vs r k = record {
    first = t ∷ k.first;
    more = k.more;
    parts = ap (λ x. t ∷ x) k.parts;
    are = record { all = λ e. (r, k.are.all e); some = inl (r, k.are.some) };
    whole = k.whole;
  }

  rest_some : (b : ℕ) (p stream : List ℕ) (us : List Verdict)
      → AllByRecursion (λ q. length q < room) ((b ∷ p) ∷ ended 0 stream)
      → AllZip (IsContent (Holds takes)) ((b ∷ p) ∷ ended 0 stream) us → Rest (b ∷ p) stream us
  rest_some b p stream [] f h = absurd h
  rest_some b p stream (value t ∷ us) f h = record {
    later = us;
    each = h.1;
    fit = f.1;
    skips = λ g vs k. first_skips t (values_of us) vs (g t h.0) k;
    takes_value = λ u k v r vs m. first_takes t (values_of us) v vs (subst (λ z. reads z v) (one (b ∷ p) u t k h.0) r) m;
  }
  rest_some b p stream (damaged ∷ us) f h = record { later = us; each = h.1; fit = f.1; skips = λ g vs k. k; takes_value = λ u k v r vs m. absurd (h.0 u k) }
  rest_some b p stream (too_long ∷ us) f h = absurd h.0
  rest_some b p stream (cut ∷ us) f h = absurd h.0

  rest_of : (p stream : List ℕ) (us : List Verdict) → NoZero p → AllFit room 0 (p ++ (0 ∷ stream))
      → AllZip (IsContent (Holds takes)) (ended 0 (p ++ (0 ∷ stream))) us → Rest p stream us
  rest_of [] stream us z f h = record {
    later = us;
    each = subst (λ ps. AllZip (IsContent (Holds takes)) ps us) (ended_skip 0 stream) h;
    fit = subst (AllByRecursion (λ q. length q < room)) (ended_skip 0 stream) f;
    skips = λ g vs k. k;
    takes_value = λ u k v r vs m. absurd (let l : 0 < length {A = ℕ} [] = some_bytes [] k.message k.frame in omega arith);
  }
  rest_of (b ∷ p) stream us z f h =
      rest_some b p stream us (subst (AllByRecursion (λ q. length q < room)) (first_ended b p stream z) f) (subst (λ ps. AllZip (IsContent (Holds takes)) ps us) (first_ended b p stream z) h)

  -- what is held, this piece and the rest, where the piece has a zero
  split_piece : (held piece rest : List ℕ) → piece
      ≡ stretch piece ++ (0 ∷ drop (length (stretch piece) + 1) piece)
      → held ++ (piece ++ rest)
      ≡ (held ++ stretch piece) ++ (0 ∷ (drop (length (stretch piece) + 1) piece ++ rest))
  split_piece held piece rest e =
      ap (λ y. held ++ (y ++ rest)) e ∙ ap (λ y. held ++ y) (append_assoc (stretch piece) (0 ∷ drop (length (stretch piece) + 1) piece) rest)
      ∙ sym (append_assoc held (stretch piece) (0 ∷ (drop (length (stretch piece) + 1) piece ++ rest)))

  -- what an answered piece leaves to be answered
  ended_rest : (held piece rest kept : List ℕ) (pieces : List (List ℕ)) (us : List Verdict)
      → piece ≡ stretch piece ++ (0 ∷ drop (length (stretch piece) + 1) piece)
      → rest ≡ drop (length (stretch piece) + 1) piece → kept ≡ [] → NoZero held
      → AllFit room 0 (held ++ (piece ++ joined pieces))
      → AllZip (IsContent (Holds takes)) (ended 0 (held ++ (piece ++ joined pieces))) us
      → (r : Rest (held ++ stretch piece) (rest ++ joined pieces) us) × NoZero kept
      × AllFit room 0 (kept ++ (rest ++ joined pieces))
      × AllZip (IsContent (Holds takes)) (ended 0 (kept ++ (rest ++ joined pieces))) r.later
  ended_rest held piece rest kept pieces us e q n z f h =
      let front = held ++ stretch piece in
      let left = rest ++ joined pieces in
      let split : held ++ (piece ++ joined pieces) ≡ front ++ (0 ∷ left) =
      split_piece held piece (joined pieces) e ∙ ap (λ y. front ++ (0 ∷ (y ++ joined pieces))) (sym q) in
      let zf = nonzero_joined held (stretch piece) z (stretch_nonzero piece) in
      let r = rest_of front left us zf (subst (AllFit room 0) split f) (subst (λ y. AllZip (IsContent (Holds takes)) (ended 0 y) us) split h) in
      let same : left ≡ kept ++ left = ap (λ y. y ++ left) (sym n) in
      (r, subst NoZero (sym n) tt, subst (AllFit room 0) same r.fit, subst (λ y. AllZip (IsContent (Holds takes)) (ended 0 y) r.later) same r.each)

  no_values : (us : List Verdict) → AllZip (IsContent (Holds takes)) [] us → us ≡ []
  no_values [] h = refl
  no_values (u ∷ us) h = absurd h

  gathered : {held : List ℕ} {pieces : List (List ℕ)} {vs : List A} (us : List Verdict)
      → Loops takes reads growing may_stop room held pieces vs → NoZero held
      → AllFit room 0 (held ++ joined pieces)
      → AllZip (IsContent (Holds takes)) (ended 0 (held ++ joined pieces)) us
      → AreFirst reads growing may_stop (values_of us) vs
  gathered us (done {held = held}) z f h =
      let e : us ≡ [] = no_values us (subst (λ ps. AllZip (IsContent (Holds takes)) ps us) (ap (ended 0) (append-nil held) ∙ no_ended held z) h) in
      subst (λ y. AreFirst reads growing may_stop (values_of y) []) (sym e) (record { first = []; more = []; parts = refl; are = record { all = λ _. tt; some = tt }; whole = λ _. refl })
  gathered us (stopped e) z f h = record { first = []; more = values_of us; parts = refl; are = record { all = λ _. tt; some = tt }; whole = λ d. let no : true ≡ false = sym e ∙ d in cc }
  gathered us (used_up k) z f h = gathered us k z f h
  gathered us (consumed {held = held} {kept = kept} {piece = piece} {pieces = pieces} g k) z f h =
      fed_by room held piece kept (Unit {0}) (λ r. ⊥) (λ a r. ⊥) g
      (λ zp c same. (
      let whole : held ++ (piece ++ joined pieces) ≡ kept ++ joined pieces = sym (append_assoc held piece (joined pieces)) ∙ ap (λ y. y ++ joined pieces) (sym same) in
      gathered us k (subst NoZero (sym same) (nonzero_joined held piece z zp)) (subst (AllFit room 0) whole f) (subst (λ y. AllZip (IsContent (Holds takes)) (ended 0 y) us) whole h)))
      (λ zp l o e. absurd o) (λ q a e. absurd a) (λ q l o e. absurd o)
  gathered us (overfull {held = held} {kept = kept} {piece = piece} {pieces = pieces} rest g k) z f h =
      fed_by room held piece kept ⊥ (λ r. rest ≡ r) (λ a r. ⊥) g (λ zp c e. absurd c)
      (λ zp l o e. elim (zeroed (joined pieces)).either [
        | inl d ↦ (
            let zx : NoZero (joined pieces) = subst NoZero (sym d) (stretch_nonzero (joined pieces)) in
            let nothing_left : us ≡ [] = no_values us (subst (λ ps. AllZip (IsContent (Holds takes)) ps us) (no_ended (held ++ (piece ++ joined pieces)) (nonzero_joined held (piece ++ joined pieces) z (nonzero_joined piece (joined pieces) zp zx))) h) in
            let zr : NoZero (kept ++ (rest ++ joined pieces)) = subst (λ y. NoZero (y ++ (rest ++ joined pieces))) (sym e) (nonzero_joined rest (joined pieces) (subst NoZero (sym o) (nonzero_drop (room - length held) piece zp)) zx) in
            let none_ended = no_ended (kept ++ (rest ++ joined pieces)) zr in
            gathered us k (subst NoZero (sym e) tt) (subst (AllByRecursion (λ q. length q < room)) (sym none_ended) tt)
            (subst (λ ps. AllZip (IsContent (Holds takes)) ps us) (sym none_ended) (subst (AllZip (IsContent (Holds takes)) []) (sym nothing_left) tt)))
        | inr d ↦ absurd (
            let x = stretch (joined pieces) in
            let y = drop (length x + 1) (joined pieces) in
            let split : held ++ (piece ++ joined pieces) ≡ (held ++ (piece ++ x)) ++ (0 ∷ y) =
            ap (λ q. held ++ (piece ++ q)) d ∙ ap (λ q. held ++ q) (sym (append_assoc piece x (0 ∷ y))) ∙ sym (append_assoc held (piece ++ x) (0 ∷ y)) in
            let l2 : length (held ++ (piece ++ x)) < room = fits room (held ++ (piece ++ x)) y some_room (nonzero_joined held (piece ++ x) z (nonzero_joined piece x zp (stretch_nonzero (joined pieces)))) (subst (AllFit room 0) split f) in
            omega (arith, l, l2, length-append held (piece ++ x), length-append piece x))
      ])
      (λ q a e. absurd a)
      (λ q l o e. absurd (
      let l2 : length (held ++ stretch piece) < room = fits room (held ++ stretch piece) _ some_room (nonzero_joined held (stretch piece) z (stretch_nonzero piece)) (subst (AllFit room 0) (split_piece held piece (joined pieces) q) f) in
      omega (arith, l, l2, length-append held (stretch piece))))
  gathered us (failed {held = held} {kept = kept} {piece = piece} {pieces = pieces} {values = values} rest g k) z f h =
      fed_by room held piece kept ⊥ (λ r. ⊥) (λ a r. (rest ≡ r) × ((t : Tree) → Holds takes a t → growing ≡ true)) g
      (λ zp c e. absurd c) (λ zp l o e. absurd o)
      (λ q a e. (
      let w = ended_rest held piece rest kept pieces us q a.0 e z f h in
      w.0.skips a.1 values (gathered w.0.later k w.1 w.2 w.3)))
      (λ q l o e. absurd o)
  gathered us (success {held = held} {kept = kept} {piece = piece} {pieces = pieces} {values = values} v rest g k) z f h =
      fed_by room held piece kept ⊥ (λ r. ⊥) (λ a r. (rest ≡ r) × HoldsValue takes reads a v) g
      (λ zp c e. absurd c) (λ zp l o e. absurd o)
      (λ q a e. (
      let w = ended_rest held piece rest kept pieces us q a.0 e z f h in
      let t = a.1 in
      w.0.takes_value t.0 t.1 v t.2 values (gathered w.0.later k w.1 w.2 w.3)))
      (λ q l o e. absurd o)

-- XORed with the sentinel a stream has the same stretches, by zeros
module _ (s : ℕ) where
  unmasked_pieces : {x : List ℕ} → Parted s x → pieces 0 (masked s x) ≡ pieces s x
  unmasked_pieces {x} (alone p z e) =
      ap (λ y. pieces 0 (masked s y)) e ∙ ap (pieces 0) (masked_twice s p ∙ sym (plain p)) ∙ pieces_alone 0 p z ∙ sym (ap (pieces s) e ∙ pieces_alone s p z)
  unmasked_pieces {x} (more p rest z e k) =
      let line : masked s (masked s p ++ (s ∷ rest)) ≡ masked 0 p ++ (0 ∷ masked s rest) =
      map-append (bit_xor s) (masked s p) (s ∷ rest) ∙ ap (λ y. y ++ masked s (s ∷ rest)) (masked_twice s p ∙ sym (plain p)) ∙ ap (λ b. masked 0 p ++ (b ∷ masked s rest)) (xor_self s) in
      ap (λ y. pieces 0 (masked s y)) e ∙ ap (pieces 0) line ∙ pieces_at 0 p (masked s rest) z ∙ ap (λ y. p ∷ y) (unmasked_pieces k) ∙ sym (ap (pieces s) e ∙ pieces_at s p rest z)

  same_ended : (x : List ℕ) → ended s x ≡ ended 0 (masked s x)
  same_ended x = ap ended_of (sym (unmasked_pieces (parted s x)))

  same_unfinished : (x : List ℕ) → unfinished s x ≡ unfinished 0 (masked s x)
  same_unfinished x = ap unfinished_of (sym (unmasked_pieces (parted s x)))

  same_heard : (R : List ℕ → Verdict → Type 0) (said : List ℕ → List Verdict) (x : List ℕ)
      (us : List Verdict) → Heard R said s x us → Heard R said 0 (masked s x) us
  same_heard R said x us h = record {
    done = h.done;
    each = subst (λ ps. AllZip R ps h.done) (same_ended x) h.each;
    whole = h.whole ∙ ap (λ u. h.done ++ said u) (same_unfinished x);
  }

  joined_masked : (ps : List (List ℕ)) → masked s (joined ps) ≡ joined (map (masked s) ps)
  joined_masked [] = refl
  joined_masked (p ∷ ps) = map-append (bit_xor s) p (joined ps) ∙ ap (λ y. masked s p ++ y) (joined_masked ps)

pub same_by_accumulator : {A : Type 0} (takes : Tree → Type 0) (reads : Tree → A → Type 0)
    (growing : Bool) (values : List A) (s : ℕ) → IsOne (Holds takes)
    → IsSameByAccumulator takes reads growing values s
same_by_accumulator takes reads growing values s one may_stop room pieces answers l f h k =
    let line = joined_masked s pieces in
    let x = joined (map (masked s) pieces) in
    let fit : AllFit room 0 x = subst (AllFit room 0) line (subst (AllByRecursion (λ q. length q < room)) (same_ended s (joined pieces)) f) in
    let heard : Answers (Holds takes) room 0 x answers = subst (λ y. Answers (Holds takes) room 0 y answers) line (same_heard s (IsAnswer (Holds takes) room) (at_end room) (joined pieces) answers h) in
    let g = gathered takes reads growing may_stop room l one heard.done k tt fit (contents (Holds takes) room (ended 0 x) heard.done fit heard.each) in
    let same : values_of answers ≡ values_of heard.done = values_done heard in
    subst (λ ts. AreFirst reads growing may_stop ts values) (sym same) g

-- The texts of damages, and the bytes that are kept for them.
use Rattle.std.proofs.Common.{◌≡◌, ◌⊎◌, inl, inr, ◌<◌, ◌≤◌, ℕ, zero, suc, ◌+◌, ◌-◌, ◌^◌, ◌==◌, min, codes, if◌then◌else◌, List, [], ◌∷◌, ◌++◌, length, take, drop, get_or, map, String, string_bytes, Global, Result, Ok, Err, OnOk, refl, sym, ap, ◌∙◌, subst, arith, append_assoc, append-nil, bit_xor, eq-eqb, length-append}
use Rattle.std.proofs.lemmas.List.{drop-drop, drop-append-le, length-take-le, length-drop, map-append, length-map, drop-map}
use Rattle.std.proofs.Math.Seq.{drop-append_seam}
use Rattle.cobs.specs.Frames.{NoZero}
use Rattle.cobs.specs.Sentinel.{masked}
use Rattle.schema_table.specs.declared.value.Value.{Value}
use Rattle.link.specs.Stream.{Begun, kept, over, begun, unfinished}
use Rattle.link.specs.Pushes.{begun_length}
use Rattle.link.specs.Listening.{HasGiven}
use Rattle.link.specs.Lemmas.FeedLaws.{is_short}
use Rattle.link.specs.Lemmas.MaskLaws.{masked_length}
use Rattle.link.specs.Lemmas.Pieces.{ends_at, isn't_sentinel}
use Rattle.link.specs.declared.receiver.Answer.{Answer}
use Rattle.link.specs.declared.receiver.Answer.TheVariants as answer
use Rattle.wire_lib.specs.declared.receive.Reading.{Reading}
use Rattle.wire_lib.specs.declared.watching.table.Table.{Table}
use Rattle.wire_lib.specs.Received.{held_by, read_by, place_from}
use Rattle.wire_lib.specs.Fronts.{most_kept, kept_behind, damage_said}
use Rattle.wire_lib.specs.Tables.{KeepsToo, StaysAs, last_of}
use Rattle.wire_lib.specs.Damages.{IsDamageWord, first_bytes, IsTextAt, IsTextOf, HasTexts, AreTextsOf, KeepsEnd}
use Rattle.wire_lib.specs.Seen.{CountsThese, HasCounted, TookAll, KeepsDamage, KeepsText, TakesEach}
use Rattle.wire_lib.proofs.SeenLemmas.{counted_still}

-- what is kept behind bytes in two parts
pub kept_joined : (s : ℕ) (front xs ys : List ℕ)
    → kept_behind s front (xs ++ ys) ≡ kept_behind s (kept_behind s front xs) ys
kept_joined s front [] ys = refl
kept_joined s front (b ∷ xs) ys =
    kept_joined s (if b == s then [] else take most_kept (front ++ b ∷ [])) xs ys

-- the first of some first bytes and others
take_over : (n : ℕ) (xs ys : List ℕ) → take n (take n xs ++ ys) ≡ take n (xs ++ ys)
take_over zero xs ys = refl
take_over (suc n) [] ys = refl
take_over (suc n) (x ∷ xs) ys = ap (λ z. x ∷ z) (take_over n xs ys)

-- a stretch is kept by its first bytes
kept_stretch : (s : ℕ) (front p : List ℕ) → NoZero p
    → kept_behind s (take most_kept front) (masked s p) ≡ take most_kept (front ++ masked s p)
kept_stretch s front [] z = ap (take most_kept) (sym (append-nil front))
kept_stretch s front (b ∷ p) z =
    let c = bit_xor s b in
    let here : (if c == s then [] else take most_kept (take most_kept front ++ c ∷ []))
    ≡ take most_kept (front ++ c ∷ []) =
    ap (λ t. if t then [] else take most_kept (take most_kept front ++ c ∷ [])) (isn't_sentinel s b z.0)
    ∙ take_over most_kept front (c ∷ []) in
    ap (λ f. kept_behind s f (masked s p)) here ∙ kept_stretch s (front ++ c ∷ []) p z.1
    ∙ ap (take most_kept) (append_assoc front (c ∷ []) (masked s p))

-- what is kept of a stream: the first bytes of its unfinished stretch
pub kept_stream : (s : ℕ) (a : List ℕ) → kept_behind s [] a ≡ first_bytes s a
kept_stream s a =
    let h = ends_at s a in
    let u = masked s (unfinished s a) in
    let n : place_from 0 s a ≡ length h.front = omega (
      arith,
      ap length h.whole,
      length-append h.front u,
      masked_length s (unfinished s a),
    ) in
    let rest : drop (place_from 0 s a) a ≡ u =
    ap (λ k. drop k a) n ∙ ap (drop (length h.front)) h.whole ∙ drop-append_seam h.front u in
    ap (kept_behind s []) h.whole ∙ kept_joined s [] h.front u
    ∙ ap (λ f. kept_behind s f u) (between h.front h.between)
    ∙ kept_stretch s [] (unfinished s a) h.nonzero ∙ ap (take most_kept) (sym rest)
  where
    between : (x : List ℕ) → (x ≡ []) ⊎ ((y : List ℕ) × (x ≡ y ++ s ∷ [])) → kept_behind s [] x ≡ []
    between x (inl e) = ap (kept_behind s []) e
    between x (inr (y, e)) = ap (kept_behind s []) e ∙ kept_joined s [] y (s ∷ [])
        ∙ ap (λ t. if t then [] else take most_kept (kept_behind s [] y ++ s ∷ [])) (eq-eqb s s refl)

-- a text is one of a longer stream too
pub text_on : (r : Reading) (stream later : List ℕ) (earlier : List (Answer Value)) (a : Answer Value)
    (text : List ℕ) → IsTextOf r stream earlier a text → IsTextOf r (stream ++ later) earlier a text
text_on r stream later earlier a text h = record {
  front = h.front;
  byte = h.byte;
  more = h.more ++ later;
  parts = ap (λ x. x ++ later) h.parts ∙ append_assoc h.front (h.byte ∷ h.more) later;
  before = h.before;
  with_it = h.with_it;
  text_is = h.text_is;
}

own_on : (r : Reading) (stream later : List ℕ) (earlier : List (Answer Value)) (a : Answer Value)
    (own : List (List ℕ)) → HasTexts r stream earlier a own → HasTexts r (stream ++ later) earlier a own
own_on r stream later earlier (answer.Value v) own h = h
own_on r stream later earlier answer.Damaged own h =
    (h.0, h.1, text_on r stream later earlier answer.Damaged h.0 h.2)
own_on r stream later earlier answer.TooLong own h =
    (h.0, h.1, text_on r stream later earlier answer.TooLong h.0 h.2)
own_on r stream later earlier answer.Cut own h =
    (h.0, h.1, text_on r stream later earlier answer.Cut h.0 h.2)

texts_on : (r : Reading) (stream later : List ℕ) (earlier xs : List (Answer Value))
    (texts : List (List ℕ)) → AreTextsOf r stream earlier xs texts
    → AreTextsOf r (stream ++ later) earlier xs texts
texts_on r stream later earlier [] texts h = h
texts_on r stream later earlier (x ∷ xs) texts (own, rest, e, h, k) = (
  own,
  rest,
  e,
  own_on r stream later earlier x own h,
  texts_on r stream later (earlier ++ x ∷ []) xs rest k,
)

-- the texts of some results, and then those of others
texts_then : (r : Reading) (stream : List ℕ) (earlier xs ys : List (Answer Value))
    (us vs : List (List ℕ)) → AreTextsOf r stream earlier xs us
    → AreTextsOf r stream (earlier ++ xs) ys vs → AreTextsOf r stream earlier (xs ++ ys) (us ++ vs)
texts_then r stream earlier [] ys us vs h k =
    subst (λ z. AreTextsOf r stream earlier ys (z ++ vs)) (sym h)
    (subst (λ z. AreTextsOf r stream z ys vs) (append-nil earlier) k)
texts_then r stream earlier (x ∷ xs) ys us vs (own, rest, e, h, t) k = (
  own,
  rest ++ vs,
  ap (λ z. z ++ vs) e ∙ append_assoc own rest vs,
  h,
  texts_then r stream (earlier ++ x ∷ []) xs ys rest vs t
      (subst (λ z. AreTextsOf r stream z ys vs) (sym (append_assoc earlier (x ∷ []) xs)) k),
)

-- the last ones of what was kept and one more
last_then : {A : Type 0} (n : ℕ) (xs ys : List A) → last_of n (last_of n xs ++ ys) ≡ last_of n (xs ++ ys)
last_then n xs ys =
    let k = length xs - n in
    let joined : last_of n xs ++ ys ≡ drop k (xs ++ ys) = sym (drop-append-le k xs ys (omega arith)) in
    let count : k + (length (last_of n xs ++ ys) - n) ≡ length (xs ++ ys) - n =
    omega (arith, length-append (last_of n xs) ys, length-drop k xs, length-append xs ys) in
    ap (drop (length (last_of n xs ++ ys) - n)) joined
    ∙ drop-drop (length (last_of n xs ++ ys) - n) k (xs ++ ys)
    ∙ ap (λ m. drop m (xs ++ ys)) count

-- a list of one
single : (xs : List ℕ) → length xs ≡ 1 → xs ≡ get_or xs 0 0 ∷ []
single [] e = absurd (omega arith)
single (x ∷ []) e = refl
single (x ∷ y ∷ xs) e = absurd (omega arith)

-- no more than three are kept
pub few : (table : Table) (texts : List (List ℕ)) → map string_bytes table.damages.items ≡ last_of 3 texts
    → length table.damages.items ≤ 3
few table texts e = omega (
  arith,
  ap length e,
  length-map table.damages.items string_bytes,
  length-drop (length texts - 3) texts,
)

-- no text more
keeps_none : (old new : Table) → length old.damages.items ≤ 3 → new.damages.items ≡ old.damages.items → KeepsToo [] old new
keeps_none old new is_few e =
    let said = map string_bytes old.damages.items in
    let none : length (said ++ []) - 3 ≡ 0 =
    omega (arith, is_few, ap length (append-nil said), length-map old.damages.items string_bytes) in
    ap (map string_bytes) e ∙ sym (append-nil said) ∙ ap (λ n. drop n (said ++ [])) (sym none)

-- a text more
keeps_one : (old new : Table) (text : String Global)
    → new.damages.items ≡ last_of 3 (old.damages.items ++ text ∷ []) → KeepsToo (string_bytes text ∷ []) old new
keeps_one old new text e =
    let whole = old.damages.items ++ text ∷ [] in
    ap (map string_bytes) e ∙ sym (drop-map string_bytes (length whole - 3) whole)
    ∙ ap (λ n. drop (n - 3) (map string_bytes whole)) (sym (length-map whole string_bytes))
    ∙ ap (last_of 3) (map-append string_bytes old.damages.items (text ∷ []))

-- some texts more, and then others
keeps_then : (a b c : Table) (xs ys : List (List ℕ)) → KeepsToo xs a b → KeepsToo ys b c → KeepsToo (xs ++ ys) a c
keeps_then a b c xs ys h k =
    let said = map string_bytes a.damages.items in
    k ∙ ap (λ z. last_of 3 (z ++ ys)) h ∙ last_then 3 (said ++ xs) ys ∙ ap (last_of 3) (append_assoc said xs ys)

-- no result is taken
pub takes_none : (r : Reading) (stream : List ℕ) (earlier : List (Answer Value)) (old new : Table)
    → length old.damages.items ≤ 3 → StaysAs old new → TakesEach r stream earlier [] old new
takes_none r stream earlier old new is_few still = record {
  counted = λ xs h. subst (HasCounted new) (sym (append-nil xs)) (counted_still old new xs still h);
  texts = [];
  told = refl;
  kept = keeps_none old new is_few still.damages;
}

-- some are, and then others
pub takes_then : (r : Reading) (stream more : List ℕ) (earlier xs ys : List (Answer Value)) (a b c : Table)
    → TakesEach r stream earlier xs a b → TakesEach r (stream ++ more) (earlier ++ xs) ys b c
    → TakesEach r (stream ++ more) earlier (xs ++ ys) a c
takes_then r stream more earlier xs ys a b c h k = record {
  counted = λ zs n. subst (HasCounted c) (append_assoc zs xs ys) (k.counted (zs ++ xs) (h.counted zs n));
  texts = h.texts ++ k.texts;
  told = texts_then r (stream ++ more) earlier xs ys h.texts k.texts (texts_on r stream more earlier xs h.texts h.told) k.told;
  kept = keeps_then a b c h.texts k.texts h.kept k.kept;
}

-- what a table took that stays as it is
pub takes_still : (r : Reading) (stream : List ℕ) (earlier more : List (Answer Value)) (a b c : Table)
    → StaysAs b c → TakesEach r stream earlier more a b → TakesEach r stream earlier more a c
takes_still r stream earlier more a b c still h = record {
  counted = λ xs n. counted_still b c (xs ++ more) still (h.counted xs n);
  texts = h.texts;
  told = h.told;
  kept = ap (map string_bytes) still.damages ∙ h.kept;
}

-- of a table that has taken all of a stream
pub taken_then : (r : Reading) (stream more : List ℕ) (xs ys : List (Answer Value)) (old new : Table)
    → TookAll r old stream xs → TakesEach r (stream ++ more) xs ys old new → TookAll r new (stream ++ more) (xs ++ ys)
taken_then r stream more xs ys old new h k = record {
  counted = k.counted xs h.counted;
  texts = h.texts ++ k.texts;
  told = texts_then r (stream ++ more) [] xs ys h.texts k.texts (texts_on r stream more [] xs h.texts h.told) k.told;
  last = k.kept ∙ ap (λ z. last_of 3 (z ++ k.texts)) h.last ∙ last_then 3 h.texts k.texts;
}

-- what was kept behind a call that may find no memory
pub if_few : {A E : Type 0} (r : Result A E) (F P : Type 0) → (F → OnOk r P) → OnOk r (F → P)
if_few (Ok x) F P h = h
if_few (Err e) F P h = tt

-- nothing was kept of a message
pub unchanged : {A E : Type 0} (r : Result A E) (a : Answer Value) (v : Value) (from count : ℕ)
    (bytes : List ℕ) (old new : Table) → a ≡ answer.Value v → new.damages ≡ old.damages
    → OnOk r (length old.damages.items ≤ 3 → KeepsText a from count bytes old new)
unchanged (Ok x) a v from count bytes old new e h =
    subst (λ z. length old.damages.items ≤ 3 → KeepsText z from count bytes old new) (sym e) (λ few. h)
unchanged (Err x) a v from count bytes old new e h = tt

-- the text of a result that isn't a message was kept, by which one it is
kept_word : (a : Answer Value) (what : List ℕ) (from count : ℕ) (bytes : List ℕ) (old new : Table)
    → IsDamageWord a what → KeepsDamage what from count bytes old new → KeepsText a from count bytes old new
kept_word (answer.Value v) what from count bytes old new w h = absurd w
kept_word answer.Damaged what from count bytes old new w h = (what, w, h)
kept_word answer.TooLong what from count bytes old new w h = (what, w, h)
kept_word answer.Cut what from count bytes old new w h = (what, w, h)

pub kept_as : {A E : Type 0} (r : Result A E) (a b : Answer Value) (what : List ℕ) (from count : ℕ)
    (bytes : List ℕ) (old new : Table) → a ≡ b → IsDamageWord b what
    → OnOk r (length old.damages.items ≤ 3 → KeepsDamage what from count bytes old new)
    → OnOk r (length old.damages.items ≤ 3 → KeepsText a from count bytes old new)
kept_as (Ok x) a b what from count bytes old new e w h =
    subst (λ z. length old.damages.items ≤ 3 → KeepsText z from count bytes old new) (sym e)
    (λ few. kept_word b what from count bytes old new w (h few))
kept_as (Err x) a b what from count bytes old new e w h = tt

-- how many bytes came
came_on : (at n used m : ℕ) (at' : ℕ) → at ≡ min n (2 ^ 64 - 1) → at' ≡ min (at + used) (2 ^ 64 - 1)
    → m ≡ n + used → at' ≡ min m (2 ^ 64 - 1)
came_on at n used m at' e f g = omega (arith, e, f, g)

module _ (r : Reading) (at at' used n : ℕ) (stream rest front front' before last : List ℕ) (old new : Table)
    (answers : List (Answer Value)) where
  -- what is kept of the partial frame
  pub behind_on : front ≡ kept_behind r.sentinel [] stream
      → front' ≡ kept_behind r.sentinel (kept_behind r.sentinel front before) last
      → take used rest ≡ before ++ last
      → front' ≡ kept_behind r.sentinel [] (stream ++ take used rest)
  behind_on e f g =
      let s = r.sentinel in
      f ∙ sym (kept_joined s front before last) ∙ ap (kept_behind s front) (sym g)
      ∙ ap (λ x. kept_behind s x (take used rest)) e ∙ sym (kept_joined s [] stream (take used rest))

  -- how many bytes came, with these
  pub came_further : at ≡ min (length stream) (2 ^ 64 - 1) → at' ≡ min (at + used) (2 ^ 64 - 1) → used ≤ length rest
      → at' ≡ min (length (stream ++ take used rest)) (2 ^ 64 - 1)
  came_further came e within = came_on at (length stream) used (length (stream ++ take used rest)) at' came e
      (length-append stream (take used rest) ∙ ap (λ k. length stream + k) (length-take-le used rest within))

  -- the text of a result that isn't a message
  pub text_of : (what : List ℕ) (a : Answer Value) (text : List ℕ) → at ≡ min (length stream) (2 ^ 64 - 1)
      → front ≡ kept_behind r.sentinel [] stream
      → HasGiven (held_by r) (read_by r) 65536 r.sentinel answers (stream ++ before)
      → HasGiven (held_by r) (read_by r) 65536 r.sentinel (answers ++ a ∷ []) (stream ++ take used rest)
      → at' ≡ min (at + used) (2 ^ 64 - 1) → take used rest ≡ before ++ last → length last ≡ 1
      → length before + 1 ≡ used
      → n ≡ length (unfinished r.sentinel (stream ++ before)) → IsDamageWord a what
      → text ≡ damage_said what (at' - 1 - n) n (kept_behind r.sentinel front before)
      → IsTextOf r (stream ++ take used rest) answers a text
  text_of what a text came behind g g' e f one many size word said =
      let s = r.sentinel in
      let prefix = stream ++ before in
      let byte = get_or last 0 0 in
      let ends : last ≡ byte ∷ [] = single last one in
      let whole : stream ++ take used rest ≡ prefix ++ byte ∷ [] =
      ap (λ x. stream ++ x) (f ∙ ap (λ x. before ++ x) ends) ∙ sym (append_assoc stream before (byte ∷ [])) in
      let bytes : kept_behind s front before ≡ first_bytes s prefix =
      ap (λ x. kept_behind s x before) behind ∙ sym (kept_joined s [] stream before) ∙ kept_stream s prefix in
      record {
        front = prefix;
        byte = byte;
        more = [];
        parts = whole;
        before = g;
        with_it = subst (HasGiven (held_by r) (read_by r) 65536 s (answers ++ a ∷ [])) whole g';
        text_is = record {
          what = what;
          word = word;
          from = at' - 1 - n;
          is = said ∙ ap (λ k. damage_said what (at' - 1 - n) k (kept_behind s front before)) size
              ∙ ap (damage_said what (at' - 1 - n) (length (unfinished s prefix))) bytes;
          place = λ bound. omega (arith, bound, e, came, size, length-append stream before, many);
        };
      }

  -- a result
  pub takes_one : (a : Answer Value) → at ≡ min (length stream) (2 ^ 64 - 1)
      → front ≡ kept_behind r.sentinel [] stream
      → HasGiven (held_by r) (read_by r) 65536 r.sentinel answers (stream ++ before)
      → HasGiven (held_by r) (read_by r) 65536 r.sentinel (answers ++ a ∷ []) (stream ++ take used rest)
      → at' ≡ min (at + used) (2 ^ 64 - 1) → take used rest ≡ before ++ last → length last ≡ 1
      → length before + 1 ≡ used → n ≡ length (unfinished r.sentinel (stream ++ before))
      → length old.damages.items ≤ 3 → CountsThese (a ∷ []) old new
      → KeepsText a (at' - 1 - n) n (kept_behind r.sentinel front before) old new
      → TakesEach r (stream ++ take used rest) answers (a ∷ []) old new
  takes_one a came behind g g' e f one many size is_few counted keeps = by a g' counted keeps
    where
      stream' : List ℕ
      stream' = stream ++ take used rest

      made : (x : Answer Value) (own : List (List ℕ)) → CountsThese (x ∷ []) old new
          → HasTexts r stream' answers x own → KeepsToo own old new → TakesEach r stream' answers (x ∷ []) old new
      made x own counts told keeps = record {
        counted = counts;
        texts = own;
        told = (own, [], sym (append-nil own), told, refl);
        kept = keeps;
      }

      damage : (x : Answer Value) (what : List ℕ) → IsDamageWord x what
          → HasGiven (held_by r) (read_by r) 65536 r.sentinel (answers ++ x ∷ []) stream'
          → (k : KeepsDamage what (at' - 1 - n) n (kept_behind r.sentinel front before) old new)
          → IsTextOf r stream' answers x (string_bytes k.0)
      damage x what word given k = text_of what x (string_bytes k.0) came behind g given e f one many size word k.1

      by : (x : Answer Value) → HasGiven (held_by r) (read_by r) 65536 r.sentinel (answers ++ x ∷ []) stream'
          → CountsThese (x ∷ []) old new
          → KeepsText x (at' - 1 - n) n (kept_behind r.sentinel front before) old new
          → TakesEach r stream' answers (x ∷ []) old new
      by (answer.Value v) given counts k =
          made (answer.Value v) [] counts refl (keeps_none old new is_few (ap (λ d. d.items) k))
      by answer.Damaged given counts (what, w, k) = made answer.Damaged (string_bytes k.0 ∷ []) counts
          (string_bytes k.0, refl, damage answer.Damaged what w given k) (keeps_one old new k.0 k.2)
      by answer.TooLong given counts (what, w, k) = made answer.TooLong (string_bytes k.0 ∷ []) counts
          (string_bytes k.0, refl, damage answer.TooLong what w given k) (keeps_one old new k.0 k.2)
      by answer.Cut given counts (what, w, k) = made answer.Cut (string_bytes k.0 ∷ []) counts
          (string_bytes k.0, refl, damage answer.Cut what w given k) (keeps_one old new k.0 k.2)

-- the text of a partial frame
pub cut_text : (s at at' n : ℕ) (front : List ℕ) (stream text : List ℕ)
    → at ≡ min (length stream) (2 ^ 64 - 1) → front ≡ kept_behind s [] stream
    → at' ≡ min (at + 1) (2 ^ 64 - 1) → n ≡ length (unfinished s stream)
    → text ≡ damage_said (codes "cut") (at' - 1 - n) n front → IsTextAt s stream answer.Cut text
cut_text s at at' n front stream text came behind further size said =
    let what = codes "cut" in record {
      what = what;
      word = refl;
      from = at' - 1 - n;
      is = said ∙ ap (λ m. damage_said what (at' - 1 - n) m front) size
          ∙ ap (damage_said what (at' - 1 - n) (length (unfinished s stream))) (behind ∙ kept_stream s stream);
      place = λ bound. omega (arith, bound, further, came, size);
    }

-- the end of a stream between frames, and in one
pub end_plain : (s : ℕ) (stream : List ℕ) (added : List (Answer Value)) (table : Table) → length table.damages.items ≤ 3
    → added ≡ [] → KeepsEnd s stream added table table
end_plain s stream added table is_few e =
    subst (λ x. KeepsEnd s stream x table table) (sym e) ([], tt, keeps_none table table is_few refl)

pub end_cut : (s at at' n : ℕ) (front : List ℕ) (old new : Table) (stream : List ℕ) (added : List (Answer Value))
    → added ≡ answer.Cut ∷ [] → at ≡ min (length stream) (2 ^ 64 - 1) → front ≡ kept_behind s [] stream
    → at' ≡ min (at + 1) (2 ^ 64 - 1) → n ≡ length (unfinished s stream)
    → KeepsDamage (codes "cut") (at' - 1 - n) n front old new → KeepsEnd s stream added old new
end_cut s at at' n front old new stream added e came behind further size k =
    let text = cut_text s at at' n front stream (string_bytes k.0) came behind further size k.1 in
    subst (λ x. KeepsEnd s stream x old new) (sym e) (string_bytes k.0 ∷ [], (text, tt), keeps_one old new k.0 k.2)

-- how many bytes are begun, where some are
pub begun_is : (s n : ℕ) (stream : List ℕ) → n ≡ begun_length (begun 65536 s stream) → 0 < n
    → n ≡ length (unfinished s stream)
begun_is s n stream e l = by (begun 65536 s stream) refl e
  where
    by : (b : Begun) → b ≡ begun 65536 s stream → n ≡ begun_length b → n ≡ length (unfinished s stream)
    by (kept p) i k = k ∙ ap length (sym (is_short 65536 (unfinished s stream) p i).0)
    by over i k = absurd (omega (arith, k, l))

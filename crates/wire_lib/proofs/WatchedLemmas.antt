-- The lines of a viewer, and what it knows where memory ran out.
use Rattle.std.proofs.Common.{◌≡◌, ◌≤◌, ℕ, ◌+◌, ◌-◌, ◌^◌, min, codes, List, [], ◌∷◌, ◌++◌, length, take, drop, refl, sym, ap, ◌∙◌, subst, append_assoc, append-nil, take-append-drop}
use Rattle.std.specs.List.{flat_map}
use Rattle.std.proofs.lemmas.Grind.{flat_map-append}
use Rattle.schema_table.specs.declared.value.Value.{Value}
use Rattle.link.specs.Decoding.{in_owner}
use Rattle.link.specs.Listening.{HasGiven}
use Rattle.link.specs.Pushes.{IsLeast}
use Rattle.link.specs.Receivers.{IsBehind}
use Rattle.link.specs.Stream.{unfinished}
use Rattle.link.specs.declared.receiver.Answer.{Answer}
use Rattle.link.specs.declared.receiver.Answer.TheVariants as answer
use Rattle.wire_lib.specs.declared.receive.Reading.{Reading}
use Rattle.wire_lib.specs.declared.watching.table.Row.{Row}
use Rattle.wire_lib.specs.declared.watching.table.Table.{Table}
use Rattle.wire_lib.specs.declared.watching.viewer.Viewer.{Viewer}
use Rattle.wire_lib.specs.Damages.{IsDamageWord}
use Rattle.wire_lib.specs.Fronts.{kept_behind, damage_said}
use Rattle.wire_lib.specs.Printable.{shown_line}
use Rattle.wire_lib.specs.Received.{held_by, read_by}
use Rattle.wire_lib.specs.Seen.{CountsThese, HasCounted, HasMissed, HasWatched, NotesEach}
use Rattle.wire_lib.specs.Watched.{AddsText, AreTextsSeen, IsTextBy, IsTextSeen, SeesEach, SeesEnd}
use Rattle.wire_lib.proofs.DamageLemmas.{cut_text, text_of, text_on}

-- no result, no line
pub sees_none : (r : Reading) (names : List (List ℕ)) (stream : List ℕ) (earlier : List (Answer Value)) (lines : List ℕ)
    → SeesEach r names stream earlier [] lines lines
sees_none r names stream earlier lines = record { texts = []; are = refl; appended = sym (append-nil lines) }

are_seen_then : (r : Reading) (names : List (List ℕ)) (stream : List ℕ) (earlier xs ys : List (Answer Value)) (us vs : List (List ℕ))
    → AreTextsSeen r names stream earlier xs us → AreTextsSeen r names stream (earlier ++ xs) ys vs
    → AreTextsSeen r names stream earlier (xs ++ ys) (us ++ vs)
are_seen_then r names stream earlier [] ys us vs h k =
    subst (λ z. AreTextsSeen r names stream earlier ys (z ++ vs)) (sym h)
    (subst (λ z. AreTextsSeen r names stream z ys vs) (append-nil earlier) k)
are_seen_then r names stream earlier (x ∷ xs) ys us vs (text, rest, e, h, t) k = (
  text,
  rest ++ vs,
  ap (λ z. z ++ vs) e,
  h,
  are_seen_then r names stream (earlier ++ x ∷ []) xs ys rest vs t
      (subst (λ z. AreTextsSeen r names stream z ys vs) (sym (append_assoc earlier (x ∷ []) xs)) k),
)

-- lines of some results, and then of others
pub sees_then : (r : Reading) (names : List (List ℕ)) (stream : List ℕ) (earlier xs ys : List (Answer Value)) (lines mid lines' : List ℕ)
    → SeesEach r names stream earlier xs lines mid → SeesEach r names stream (earlier ++ xs) ys mid lines'
    → SeesEach r names stream earlier (xs ++ ys) lines lines'
sees_then r names stream earlier xs ys lines mid lines' h k = record {
  texts = h.texts ++ k.texts;
  are = are_seen_then r names stream earlier xs ys h.texts k.texts h.are k.are;
  appended = k.appended ∙ ap (λ x. x ++ flat_map shown_line k.texts) h.appended
      ∙ append_assoc lines (flat_map shown_line h.texts) (flat_map shown_line k.texts)
      ∙ ap (λ x. lines ++ x) (sym (flat_map-append shown_line h.texts k.texts));
}

-- what a line says of a longer stream
seen_on : (r : Reading) (names : List (List ℕ)) (stream later : List ℕ) (earlier : List (Answer Value)) (a : Answer Value) (text : List ℕ)
    → IsTextSeen r names stream earlier a text → IsTextSeen r names (stream ++ later) earlier a text
seen_on r names stream later earlier (answer.Value v) text h = h
seen_on r names stream later earlier answer.Damaged text h = text_on r stream later earlier answer.Damaged text h
seen_on r names stream later earlier answer.TooLong text h = text_on r stream later earlier answer.TooLong text h
seen_on r names stream later earlier answer.Cut text h = text_on r stream later earlier answer.Cut text h

module _ (r : Reading) (names : List (List ℕ)) (at at' used n : ℕ) (stream rest front before last : List ℕ) (table : Table)
    (answers : List (Answer Value)) where
  -- the line of a result
  pub sees_one : (a : Answer Value) (lines lines' : List ℕ) → at ≡ min (length stream) (2 ^ 64 - 1)
      → front ≡ kept_behind r.sentinel [] stream
      → HasGiven (held_by r) (read_by r) 65536 r.sentinel answers (stream ++ before)
      → HasGiven (held_by r) (read_by r) 65536 r.sentinel (answers ++ a ∷ []) (stream ++ take used rest)
      → at' ≡ min (at + used) (2 ^ 64 - 1) → take used rest ≡ before ++ last → length last ≡ 1 → length before + 1 ≡ used
      → n ≡ length (unfinished r.sentinel (stream ++ before))
      → AddsText r names (λ what. damage_said what (at' - 1 - n) n (kept_behind r.sentinel front before)) a lines lines'
      → SeesEach r names (stream ++ rest) answers (a ∷ []) lines lines'
  sees_one a lines lines' came behind g g' e f one many size (text, is, appended) = record {
    texts = text ∷ [];
    are = (
      text,
      [],
      refl,
      subst (λ x. IsTextSeen r names x answers a text) whole
          (seen_on r names stream' (drop used rest) answers a text (by a g' is)),
      refl,
    );
    appended = appended ∙ ap (λ x. lines ++ x) (sym (append-nil (shown_line text)));
  }
    where
      stream' : List ℕ
      stream' = stream ++ take used rest

      whole : stream' ++ drop used rest ≡ stream ++ rest
      whole = append_assoc stream (take used rest) (drop used rest) ∙ ap (λ x. stream ++ x) (take-append-drop used rest)

      damage : (x : Answer Value) (what : List ℕ) → IsDamageWord x what
          → HasGiven (held_by r) (read_by r) 65536 r.sentinel (answers ++ x ∷ []) stream'
          → text ≡ damage_said what (at' - 1 - n) n (kept_behind r.sentinel front before)
          → IsTextSeen r names stream' answers x text
      damage (answer.Value v) what word given said = absurd word
      damage answer.Damaged what word given said = text_of r at at' used n stream rest front front before last table table answers
          what answer.Damaged text came behind g given e f one many size word said
      damage answer.TooLong what word given said = text_of r at at' used n stream rest front front before last table table answers
          what answer.TooLong text came behind g given e f one many size word said
      damage answer.Cut what word given said = text_of r at at' used n stream rest front front before last table table answers
          what answer.Cut text came behind g given e f one many size word said

      by : (x : Answer Value) → HasGiven (held_by r) (read_by r) 65536 r.sentinel (answers ++ x ∷ []) stream'
          → IsTextBy r names (λ what. damage_said what (at' - 1 - n) n (kept_behind r.sentinel front before)) x text
          → IsTextSeen r names stream' answers x text
      by (answer.Value v) given k = k
      by answer.Damaged given (what, w, k) = damage answer.Damaged what w given k
      by answer.TooLong given (what, w, k) = damage answer.TooLong what w given k
      by answer.Cut given (what, w, k) = damage answer.Cut what w given k

-- the end of a stream between frames, and in one
pub sees_plain : (s : ℕ) (stream : List ℕ) (added : List (Answer Value)) (lines : List ℕ) → added ≡ [] → SeesEnd s stream added lines lines
sees_plain s stream added lines e =
    subst (λ x. SeesEnd s stream x lines lines) (sym e) (record { texts = []; are = tt; appended = sym (append-nil lines) })

pub sees_cut : (s at at' n : ℕ) (front stream : List ℕ) (added : List (Answer Value)) (lines lines' : List ℕ)
    → added ≡ answer.Cut ∷ [] → at ≡ min (length stream) (2 ^ 64 - 1) → front ≡ kept_behind s [] stream
    → at' ≡ min (at + 1) (2 ^ 64 - 1) → n ≡ length (unfinished s stream)
    → lines' ≡ lines ++ shown_line (damage_said (codes "cut") (at' - 1 - n) n front)
    → SeesEnd s stream added lines lines'
sees_cut s at at' n front stream added lines lines' e came behind further size appended =
    let text = damage_said (codes "cut") (at' - 1 - n) n front in
    subst (λ x. SeesEnd s stream x lines lines') (sym e) (record {
      texts = text ∷ [];
      are = (cut_text s at at' n front stream text came behind further size refl, tt);
      appended = appended ∙ ap (λ x. lines ++ x) (sym (append-nil (shown_line text)));
    })

-- a viewer that loses a result, whether or not another one was lost before
pub missed_by : (v : Viewer) (r : Reading) (stream rest : List ℕ) (used : ℕ) (answers : List (Answer Value)) → v.reading ≡ r
    → HasGiven (held_by r) (read_by r) 65536 r.sentinel answers stream
    → IsLeast (held_by r) 65536 r.sentinel stream rest used
    → IsBehind in_owner 65536 r.sentinel v.receiver (stream ++ take used rest)
    → v.at ≡ min (length (stream ++ take used rest)) (2 ^ 64 - 1)
    → v.front.items ≡ kept_behind r.sentinel [] (stream ++ take used rest)
    → length v.table.damages.items ≤ 3 → HasMissed v stream rest answers
missed_by v r stream rest used answers e g l b c k f = record {
  given = subst (λ x. HasGiven (held_by x) (read_by x) 65536 x.sentinel answers stream) (sym e) g;
  used = used;
  least = subst (λ x. IsLeast (held_by x) 65536 x.sentinel stream rest used) (sym e) l;
  stands = record {
    after = subst (λ x. IsBehind in_owner 65536 x.sentinel v.receiver (stream ++ take used rest)) (sym e) b;
    came = c;
    behind = subst (λ x. v.front.items ≡ kept_behind x.sentinel [] (stream ++ take used rest)) (sym e) k;
    few = f;
  };
}

-- one that counts a result, whether or not one was lost before
pub watched_by : (v : Viewer) (r : Reading) (stream : List ℕ) (answers : List (Answer Value)) → v.reading ≡ r
    → HasGiven (held_by r) (read_by r) 65536 r.sentinel answers stream
    → IsBehind in_owner 65536 r.sentinel v.receiver stream
    → v.at ≡ min (length stream) (2 ^ 64 - 1)
    → v.front.items ≡ kept_behind r.sentinel [] stream → length v.table.damages.items ≤ 3
    → HasWatched v stream answers
watched_by v r stream answers e g b c k f = record {
  given = subst (λ x. HasGiven (held_by x) (read_by x) 65536 x.sentinel answers stream) (sym e) g;
  stands = record {
    after = subst (λ x. IsBehind in_owner 65536 x.sentinel v.receiver stream) (sym e) b;
    came = c;
    behind = subst (λ x. v.front.items ≡ kept_behind x.sentinel [] stream) (sym e) k;
    few = f;
  };
}

-- no result is added
pub watched_none : (v : Viewer) (stream : List ℕ) (xs : List (Answer Value)) → HasWatched v stream xs → HasWatched v (stream ++ []) (xs ++ [])
watched_none v stream xs h =
    subst (λ x. HasWatched v x (xs ++ [])) (sym (append-nil stream)) (subst (λ x. HasWatched v stream x) (sym (append-nil xs)) h)

-- some are, and then others
pub watched_then : (v : Viewer) (stream x y : List ℕ) (xs ys zs : List (Answer Value)) → HasWatched v ((stream ++ x) ++ y) ((xs ++ ys) ++ zs)
    → HasWatched v (stream ++ (x ++ y)) (xs ++ (ys ++ zs))
watched_then v stream x y xs ys zs h =
    subst (λ z. HasWatched v z (xs ++ (ys ++ zs))) (append_assoc stream x y)
    (subst (λ z. HasWatched v ((stream ++ x) ++ y) z) (append_assoc xs ys zs) h)

-- none is counted
pub counts_none : (t : Table) → CountsThese [] t t
counts_none t xs h = subst (HasCounted t) (sym (append-nil xs)) h

-- some messages are noted, and then others
pub notes_then : (r : Reading) (window : ℕ) (xs ys : List (Answer Value)) (a b c : List Row)
    → NotesEach r window xs a b → NotesEach r window ys b c → NotesEach r window (xs ++ ys) a c
notes_then r window [] ys a b c h k = subst (λ z. NotesEach r window ys z c) h k
notes_then r window (x ∷ xs) ys a b c (mid, noted, h) k = (mid, noted, notes_then r window xs ys mid b c h k)

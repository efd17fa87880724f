-- The lines of answers, and the places that they say.
use Rattle.std.proofs.Common.{◌≡◌, ℕ, zero, suc, ◌+◌, ◌-◌, ◌^◌, ◌<◌, ◌≤◌, Bool, true, false, min, cond, List, [], ◌∷◌, ◌++◌, length, take, drop, get_or, Option, Some, Result, Ok, Err, OnOk, is_ok, is_some, codes, option_to_list, refl, sym, ap, ◌∙◌, subst, append_assoc, arith, ◌==◌, if◌then◌else◌}
use Rattle.std.specs.List.{flat_map}
use Rattle.std.specs.Str.{IsUtf8}
use Rattle.std.proofs.lemmas.List.{append-nil, take-append-drop, take_more, length-append, length-take-le}
use Rattle.std.proofs.lemmas.Slice.Zip.{AllZip-long}
use Rattle.std.proofs.lemmas.Grind.{flat_map-append}
use Rattle.cobs.specs.InPlace.{stretch}
use Rattle.cobs.specs.Sentinel.{masked}
use Rattle.postcard_tree.specs.Tree.{Tree}
use Rattle.schema_table.specs.declared.value.Value.{Value}
use Rattle.link.specs.Stream.{Begun, kept, over, begun, unfinished, Given, Verdict}
use Rattle.link.specs.Pushes.{Answered, IsLeast, finished, begun_length}
use Rattle.link.specs.Listening.{HasGiven}
use Rattle.link.specs.Lemmas.FeedLaws.{is_short}
use Rattle.link.specs.Lemmas.MaskLaws.{masked_length}
use Rattle.link.specs.declared.receiver.Answer.{Answer}
use Rattle.link.specs.declared.receiver.NoMemory.{NoMemory}
use Rattle.link.specs.declared.receiver.Answer.TheVariants as answer
use Rattle.wire_lib.specs.declared.receive.Reading.{Reading}
use Rattle.json.specs.Json.{Json}
use Rattle.json.specs.Lex.{tokens}
use Rattle.json.specs.Print.{print}
use Rattle.json.specs.Token.{Token}
use Rattle.json.specs.Tree.{json_tokens}
use Rattle.schema_table.specs.Printed.{Shows}
use Rattle.wire_lib.specs.Sent.{LacksFeed}
use Rattle.wire_lib.specs.Said.{OnlyAppended, IsLineOf, IsTextFor, SaysLine, known_to, end_said, value_line}
use Rattle.wire_lib.proofs.FeedLemmas.{text_lacks}
use Rattle.wire_print.specs.TokenLaws.{text_shown, text_read}
use Rattle.std.proofs.lemmas.Result.{on_ok_weaker}
use Rattle.wire_lib.specs.Received.{held_by, read_by, as_list, place_to, IsLineAt, AreSaid, TellsEach, TellsEnd}

-- nothing was appended
pub only_none : (lines : List ℕ) → OnlyAppended lines lines
only_none lines = ([], sym (append-nil lines))

-- bytes were appended, and then others
pub only_then : (a b c : List ℕ) → OnlyAppended a b → OnlyAppended b c → OnlyAppended a c
only_then a b c p q =
    (p.0 ++ q.0, q.1 ∙ ap (λ x. x ++ q.0) p.1 ∙ append_assoc a p.0 q.0)

-- bytes were appended, or memory was out
pub only_maybe : (b : Bool) (lines lines' bytes : List ℕ)
    → lines' ≡ cond b (lines ++ bytes) lines → OnlyAppended lines lines'
only_maybe true lines lines' bytes e = (bytes, e)
only_maybe false lines lines' bytes e = ([], e ∙ sym (append-nil lines))

-- the parts of a value's line, one after another
pub value_line_of : (cleared first second third said : List ℕ)
    → cleared ≡ [] → first ≡ cleared ++ codes "{\"value\":" → second ≡ first ++ said
    → third ≡ second ++ codes "}\n" → third ≡ value_line said
value_line_of cleared first second third said e f g h =
    h ∙ ap (λ x. x ++ codes "}\n") (g ∙ ap (λ x. x ++ said) (f ∙ ap (λ x. x ++ codes "{\"value\":") e))
    ∙ append_assoc (codes "{\"value\":") said (codes "}\n")

-- what a writer appends to the bytes that it began with, is the text of the value that was printed
pub text_written : {E : Type 0} (r : Result (Unit {0}) E) (reading : Reading) (v : Value) (text before : List ℕ) (old new : List Token) → old ≡ [] → text ≡ before ++ print new → tokens (print new) ≡ new → IsUtf8 (print new)
    → OnOk r ((j : Json) × (new ≡ old ++ json_tokens j) × Shows reading.hex reading.schema.now reading.depth reading.place v j)
    → OnOk r ((said : List ℕ) × IsTextFor reading v said × (text ≡ before ++ said))
text_written r reading v text before old new empty whole back utf8 h = on_ok_weaker r
    (λ k.
    let shown = text_shown (print new) [] old new (json_tokens k.0) refl refl empty k.1 in
    let read = text_read (print new) old new (json_tokens k.0) back empty k.1 shown in
    (print new, ((k.0, shown, read, k.2, utf8), subst LacksFeed (sym shown) (text_lacks (json_tokens k.0) (ap tokens (sym shown) ∙ read))), whole)) h

-- what was appended where that succeeded
pub on_appended : {E : Type 0} (r : Result (Unit {0}) E) (x a b : List ℕ)
    → x ≡ (if is_ok r then a else b) → OnOk r (x ≡ a)
on_appended (Ok u) x a b e = e
on_appended (Err u) x a b e = tt

-- the line of an answer that is no value, by which one it is
pub says_as : {E : Type 0} (reading : Reading) (r : Result (Unit {0}) E) (a b : Answer Value)
    (from from' to last known : ℕ) (lines lines' line : List ℕ)
    → a ≡ b → from ≡ from' → to ≡ end_said b last known → IsLineOf reading b from to line
    → OnOk r (lines' ≡ lines ++ line)
    → OnOk r (SaysLine reading a from' (end_said a last known) lines lines')
says_as reading (Err e) a b from from' to last known lines lines' line i j k is h = tt
says_as reading (Ok x) a b from from' to last known lines lines' line i j k is h =
    subst (λ z. SaysLine reading z from' (end_said z last known) lines lines') (sym i) (record {
      line = line;
      is = subst (λ z. IsLineOf reading b from' z line) k (subst (λ z. IsLineOf reading b z to line) j is);
      appended = h;
    })

-- the line of a value
pub says_value : {E : Type 0} (reading : Reading) (r : Result (Unit {0}) E) (a : Answer Value) (v : Value)
    (from to : ℕ) (lines lines' : List ℕ) → a ≡ answer.Value v
    → OnOk r ((text : List ℕ) × IsTextFor reading v text × (lines' ≡ lines ++ value_line text))
    → OnOk r (SaysLine reading a from to lines lines')
says_value reading (Err e) a v from to lines lines' i h = tt
says_value reading (Ok x) a v from to lines lines' i (text, is, e) =
    subst (λ z. SaysLine reading z from to lines lines') (sym i)
    (record { line = value_line text; is = (text, is, refl); appended = e })

-- the same lines, of a stream in other words
pub tells_as : (r r' : Reading) (passed : ℕ) (stream x y : List ℕ)
    (earlier more : List (Answer Value)) (lines lines' : List ℕ) → r ≡ r' → x ≡ y
    → TellsEach r passed (stream ++ x) earlier more lines lines'
    → TellsEach r' passed (stream ++ y) earlier more lines lines'
tells_as r r' passed stream x y earlier more lines lines' e f h =
    subst (λ z. TellsEach z passed (stream ++ y) earlier more lines lines') e
    (subst (λ z. TellsEach r passed (stream ++ z) earlier more lines lines') f h)

-- no answer, no line
pub tells_none : (r : Reading) (passed : ℕ) (stream : List ℕ) (earlier : List (Answer Value))
    (lines : List ℕ) → TellsEach r passed stream earlier [] lines lines
tells_none r passed stream earlier lines =
    record { each = []; are = tt; appended = sym (append-nil lines) }

are_said_then : (r : Reading) (passed : ℕ) (stream : List ℕ) (earlier xs ys : List (Answer Value))
    (us vs : List (List ℕ)) → AreSaid r passed stream earlier xs us
    → AreSaid r passed stream (earlier ++ xs) ys vs
    → AreSaid r passed stream earlier (xs ++ ys) (us ++ vs)
are_said_then r passed stream earlier [] ys [] vs h k =
    subst (λ e. AreSaid r passed stream e ys vs) (append-nil earlier) k
are_said_then r passed stream earlier [] ys (u ∷ us) vs h k = absurd h
are_said_then r passed stream earlier (x ∷ xs) ys [] vs h k = absurd h
are_said_then r passed stream earlier (x ∷ xs) ys (u ∷ us) vs h k = (
  h.0,
  are_said_then r passed stream (earlier ++ x ∷ []) xs ys us vs h.1
      (subst (λ e. AreSaid r passed stream e ys vs) (sym (append_assoc earlier (x ∷ []) xs)) k),
)

-- lines of some answers, and then of others
pub tells_then : (r : Reading) (passed : ℕ) (stream : List ℕ) (earlier xs ys : List (Answer Value))
    (lines mid lines' : List ℕ) → TellsEach r passed stream earlier xs lines mid
    → TellsEach r passed stream (earlier ++ xs) ys mid lines'
    → TellsEach r passed stream earlier (xs ++ ys) lines lines'
tells_then r passed stream earlier xs ys lines mid lines' h k = record {
  each = h.each ++ k.each;
  are = are_said_then r passed stream earlier xs ys h.each k.each h.are k.are;
  appended = k.appended ∙ ap (λ x. x ++ flat_map (λ line. line) k.each) h.appended
      ∙ append_assoc lines (flat_map (λ line. line) h.each) (flat_map (λ line. line) k.each)
      ∙ ap (λ x. lines ++ x) (sym (flat_map-append (λ line. line) h.each k.each));
}

-- a stream has as many answers each time
given_count : (holds : List ℕ → Tree → Type 0) (limit s : ℕ) (stream : List ℕ)
    (us vs : List Verdict) → Given holds limit s stream us
    → Given holds limit s stream vs → length us ≡ length vs
given_count holds limit s stream us vs h k =
    let a = ap length h.whole ∙ length-append h.done _ in
    let b = ap length k.whole ∙ length-append k.done _ in
    omega (arith, a, b, AllZip-long _ _ _ h.each, AllZip-long _ _ _ k.each)

-- fewer bytes than a push used bring no answer, also if a value found no memory
pub least_of : {V : Type 0} (holds : List ℕ → Tree → Type 0) (reads : Tree → V → Type 0) (limit s : ℕ)
    (stream rest : List ℕ) (used : ℕ) (result : Result (Option (Answer V)) NoMemory)
    → Answered holds reads limit s stream rest used result → IsLeast holds limit s stream rest used
least_of holds reads limit s stream rest used (Ok o) (a, says, push) = push.least
least_of holds reads limit s stream rest used (Err e) lost = lost.least

module _ (r : Reading) (stream rest : List ℕ) (answers : List (Answer Value)) (a : Answer Value) where
  -- a byte brings an answer
  used_some : (used : ℕ) → HasGiven (held_by r) (read_by r) 65536 r.sentinel answers stream
      → Answered (held_by r) (read_by r) 65536 r.sentinel stream rest used (Ok (Some a)) → 0 < used
  used_some zero g (o, says, push) =
      let more : Given (held_by r) 65536 r.sentinel stream (g.verdicts ++ says.0 ∷ []) =
      subst (λ x. Given (held_by r) 65536 r.sentinel x (g.verdicts ++ says.0 ∷ []))
      (append-nil stream)
      (subst (λ x. Given (held_by r) 65536 r.sentinel (stream ++ [])
      (g.verdicts ++ option_to_list x)) says.2 (push.gives g.verdicts g.given)) in
      absurd (omega (
        arith,
        given_count (held_by r) 65536 r.sentinel stream g.verdicts
            (g.verdicts ++ says.0 ∷ []) g.given more,
        length-append g.verdicts (says.0 ∷ []),
      ))
  used_some (suc used) g h = omega arith

  -- without the last byte the answer isn't there
  pub before_it : (used : ℕ) → 0 < used
      → (g : HasGiven (held_by r) (read_by r) 65536 r.sentinel answers stream)
      → Answered (held_by r) (read_by r) 65536 r.sentinel stream rest used (Ok (Some a))
      → HasGiven (held_by r) (read_by r) 65536 r.sentinel answers (stream ++ take (used - 1) rest)
  before_it used l g (o, says, push) = record {
    verdicts = g.verdicts;
    given = push.least.same g.verdicts g.given (used - 1) (omega arith);
    matching = g.matching;
  }

-- the last of the first bytes
last_of : (rest : List ℕ) (used : ℕ) → 0 < used → used ≤ length rest
    → take used rest ≡ take (used - 1) rest ++ get_or rest (used - 1) 0 ∷ []
last_of rest used l m =
    let e : used ≡ used - 1 + 1 = omega arith in
    ap (λ n. take n rest) e ∙ take_more rest (used - 1) 0 (omega arith)

parted_at : (rest : List ℕ) (used : ℕ) → 0 < used → used ≤ length rest
    → rest ≡ take (used - 1) rest ++ (get_or rest (used - 1) 0 ∷ drop used rest)
parted_at rest used l m = sym (take-append-drop used rest)
    ∙ ap (λ x. x ++ drop used rest) (last_of rest used l m)
    ∙ append_assoc (take (used - 1) rest) (get_or rest (used - 1) 0 ∷ []) (drop used rest)

-- the bytes before a sentinel are no more than there are
if_short : (b : Bool) (x n : ℕ) (xs : List ℕ) → length xs ≤ n → length (cond b [] (x ∷ xs)) ≤ n + 1
if_short true x n xs l = omega arith
if_short false x n xs l = omega arith

stretch_short : (xs : List ℕ) → length (stretch xs) ≤ length xs
stretch_short [] = omega arith
stretch_short (x ∷ xs) =
    omega (arith, if_short (x == 0) x (length xs) (stretch xs) (stretch_short xs))

masked_short : (s : ℕ) (xs : List ℕ) → length (stretch (masked s xs)) ≤ length xs
masked_short s xs = omega (arith, stretch_short (masked s xs), masked_length s xs)

-- the place up to which an answer is said to go
to_place : (passed s at : ℕ) (a : Answer Value) (front more : List ℕ) (byte : ℕ)
    → at ≡ passed + length front + 1 → at + length more < 2 ^ 64
    → end_said a (at - 1) (known_to at s more) ≡ place_to passed s a front (byte ∷ more)
to_place passed s at (answer.Value v) front more byte e l = omega arith
to_place passed s at answer.Damaged front more byte e l = omega arith
to_place passed s at answer.TooLong front more byte e l = omega (arith, masked_short s more)
to_place passed s at answer.Cut front more byte e l = omega arith

-- how many bytes came
came_to : (passed n used k at at' : ℕ) → at ≡ min (passed + n) (2 ^ 64 - 1)
    → at' ≡ min (at + used) (2 ^ 64 - 1) → 0 < used → passed + (n + (used - 1) + (1 + k)) < 2 ^ 64
    → (at' ≡ passed + (n + (used - 1)) + 1) × (at' + k < 2 ^ 64)
came_to passed n used k at at' e f l m = (omega arith, omega arith)

-- an answer of a push is told by its line
pub told_by_push : (r : Reading) (passed at at' : ℕ) (stream rest : List ℕ)
    (answers : List (Answer Value)) (a : Answer Value) (used n : ℕ) (lines lines' : List ℕ)
    → HasGiven (held_by r) (read_by r) 65536 r.sentinel answers stream
    → HasGiven (held_by r) (read_by r) 65536 r.sentinel (answers ++ a ∷ [])
    (stream ++ take used rest)
    → Answered (held_by r) (read_by r) 65536 r.sentinel stream rest used (Ok (Some a))
    → n ≡ length (unfinished r.sentinel (stream ++ take (used - 1) rest)) → used ≤ length rest
    → at ≡ min (passed + length stream) (2 ^ 64 - 1) → at' ≡ min (at + used) (2 ^ 64 - 1)
    → SaysLine r a (at' - 1 - n) (end_said a (at' - 1) (known_to at' r.sentinel (drop used rest)))
    lines lines'
    → TellsEach r passed (stream ++ rest) answers (a ∷ []) lines lines'
told_by_push r passed at at' stream rest answers a used n lines lines' g with_it answered size
    within came came' says =
    let l : 0 < used = used_some r stream rest answers a used g answered in
    let byte = get_or rest (used - 1) 0 in
    let more = drop used rest in
    let first = take (used - 1) rest in
    let front = stream ++ first in
    let long : length front ≡ length stream + (used - 1) =
    omega (arith, length-append stream first, length-take-le (used - 1) rest (omega arith)) in
    let line : IsLineAt r passed front (byte ∷ more) a says.line = record {
      from = at' - 1 - n;
      to = end_said a (at' - 1) (known_to at' r.sentinel more);
      is = says.is;
      places = λ bound.
          let c = came_to passed (length stream) used (length more) at at' came came' l
          (omega (arith, bound, long, length-append front (byte ∷ more))) in
          let on : at' ≡ passed + length front + 1 = omega (arith, c.0, long) in
          (omega (arith, on, size), to_place passed r.sentinel at' a front more byte on c.1);
    } in
    record {
      each = says.line ∷ [];
      are = (
        record {
          front = front;
          byte = byte;
          more = more;
          parts = ap (λ x. stream ++ x) (parted_at rest used l within)
              ∙ sym (append_assoc stream first (byte ∷ more));
          before = before_it r stream rest answers a used l g answered;
          with_it = subst (λ x. HasGiven (held_by r) (read_by r) 65536 r.sentinel
              (answers ++ a ∷ []) x)
              (ap (λ x. stream ++ x) (last_of rest used l within)
              ∙ sym (append_assoc stream first (byte ∷ []))) with_it;
          line_is = line;
        },
        tt,
      );
      appended = says.appended ∙ ap (λ x. lines ++ x) (sym (append-nil says.line));
    }

-- the end of a stream in no stretch, and in one
pub none_at_end : (r : Reading) (passed : ℕ) (stream lines : List ℕ) (b : Begun)
    → is_some (finished {V = Value} b) ≡ false
    → TellsEnd r passed stream (as_list (finished b)) lines lines
none_at_end r passed stream lines (kept []) h =
    record { each = []; are = tt; appended = sym (append-nil lines) }
none_at_end r passed stream lines (kept (x ∷ p)) h = cc
none_at_end r passed stream lines over h =
    record { each = []; are = tt; appended = sym (append-nil lines) }

pub cut_at_end : (r : Reading) (passed at n : ℕ) (stream lines lines' : List ℕ) (b : Begun)
    → b ≡ begun 65536 r.sentinel stream → is_some (finished {V = Value} b) ≡ true
    → n ≡ begun_length b → at ≡ min (passed + length stream) (2 ^ 64 - 1)
    → SaysLine r answer.Cut (at - n) at lines lines'
    → TellsEnd r passed stream (as_list (finished b)) lines lines'
cut_at_end r passed at n stream lines lines' (kept []) i h size came says = cc
cut_at_end r passed at n stream lines lines' (kept (x ∷ p)) i h size came says =
    let u : unfinished r.sentinel stream ≡ x ∷ p =
    (is_short 65536 (unfinished r.sentinel stream) (x ∷ p) i).0 in
    record {
      each = says.line ∷ [];
      are = (
        record {
          from = at - n;
          to = at;
          is = says.is;
          places = λ bound.
              let on : at ≡ passed + length stream =
              omega (arith, came, bound, length-append stream []) in
              (omega (arith, on, size, ap length u), on);
        },
        tt,
      );
      appended = says.appended ∙ ap (λ x. lines ++ x) (sym (append-nil says.line));
    }
cut_at_end r passed at n stream lines lines' over i h size came says = cc

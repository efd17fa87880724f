-- The lines of answers, and of the trees that they were read from.
use Rattle.std.proofs.Math.Seq.{drop-cons, take-length}
use Rattle.std.proofs.Common.{take, drop, get_or, add-one, ◌+◌, ◌-◌, ◌≡◌, ℕ, suc, ◌<◌, ◌==◌, Bool, true, false, ◌||◌, if◌then◌else◌, arith, List, [], ◌∷◌, ◌++◌, length, refl, sym, ap, ◌∙◌, subst}
use Rattle.std.specs.List.{list_all, AllZip}
use Rattle.std.specs.Prelude.{flat_map, string_bytes, Option, Some, None}
use Rattle.std.specs.declared.string.String.{String}
use Rattle.std.proofs.lemmas.Grind.{flat_map-append}
use Rattle.std.proofs.lemmas.Bool.{eqb-true, ne_eqb}
use Rattle.std.proofs.lemmas.List.{take-append-drop, length-drop, length-take, get_or-take}
use Rattle.memchr.specs.Find.{is_byte2}
use Rattle.postcard_tree.specs.Tree.{Tree, byte, number, character, sequence, group, Trees, end, part}
use Rattle.postcard_tree.specs.Reading.{ReadsAll, ReadsByte, ReadsText}
use Rattle.link.specs.Stream.{Verdict}
use Rattle.link.specs.Pushes.{Matches}
use Rattle.link.specs.Each.{IsReceivedNow}
use Rattle.link.specs.Listening.{EndsAtLoss}
use Rattle.link.specs.declared.receiver.Answer.{Answer}
use Rattle.link.specs.declared.receiver.Answer.TheVariants.{Value, Damaged, TooLong, Cut}
use Rattle.line_io.specs.declared.transfers.End.{End}
use Rattle.line_io.specs.declared.transfers.End.TheVariants.{Ended, ReadFault, NoMemory}
use Rattle.framed_lib.specs.Lines.{holds_text, reads_text, AreAnswers, bytes_in, text_in, escape, value_line, line_of, lines_of, is_value, answer_line, answer_lines, has_value}

-- a text up to a byte that is escaped, and what comes after it
pub escape-at : (text : List ℕ) (at b : ℕ) → at < length text → flat_map escape (take at text) ≡ take at text → get_or text at 0 ≡ b
    → flat_map escape text ≡ take at text ++ (escape b ++ flat_map escape (take (length text - (at + 1)) (drop (at + 1) text)))
escape-at text at b l plain e =
    let rest : take (length text - (at + 1)) (drop (at + 1) text) ≡ drop (at + 1) text =
    rw (← length-drop (at + 1) text) (take-length (drop (at + 1) text)) in
    let parts : take at text ++ (b ∷ drop (at + 1) text) ≡ text =
    rw (add-one at, ← e) (ap (λ x. take at text ++ x) (sym (drop-cons text at 0 l)) ∙ take-append-drop at text) in
    let split : flat_map escape (take at text ++ (b ∷ drop (at + 1) text)) ≡ take at text ++ (escape b ++ flat_map escape (drop (at + 1) text)) =
    flat_map-append escape (take at text) (b ∷ drop (at + 1) text) ∙ ap (λ x. x ++ (escape b ++ flat_map escape (drop (at + 1) text))) plain in
    rw rest (sym (ap (flat_map escape) parts) ∙ split)

neither : (p q : Bool) (x y z : List ℕ) → ((p || q) ≡ true → ⊥) → (if p then x else (if q then y else z)) ≡ z
neither true q x y z f = absurd (f refl)
neither false true x y z f = absurd (f refl)
neither false false x y z f = refl

-- a text none of whose bytes is escaped
pub plain-all : (text : List ℕ) → ((k : ℕ) → k < length text → is_byte2 92 10 (get_or text k 0) ≡ true → ⊥) → flat_map escape text ≡ text
plain-all [] h = refl
plain-all (b ∷ text) h =
    ap (λ x. x ++ flat_map escape text) (neither (b == 92) (b == 10) (92 ∷ 92 ∷ []) (92 ∷ 110 ∷ []) (b ∷ []) (h 0 (omega arith)))
    ∙ ap (λ x. b ∷ x) (plain-all text (λ k l e. h (suc k) (omega (arith, l)) e))

-- the bytes before the first one that is escaped
pub plain-front : (text : List ℕ) (at : ℕ) → at < length text → ((k : ℕ) → k < at → is_byte2 92 10 (get_or text k 0) ≡ true → ⊥)
    → flat_map escape (take at text) ≡ take at text
plain-front text at l h =
    plain-all (take at text)
    (λ k m e. let within : k < at = omega (arith, m, length-take at text) in
    h k within (ap (is_byte2 92 10) (sym (get_or-take at text k 0 within)) ∙ e))

other-one : (p q : Bool) → (p || q) ≡ true → p ≡ false → q ≡ true
other-one true q e f = cc
other-one false q e f = e

-- the byte that is escaped is a line feed where it isn't a backslash
pub other-is-10 : (b : ℕ) → is_byte2 92 10 b ≡ true → (b ≡ 92 → ⊥) → b ≡ 10
other-is-10 b e n = eqb-true b 10 (other-one (b == 92) (b == 10) e (ne_eqb b 92 n))

bytes-read : (ts : Trees) (s : List ℕ) → ReadsAll ReadsByte ts s → bytes_in ts ≡ s
bytes-read end [] h = refl
bytes-read end (b ∷ s) h = absurd h
bytes-read (part t ts) [] h = absurd h
bytes-read (part (byte b) ts) (c ∷ s) h = let e : c ≡ b = h.0 in ap (λ x. x ∷ bytes_in ts) (sym e) ∙ ap (λ x. c ∷ x) (bytes-read ts s h.1)
bytes-read (part (number bits n) ts) (c ∷ s) h = absurd h.0
bytes-read (part (character n) ts) (c ∷ s) h = absurd h.0
bytes-read (part (sequence us) ts) (c ∷ s) h = absurd h.0
bytes-read (part (group us) ts) (c ∷ s) h = absurd h.0

text-read : (t : Tree) (s : List ℕ) → ReadsText t s → text_in t ≡ s
text-read (byte b) s h = absurd h.0
text-read (number bits n) s h = absurd h.0
text-read (character n) s h = absurd h.0
text-read (sequence ts) s h = bytes-read ts s h.0.1
text-read (group ts) s h = absurd h.0

same : {A : Type 0} → (a : Answer (String A)) (v : Verdict) → Matches reads_text a v
    → (answer_line a ≡ line_of v) × (has_value a ≡ is_value v)
same (Value s) v m = rw m.2 (ap value_line (sym (text-read m.0 (string_bytes s) m.1)), refl)
same Damaged v m = rw m (refl, refl)
same TooLong v m = rw m (refl, refl)
same Cut v m = rw m (refl, refl)

pub all-same : {A : Type 0} → (answers : List (Answer (String A))) (verdicts : List Verdict)
    → AllZip (Matches reads_text) answers verdicts
    → (answer_lines answers ≡ lines_of verdicts)
    × (list_all has_value answers ≡ list_all is_value verdicts)
all-same [] [] h = (refl, refl)
all-same [] (v ∷ vs) h = absurd h
all-same (a ∷ more) [] h = absurd h
all-same (a ∷ more) (v ∷ vs) h =
    let (line, good) = same a v h.0 in
    let (lines, all) = all-same more vs h.1 in rw (line, good, lines, all) (refl, refl)

-- the answers that were received, as those of the stream
pub received : {A : Type 0} → (strict : Bool) (sentinel : ℕ) (e : Option End) (answers : List (Answer (String A))) (stream : List ℕ) → IsReceivedNow (holds_text strict) reads_text 1024 sentinel e answers stream
    → (e ≡ Some NoMemory → EndsAtLoss (holds_text strict) reads_text 1024 sentinel answers stream)
    → (verdicts : List Verdict) × AreAnswers strict sentinel e stream verdicts × AllZip (Matches reads_text) answers verdicts
received strict sentinel None answers stream h f = (h.verdicts, h.given, h.matching)
received strict sentinel (Some Ended) answers stream h f = (h.verdicts, h.all, h.matching)
received strict sentinel (Some ReadFault) answers stream h f = (h.verdicts, h.given, h.matching)
received strict sentinel (Some NoMemory) answers stream h f =
    let e = f refl in
    let l = e.loss in (
      l.given.verdicts,
      record { front = l.front; rest = l.rest; used = l.used; parts = e.parts; given = l.given.given; lost = l.lost; begins = l.begins },
      subst (λ xs. AllZip (Matches reads_text) xs l.given.verdicts) (sym e.said) l.given.matching,
    )

-- What was written before the last read, from what a hearer was when it was asked.
use Rattle.std.proofs.Common.{◌≡◌, ℕ, Bool, true, false, ◌&&◌, List, [], ◌++◌, Option, Some, refl, sym, arith, length, ap, ◌∙◌, subst, inl, inr, ◌⊎◌}
use Rattle.std.specs.Prelude.{Result, Ok, Err, OnOk, OnErr, IsErr}
use Rattle.std.proofs.lemmas.List.{length-append}
use Rattle.std.specs.declared.string.String.{String}
use Rattle.line_io.specs.Device.{LineState, Wrote}
use Rattle.line_io.specs.Calls.{Wrote-then}
use Rattle.line_io.specs.Transfers.{whole, broken}
use Rattle.line_io.specs.declared.transfers.WriteFault.{WriteFault}
use Rattle.line_io.specs.declared.transfers.End.{End}
use Rattle.link.specs.Filled.{Filled}
use Rattle.link.specs.Each.{IsAsked, HearsOut, Hearing, hearing, gave_now}
use Rattle.link.specs.Listening.{HasGiven, Hears}
use Rattle.link.specs.Firsts.{not_both as no_both}
use Rattle.link.specs.declared.reception.Reception.{Reception}
use Rattle.link.specs.declared.receiver.Answer.{Answer}
use Rattle.framed_lib.specs.Lines.{holds_text, reads_text, answer_lines}
use Rattle.framed_lib.specs.Live.{MadeNoRead, BeforeLastRead, WasAskedFor, HandsTexts, HadWritten, AnswersLive}
use Rattle.framed_lib.specs.Output.{WritingByFew, few-none}
use Rattle.framed_lib.specs.Telling.{Tells, IsSettled}
use Rattle.framed_lib.specs.declared.telling.Telling.{Telling}
use Rattle.framed_lib.proofs.LinesLemmas.{all-same}
use Rattle.framed_lib.proofs.OutputLemmas.{put-went}

-- what a receiver that was given nothing handed on
pub hands_texts : {D H A : Type 0} (inside : D → Filled) (growing strict : Bool) (sentinel : ℕ) (h : Hearing H (String A)) (line later : LineState) (r s : Reception D) (old new : H) (end : Option End)
    → Hears inside (holds_text strict) (reads_text {A = A}) 1024 sentinel r [] []
    → HearsOut inside (record { holds = holds_text strict; reads = reads_text {A = A}; growing = growing }) h.hears h.enough h.settled line later r s old new end
    → HandsTexts h strict sentinel (line, old) (later, new) end
hands_texts {A = A} inside growing strict sentinel h line later r s old new end none o =
    let so = o.hands.so 1024 sentinel [] [] none in record {
      bytes = o.bytes;
      read = o.read;
      hands = record { answers = o.hands.answers; heard = o.hands.heard; so = (so.0, so.2) };
      asked = asked o.asked;
    }
  where
    asked : IsAsked inside (record { holds = holds_text strict; reads = reads_text {A = A}; growing = growing }) h.hears h.enough h.settled 1024 line later end r old new o.hands.answers o.bytes
        → (MadeNoRead line later end o.bytes × (new ≡ old))
        ⊎ BeforeLastRead line later end o.bytes (λ before. WasAskedFor h old new o.hands.answers
        (λ early. HasGiven (holds_text strict) reads_text 1024 sentinel early before))
    asked (inl e) = inl ((e.0, e.1, e.2), e.3)
    asked (inr w) = inr (record {
      before = w.before;
      last = w.last;
      parts = w.parts;
      read = w.read;
      so = record {
        early = w.early;
        later = w.later;
        said = w.said;
        so = w.given 1024 sentinel [] [] none;
        asked = w.asked;
        heard = w.heard;
        wants = w.wants;
        settles = w.settles;
        hears_on = w.hears_on;
      };
    })

pub some_is : {A : Type 0} {x y : A} → ◌≡◌ {A = Option A} (Some x) (Some y) → x ≡ y
some_is e = cc

-- who is live and hasn't had enough has met no failed write
not_failed : (failed live : Bool) → live ≡ true → (failed && live) ≡ false → failed ≡ false
not_failed true live l e = absurd (no_both live l e)
not_failed false live l e = refl

settled_empty : {B : Type 0} (held : B) (failed : Bool) (P : Type 0) → P ⊎ (failed ≡ true) → failed ≡ false → P
settled_empty held failed P (inl p) f = p
settled_empty held failed P (inr t) f = absurd (no_both failed t f)

module _ {A W : Type 0} (line : W → LineState) where
  -- what was written from there
  goes_on : (asked k : Telling W) (later : List (Answer (String A))) (new : W) (w : Result (Unit {0}) WriteFault) (f : Bool) → k.failed ≡ f → asked.failed ≡ false → Tells line asked later k
      → OnOk w ((k.failed ≡ false) × WritingByFew (line k.writer) (line new) whole k.held.items)
      → OnErr w (((k.failed ≡ true) × (new ≡ k.writer)) ⊎ ((k.failed ≡ false) × WritingByFew (line k.writer) (line new) broken k.held.items))
      → (more : List ℕ) × Wrote (line asked.writer) (line new) more
  goes_on asked k later new (Ok u) f e a t ok err = let p = t.went a ok.0 in (p.sent ++ k.held.items, Wrote-then _ _ _ _ _ p.went.wrote.wrote ok.1.wrote.wrote)
  goes_on asked k later new (Err x) f e a t ok (inl s) = let b = t.broke a s.0 in (b.wrote.front, subst (λ z. Wrote (line asked.writer) (line z) b.wrote.front) (sym s.1) b.wrote.wrote)
  goes_on asked k later new (Err x) f e a t ok (inr b) = let p = t.went a b.0 in (p.sent ++ b.1.wrote.front, Wrote-then _ _ _ _ _ p.went.wrote.wrote b.1.wrote.wrote)

  -- the lines of what it was told before the last read had gone out
  pub written_live : (strict : Bool) (sentinel : ℕ) (from to : LineState) (end : Option End) (old k : Telling W) (new : W) (w : Result (Unit {0}) WriteFault)
      → old.live ≡ true → old.failed ≡ false → old.held.items ≡ []
      → HandsTexts {A = A} (hearing (Tells line) (λ t. t.failed && t.live) IsSettled) strict sentinel (from, old) (to, k) end
      → OnOk w ((k.failed ≡ false) × WritingByFew (line k.writer) (line new) whole k.held.items)
      → OnErr w (((k.failed ≡ true) × (new ≡ k.writer)) ⊎ ((k.failed ≡ false) × WritingByFew (line k.writer) (line new) broken k.held.items))
      → AnswersLive line strict sentinel (from, old.writer) (to, new)
  written_live strict sentinel from to end old k new w live failed empty h ok err =
      record { end = end; bytes = h.bytes; gave = gave_now from to end h.bytes h.read; written = written h.asked }
    where
      had : (before : List ℕ) → WasAskedFor (hearing (Tells line) (λ t. t.failed && t.live) IsSettled) old k h.hands.answers
          (λ early. HasGiven (holds_text strict) (reads_text {A = A}) 1024 sentinel early before)
          → HadWritten line strict sentinel old.writer new before
      had before a =
          let on : a.asked.live ≡ true = a.heard.live ∙ live in
          let good : a.asked.failed ≡ false = not_failed a.asked.failed a.asked.live on a.wants in
          let none : a.asked.held.items ≡ [] = settled_empty a.asked.held a.asked.failed (a.asked.held.items ≡ []) (a.settles (λ l. inl empty) on) good in
          let put = a.heard.went failed good in
          let gone = put-went put (subst (λ x. WritingByFew (line a.asked.writer) (line a.asked.writer) whole x) (sym none) (few-none (line a.asked.writer))) in
          let lines = (all-same a.early a.so.verdicts a.so.matching).0 in
          let rest = goes_on a.asked k a.later new w k.failed refl good a.hears_on ok err in record {
            verdicts = a.so.verdicts;
            given = a.so.given;
            then = a.asked.writer;
            went = subst (λ x. WritingByFew (line old.writer) (line a.asked.writer) whole x) (ap (λ x. x ++ answer_lines a.early) empty ∙ lines) gone;
            more = rest.0;
            on = rest.1;
          }

      written : (MadeNoRead from to end h.bytes × (k ≡ old))
          ⊎ BeforeLastRead from to end h.bytes (λ before. WasAskedFor (hearing (Tells line) (λ t. t.failed && t.live) IsSettled) old k h.hands.answers
          (λ early. HasGiven (holds_text strict) (reads_text {A = A}) 1024 sentinel early before))
          → MadeNoRead from to end h.bytes ⊎ BeforeLastRead from to end h.bytes (HadWritten line strict sentinel old.writer new)
      written (inl e) = inl e.0
      written (inr b) = inr (record { before = b.before; last = b.last; parts = b.parts; read = b.read; so = had b.before b.so })

-- where a read failed, nothing was left to write, so no write failed
pub fault_first : {W : Type 0} (line : W → LineState) (k : Telling W) (new : W) (w : Result (Unit {0}) WriteFault) → k.live ≡ true → (k.failed && k.live) ≡ false → IsSettled k
    → OnErr w (((k.failed ≡ true) × (new ≡ k.writer)) ⊎ ((k.failed ≡ false) × WritingByFew (line k.writer) (line new) broken k.held.items))
    → IsErr w → ⊥
fault_first line k new (Ok u) live enough settled err n = cc
fault_first line k new (Err f) live enough settled (inl t) n = no_both k.failed t.0 (not_failed k.failed k.live live enough)
fault_first line k new (Err f) live enough settled (inr b) n =
    let none = settled_empty k.held k.failed (k.held.items ≡ []) (settled live) b.0 in
    let left = b.1.wrote.some_left in
    let parts = b.1.wrote.bytes_are in
    omega (arith, left, ap length none, ap length parts, length-append b.1.wrote.front b.1.wrote.rest)

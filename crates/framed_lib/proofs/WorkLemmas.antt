-- How the work of a run ends.
use Rattle.std.proofs.Common.{◌≡◌, ℕ, ◌+◌, ◌<◌, ◌≤◌, inl, inr, Bool, true, false, List, [], ◌∷◌, ◌++◌, length, refl, sym, ap, ◌∙◌, subst, arith, if◌then◌else◌, Option, Some, None}
use Rattle.std.proofs.lemmas.List.{append-nil, length-append, length-take}
use Rattle.std.specs.List.{list_all}
use Rattle.std.specs.Prelude.{Result, Ok, Err, IsErr, OnOk}
use Rattle.line_io.specs.Device.{LineState, Gave}
use Rattle.line_io.specs.Transfers.{Fate, whole}
use Rattle.line_io.specs.declared.transfers.End.{End}
use Rattle.line_io.specs.declared.transfers.End.TheVariants.{Ended, ReadFault, NoMemory}
use Rattle.line_io.specs.declared.transfers.WriteFault.{WriteFault}
use Rattle.link.specs.Each.{HasReadNow, UsesFew, last_call}
use Rattle.link.specs.Stream.{Verdict}
use Rattle.framed_lib.specs.Lines.{AreAnswers, StandBeforeLoss, lines_of, is_value}
use Rattle.framed_lib.specs.Program.{Program, WritesFirst, StandsFor, Due, CarriesOut}
use Rattle.framed_lib.specs.Working.{Worked, TellsAnswers, outcome_of}

-- so it went out
pub carried : {way : Option Bool} {hex : Bool} {sentinel : ℕ}
    {reading : Option End → List ℕ → Type 0} {writing : Fate → List ℕ → Type 0}
    {due : Due} {fate : Fate} {says : List ℕ → Type 0}
    (end : Option End) (text out said : List ℕ) → due end text out said → reading end text
    → writing fate out → says said → CarriesOut way hex sentinel reading writing due fate says
carried end text out said i q o s =
    record { end = end; text = text; out = out; said = said; is = i; read = q; wrote = o; told = s }

unpacked : (strict hex : Bool) (sentinel : ℕ) (text stream : List ℕ) (verdicts : List Verdict)
    (good : Bool) → StandsFor hex text stream
    → AreAnswers strict sentinel (Some Ended) stream verdicts → good ≡ list_all is_value verdicts
    → Program (Some strict) hex sentinel text (lines_of verdicts) [] (if good then 0 else 1)
unpacked strict hex sentinel text stream verdicts good h a g = inl (record {
  stream = stream;
  stands = h;
  verdicts = verdicts;
  are = a;
  out_is = refl;
  said_is = refl;
  status_is = ap (λ x. if x then 0 else 1) g;
})

-- Bytes that lie in memory were read to their end, or a front of them before a value that found
-- no memory.
abbrev pub ReadsWhole : List ℕ → Option End → List ℕ → Type 0
ReadsWhole stream (Some Ended) bytes = stream ≡ bytes
ReadsWhole stream (Some NoMemory) bytes = (rest : List ℕ) × (stream ≡ bytes ++ rest)
ReadsWhole stream _ bytes = ⊥

first : (strict : Bool) (sentinel : ℕ) {stream : List ℕ} (bytes rest : List ℕ)
    (verdicts : List Verdict) → stream ≡ bytes ++ rest
    → AreAnswers strict sentinel (Some NoMemory) bytes verdicts
    → WritesFirst strict sentinel stream (lines_of verdicts)
first strict sentinel bytes rest verdicts e a =
    record { front = bytes; rest = rest; stream_is = e; first = (verdicts, a, refl) }

-- A value that was lost had bytes.
lost-some : (strict : Bool) (sentinel : ℕ) (text : List ℕ) (verdicts : List Verdict)
    → StandBeforeLoss strict sentinel text verdicts → 0 < length text
lost-some strict sentinel text verdicts h =
    omega (arith, ap length h.parts, length-append h.front h.rest, ap length h.lost.bytes, length-append h.lost.front (sentinel ∷ []), length-take h.used h.rest)

module _ (strict : Bool) (sentinel : ℕ) (text : List ℕ) (r : Option End → List ℕ → Type 0)
    (w t : Fate → List ℕ → Type 0) (good : Bool) (quiet : t whole []) where
  -- the lines of the answers to bytes that were received; the reading may have ended because a write failed
  pub bytes-worked : (e : Option End) (written : Result (Unit {0}) WriteFault)
      → TellsAnswers strict sentinel e text good written w → r e text → (e ≡ None → IsErr written)
      → (e ≡ Some ReadFault → IsErr written → ⊥)
      → Worked (Some strict) false sentinel r w t (outcome_of e written good)
  bytes-worked (Some Ended) (Err fault) h q n f =
      let p = unpacked strict false sentinel text text h.verdicts good refl h.are h.values in
      carried _ text _ [] (λ x. cc, inl (_, p)) q h.broke quiet
  bytes-worked (Some ReadFault) (Err fault) h q n f = absurd (f refl refl)
  bytes-worked (Some NoMemory) (Err fault) h q n f =
      carried _ text _ [] (λ x. cc, ((h.verdicts, h.are, refl), refl)) q h.broke quiet
  bytes-worked None (Err fault) h q n f =
      carried _ text _ [] (λ x. cc, ((h.verdicts, h.are, refl), refl)) q h.broke quiet
  bytes-worked (Some Ended) (Ok u) h q n f =
      let p = unpacked strict false sentinel text text h.verdicts good refl h.are h.values in
      carried _ text _ [] (refl, p) q h.went quiet
  bytes-worked (Some ReadFault) (Ok u) h q n f =
      carried _ text _ [] (refl, ((h.verdicts, h.are, refl), refl)) q h.went quiet
  bytes-worked (Some NoMemory) (Ok u) h q n f =
      carried _ text _ [] ((h.verdicts, h.are, refl), refl, lost-some strict sentinel text h.verdicts h.are) q h.went quiet
  bytes-worked None (Ok u) h q n f =
      let wrong : IsErr {T = Unit {0}} {E = WriteFault} (Ok u) = n refl in cc

  module _ (stream : List ℕ) (h : StandsFor true text stream) (q : r (Some Ended) text) where
    -- the lines of the answers to the bytes of digits
    pub digits-worked : (e : Option End) (bytes : List ℕ) (written : Result (Unit {0}) WriteFault)
        → ReadsWhole stream e bytes → TellsAnswers strict sentinel e bytes good written w
        → Worked (Some strict) true sentinel r w t (outcome_of e written good)
    digits-worked (Some Ended) bytes (Ok u) s a =
        let h = (rw s at h) in
        let p = unpacked strict true sentinel text bytes a.verdicts good h a.are a.values in
        carried _ text _ [] (refl, p) q a.went quiet
    digits-worked (Some Ended) bytes (Err fault) s a =
        let h = (rw s at h) in
        let p = unpacked strict true sentinel text bytes a.verdicts good h a.are a.values in
        carried _ text _ [] (λ x. cc, inl (_, p)) q a.broke quiet
    digits-worked (Some NoMemory) bytes (Ok u) s a =
        let f = first strict sentinel bytes s.0 a.verdicts s.1 a.are in
        carried (Some Ended) text _ [] ((stream, h, f), refl) q a.went quiet
    digits-worked (Some NoMemory) bytes (Err fault) s a =
        let f = first strict sentinel bytes s.0 a.verdicts s.1 a.are in
        carried _ text _ [] (λ x. cc, inr ((stream, h, f), refl)) q a.broke quiet
    digits-worked (Some ReadFault) bytes written s a = absurd s
    digits-worked None bytes written s a = absurd s

-- where a reader of bytes in memory stands
abbrev pub at_bytes : List ℕ → ℕ → LineState
at_bytes bytes calls = record { told = Some bytes; faults = 0; calls_left = calls }

-- It meets no fault, and where it has calls enough it is read to its end, or to where memory is
-- wanting, if reading doesn't stop before.
pub ends-whole : (stream rest bytes : List ℕ) (calls left : ℕ) → length stream + 1 < calls
    → (e : Option End) → (e ≡ None → ⊥)
    → UsesFew (at_bytes stream calls) (at_bytes rest left) (last_call e)
    → HasReadNow (at_bytes stream calls) (at_bytes rest left) e bytes → ReadsWhole stream e bytes
ends-whole stream rest bytes calls left more None n u h = absurd (n refl)
ends-whole stream rest bytes calls left more (Some Ended) n u h =
    h.0.came ∙ ap (λ x. bytes ++ x) h.2 ∙ append-nil bytes
ends-whole stream rest bytes calls left more (Some ReadFault) n u (gave, inl l) =
    absurd (omega (arith, l))
ends-whole stream rest bytes calls left more (Some ReadFault) n u (gave, inr none) =
    absurd (omega (arith, more, none, u.few, ap length u.gave.came, length-append u.bytes rest))
ends-whole stream rest bytes calls left more (Some NoMemory) n u h = (rest, h.0.came)

-- what isn't done where a write failed is an error
pub is-err : {A E : Type 0} (r : Result A E) (failed : Bool) → failed ≡ true → OnOk r (failed ≡ false) → IsErr r
is-err (Ok a) failed t f = cc
is-err (Err e) failed t f = refl

-- what was read into an empty vector
pub read-whole : {old new : List ℕ} {P : List ℕ → Type 0} → old ≡ [] → ((text : List ℕ) × (new ≡ old ++ text) × P text) → P new
read-whole {P = P} e (text, is, p) = subst P (sym (is ∙ ap (λ x. x ++ text) e)) p

-- the same where some of it found no place
pub read-front : (P : List ℕ → Type 0) {old new : List ℕ} → old ≡ [] → (m : (text : List ℕ) × (lost : List ℕ) × (new ≡ old ++ text) × P (text ++ lost)) → 0 < length m.1
    → (lost : List ℕ) × P (new ++ lost) × (0 < length (new ++ lost))
read-front P {new = new} e (text, lost, is, p) some = (lost, subst (λ x. P (x ++ lost)) (sym (is ∙ ap (λ x. x ++ text) e)) p, omega (arith, some, length-append new lost))

-- what was read into a vector, by few calls
pub text-few : (u w : LineState) (old new text : List ℕ) → new ≡ old ++ text → Gave u w text
    → u.calls_left + length old ≤ w.calls_left + length new + 1 → UsesFew u w 1
text-few u w old new text is gave few =
    record { bytes = text; gave = gave; few = omega (arith, few, ap length is, length-append old text) }

-- the same where the last of it found no place
pub front-few : (u w : LineState) (old new text lost : List ℕ) → new ≡ old ++ text
    → Gave u w (text ++ lost) → u.calls_left + length old ≤ w.calls_left + length new + 1
    → UsesFew u w 1
front-few u w old new text lost is gave few =
    record { bytes = text ++ lost; gave = gave; few = omega (arith, few, ap length is, length-append old text, length-append text lost) }

-- few calls, however the reading ended
pub most-few : (u w : LineState) (e : Option End) → UsesFew u w (last_call e) → UsesFew u w 1
most-few u w None h = record { bytes = h.bytes; gave = h.gave; few = omega (arith, h.few) }
most-few u w (Some end) h = h

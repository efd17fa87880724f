-- Bytes that are written by few calls, or held back before they are written.
use Rattle.std.specs.Prelude.{◌≡◌, ℕ, ◌+◌, ◌≤◌, List, [], ◌++◌, length, Result, Ok, Err, OnOk, OnErr}
use Rattle.std.proofs.Common.{sym, ap, ◌∙◌, append_assoc, append-nil, arith}
use Rattle.std.proofs.lemmas.List.{length-append}
use Rattle.line_io.specs.Device.{LineState}
use Rattle.line_io.specs.Transfers.{Fate, whole, broken, Writing, WentOrBroke}
use Rattle.line_io.specs.Calls.{WentOut-none, WentOut-then, BrokeOff-then, BrokeOff-more}
use Rattle.line_io.specs.declared.transfers.WriteFault.{WriteFault}

-- A device took all of these bytes, or a proper prefix and then failed: by at most one call for each byte, and none after a call that
-- failed. So nothing is written for no bytes, and nothing twice.
pub record WritingByFew (old new : LineState) (fate : Fate) (bytes : List ℕ) : Type 0 where
  -- it took all of them, or a proper prefix
  pub wrote : Writing old new fate bytes
  -- calls are only used up
  pub calls : new.calls_left ≤ old.calls_left
  -- at most one call for each byte
  pub few : old.calls_left ≤ new.calls_left + length bytes
  -- at most one fault: no call follows it
  pub once : new.faults ≤ old.faults + 1

-- what `write_all` says of a device, by its result
pub few-ok : {old new : LineState} {bytes : List ℕ} (r : Result (Unit {0}) WriteFault)
    → WentOrBroke old new bytes r → OnOk r (WritingByFew old new whole bytes)
few-ok (Ok u) h = record { wrote = h.ok; calls = h.calls; few = h.few; once = h.once }
few-ok (Err e) h = tt

pub few-err : {old new : LineState} {bytes : List ℕ} (r : Result (Unit {0}) WriteFault)
    → WentOrBroke old new bytes r → OnErr r (WritingByFew old new broken bytes)
few-err (Ok u) h = tt
few-err (Err e) h = record { wrote = h.err; calls = h.calls; few = h.few; once = h.once }

-- nothing was written
pub few-none : (w : LineState) → WritingByFew w w whole []
few-none w = record {
  wrote = WentOut-none w;
  calls = omega arith;
  few = omega arith;
  once = omega arith;
}

-- some bytes were written, and then others
pub few-then : {u v w : LineState} {a b : List ℕ} → WritingByFew u v whole a
    → WritingByFew v w whole b → WritingByFew u w whole (a ++ b)
few-then {a = a} {b = b} p q = record {
  wrote = WentOut-then p.wrote q.wrote;
  calls = omega (arith, p.calls, q.calls);
  few = omega (arith, p.few, q.few, length-append a b);
  once = omega (arith, p.wrote.quiet, q.once);
}

-- some bytes were written, and then the device broke off
pub few-broke : {u v w : LineState} {a b : List ℕ} → WritingByFew u v whole a
    → WritingByFew v w broken b → WritingByFew u w broken (a ++ b)
few-broke {a = a} {b = b} p q = record {
  wrote = BrokeOff-then p.wrote q.wrote;
  calls = omega (arith, p.calls, q.calls);
  few = omega (arith, p.few, q.few, length-append a b);
  once = omega (arith, p.wrote.quiet, q.once);
}

-- bytes that were never tried change nothing
pub few-more : {u w : LineState} {a : List ℕ} (b : List ℕ) → WritingByFew u w broken a
    → WritingByFew u w broken (a ++ b)
few-more {a = a} b p = record {
  wrote = BrokeOff-more b p.wrote;
  calls = p.calls;
  few = omega (arith, p.few, length-append a b);
  once = p.once;
}

-- The bytes were put behind those that were held: a front went out, and the others are held then.
pub record Puts (old new : LineState) (held kept bytes : List ℕ) : Type 0 where
  -- the bytes that were written
  pub sent : List ℕ
  -- with those that are held now, they are all that were held and put
  pub bytes_are : held ++ bytes ≡ sent ++ kept
  -- the device took them
  pub went : WritingByFew old new whole sent

-- nothing was put
pub put-none : (w : LineState) (held : List ℕ) → Puts w w held held []
put-none w held = record { sent = []; bytes_are = append-nil held; went = few-none w }

-- some bytes were put, and then others
pub put-then : {u v w : LineState} {x y z a b : List ℕ} → Puts u v x y a → Puts v w y z b
    → Puts u w x z (a ++ b)
put-then {x = x} {y = y} {z = z} {a = a} {b = b} p q = record {
  sent = p.sent ++ q.sent;
  bytes_are =
      sym (append_assoc x a b) ∙ (ap (λ t. t ++ b) p.bytes_are ∙ (append_assoc p.sent y b
      ∙ (ap (λ t. p.sent ++ t) q.bytes_are ∙ sym (append_assoc p.sent q.sent z))));
  went = few-then p.went q.went;
}

-- some bytes were put, and then the device broke off
pub put-broke : {u v w : LineState} {x y a : List ℕ} (b : List ℕ) → Puts u v x y a
    → WritingByFew v w broken (y ++ b) → WritingByFew u w broken (x ++ (a ++ b))
put-broke {x = x} {y = y} {a = a} b p q =
    let same : p.sent ++ (y ++ b) ≡ x ++ (a ++ b) =
    sym (append_assoc p.sent y b) ∙ (ap (λ t. t ++ b) (sym p.bytes_are) ∙ append_assoc x a b) in
    rw same at (few-broke p.went q)

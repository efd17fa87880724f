-- What goes out of a frame, and sends one after another.
use Rattle.std.proofs.Common.{◌≡◌, ℕ, ◌+◌, ◌<◌, ◌≤◌, Bool, true, false, List, [], ◌∷◌, ◌++◌, length, take, Option, Some, None, Result, Ok, Err, refl, ap, ◌∙◌, sym, arith, bit_xor, length-append, length-take, subst, append-nil}
use Rattle.std.proofs.Math.Seq.{take-append_seam}
use Rattle.std.proofs.lemmas.List.{length-map}
use Rattle.line_io.specs.Device.{LineState, Wrote}
use Rattle.line_io.specs.Transfers.{WentOrBroke, BrokeOff, Failed}
use Rattle.line_io.specs.declared.transfers.WriteFault.{WriteFault}
use Rattle.line_io.specs.Calls.{WentOut-none, WentOut-then, BrokeOff-then, BrokeOff-more}
use Rattle.cobs.specs.Frames.{shortest_frame}
use Rattle.cobs.specs.Sentinel.{frame_for}
use Rattle.postcard.specs.Written.{WrittenWhole}
use Rattle.link.specs.Link.{IsFramed, sent, completed, broken, written, SenderPlace, HasSent}
use Rattle.link.specs.declared.sender.SendError.TheVariants.{Line}
use Rattle.postcard_tree.specs.Tree.{Tree, IsTree}
use Rattle.postcard_tree.specs.Spelling.{short}
use Rattle.link.specs.Fates.{broke, Did, SendsOne, SendsAll}
use Rattle.link.specs.declared.session.Fate.{Fate}
use Rattle.link.specs.Lemmas.SendLaws.{sends_then, calls_of_one}

-- no byte
pub writes_none : (w : LineState) → WentOrBroke w w [] (Ok tt)
writes_none w = record { ok = WentOut-none w; err = tt; calls = omega arith; few = omega arith; once = omega arith }

-- bytes, and then bytes
pub writes_then : (u v w : LineState) (a b : List ℕ) (r : Result (Unit {0}) WriteFault)
    → WentOrBroke u v a (Ok tt) → WentOrBroke v w b r → WentOrBroke u w (a ++ b) r
writes_then u v w a b (Ok x) p q = record {
  ok = WentOut-then p.ok q.ok;
  err = tt;
  calls = omega (arith, p.calls, q.calls);
  few = omega (arith, p.few, q.few, length-append a b);
  once = omega (arith, p.ok.quiet, q.once);
}
writes_then u v w a b (Err e) p q = record {
  ok = tt;
  err = BrokeOff-then p.ok q.err;
  calls = omega (arith, p.calls, q.calls);
  few = omega (arith, p.few, q.few, length-append a b);
  once = omega (arith, p.ok.quiet, q.once);
}

-- bytes that were never tried
pub writes_more : (u v : LineState) (a b : List ℕ) (e : WriteFault) → WentOrBroke u v a (Err e)
    → WentOrBroke u v (a ++ b) (Err e)
writes_more u v a b e p = record { ok = tt; err = BrokeOff-more b p.err; calls = p.calls; few = omega (arith, p.few, length-append a b); once = p.once }

-- a front of bytes went out, by how many
pub broke_at : (u v : LineState) (bytes : List ℕ) → (h : BrokeOff u v bytes)
    → (length h.front < length bytes) × Wrote u v (take (length h.front) bytes) × Failed u v
broke_at u v bytes h = (
  omega (arith, ap length h.bytes_are, length-append h.front h.rest, h.some_left),
  rw (ap (take (length h.front)) h.bytes_are ∙ take-append_seam h.front h.rest) h.wrote,
  h.failed,
)

-- the tree whose frame for a sentinel stands in front of a buffer
pub framed_in : (s : ℕ) (writes : Option Tree) (n limit : ℕ) (b : List ℕ) → length b ≤ limit
    → WrittenWhole writes (λ bytes. (n ≡ length (shortest_frame bytes)) × (take n b ≡ frame_for s bytes))
    → (t : Tree) × (writes ≡ Some t) × IsFramed IsTree limit t × (take n b ≡ frame_for s (short t))
framed_in s None n limit b l h = absurd h
framed_in s (Some t) n limit b l h =
    (t, refl, record { taken = h.0; within = omega (arith, length-map (shortest_frame (short t)) (bit_xor s), ap length h.1.1, length-take n b) }, h.1.1)

sent_bound : (s : ℕ) (clean : Bool) (t : Tree)
    → length (sent s clean t) ≤ length (shortest_frame (short t)) + 2
sent_bound s true t = omega (arith, length-map (shortest_frame (short t)) (bit_xor s), length-append (frame_for s (short t)) (s ∷ []))
sent_bound s false t = omega (arith, length-map (shortest_frame (short t)) (bit_xor s), length-append (frame_for s (short t)) (s ∷ []))

-- a send by what became of its bytes
module _ (limit : ℕ) (writes : Option Tree) (valid : Type 0) (old new : SenderPlace) (t : Tree)
    (e : writes ≡ Some t) (v : valid) (f : IsFramed IsTree limit t)
    (s : new.sentinel ≡ old.sentinel) where
  pub all_sent : new.clean ≡ true
      → WentOrBroke old.line new.line (sent old.sentinel old.clean t) (Ok tt)
      → HasSent limit writes valid old new (Ok tt)
  all_sent c p = record {
    send = completed t;
    is = f;
    answered = (refl, e);
    wrote = p.ok.wrote;
    then = c;
    sentinel = s;
    valid = v;
    unchanged = tt;
    calls = p.calls;
    few = omega (arith, p.few, sent_bound old.sentinel old.clean t, f.within);
    once = p.once;
    done = p.ok.quiet;
    line = tt;
  }

  pub part_sent : (x : WriteFault) → new.clean ≡ false
      → WentOrBroke old.line new.line (sent old.sentinel old.clean t) (Err x)
      → HasSent limit writes valid old new (Err Line)
  part_sent x c p =
      let k = broke_at _ _ _ p.err in
      record {
        send = broken t (length p.err.front);
        is = (f, k.0);
        answered = (refl, e);
        wrote = k.1;
        then = c;
        sentinel = s;
        valid = v;
        unchanged = tt;
        calls = p.calls;
        few = omega (arith, p.few, sent_bound old.sentinel old.clean t, f.within);
        once = p.once;
        done = tt;
        line = k.2;
      }

-- one more
pub one_sent : {V : Type 0} (limit s : ℕ) (writes : V → Option Tree) (valid : V → Type 0) (clean now later : Bool) (u v w : LineState) (values : List V) (value : V) (fates : List Fate) (fate : Fate)
    → SendsAll limit s writes valid clean now u v values fates → SendsOne limit s (writes value) (valid value) now later v w fate
    → SendsAll limit s writes valid clean later u w (values ++ value ∷ []) (fates ++ fate ∷ [])
one_sent limit s writes valid clean now later u v w values value fates fate p q = sends_then limit s writes valid clean now later u v w values (value ∷ []) fates (fate ∷ []) p (record {
  sends = q.send ∷ [];
  are = (q.is, tt);
  of = (q.of, tt);
  fated = ap (λ f. f ∷ []) q.fated;
  did = subst (λ b. Did v w b (broke q.send + 0)) (sym (append-nil (written s now q.send))) (subst (Did v w (written s now q.send)) (let e : broke q.send ≡ broke q.send + 0 = omega arith in e) q.did);
  few = calls_of_one (limit + 2) v.calls_left w.calls_left value q.few;
  then = q.then;
})

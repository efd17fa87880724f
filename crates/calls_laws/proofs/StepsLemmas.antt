-- What each side of an exchange does, by what the calls say.
use Rattle.std.proofs.Common.{◌≡◌, ◌<◌, ℕ, Bool, true, false, cond, eqb, if◌then◌else◌, List, [], ◌∷◌, ◌++◌, Option, Some, None, Result, Ok, Err, refl, sym, ap, ◌∙◌, subst, inl, inr, ◌⊎◌}
use Rattle.std.specs.Prelude.{IfSome}
use Rattle.std.proofs.lemmas.Bool.{eqb-true}
use Rattle.postcard_tree.specs.Tree.{Tree}
use Rattle.postcard_tree.specs.ReadingLaws.{WireForm}
use Rattle.line_io.specs.Device.{LineState}
use Rattle.link.specs.Filled.{Filled}
use Rattle.link.specs.Listening.{IsReceived, HasGiven}
use Rattle.link.specs.Each.{HasReadNow, IsHeardNow, gave_now}
use Rattle.link.specs.declared.reception.Reception.{Reception}
use Rattle.link.specs.declared.sender.SendError.{SendError}
use Rattle.link.specs.declared.sender.SendError.TheVariants.{Refused, Line}
use Rattle.link.specs.declared.receiver.Answer.{Answer}
use Rattle.link.specs.declared.receiver.Answer.TheVariants.{Value, Damaged, TooLong, Cut}
use Rattle.line_io.specs.declared.transfers.End.{End}
use Rattle.line_io.specs.declared.transfers.End.TheVariants.{Ended, ReadFault, NoMemory}
use Rattle.calls.specs.Calls.{Execution, no_call, In, ServesAll}
use Rattle.link.specs.Senders.{SenderPlace, HasSent}
use Rattle.calls.specs.Asking.{Asker, stepped, calls, ends, IsCalled, IsRepeated}
use Rattle.calls.specs.Serving.{requests_of, Serving, ServiceState, Executes}
use Rattle.calls.specs.ServedLaws.{in_first, in_joined, alone, which as inside, says_none, says_one, says_then}
use Rattle.calls.specs.Waits.{Waiter, is_over, anew, after_reply, after_answers}
use Rattle.calls.specs.declared.client.CallError.{CallError}
use Rattle.calls.specs.declared.client.CallError.TheVariants.{Full, Idle, Unsent}
use Rattle.calls_laws.specs.Heard.{HeardOn}
use Rattle.calls_laws.specs.Exchange.{HeardFront, Repeats, AsksOnly, ServesLine, TakesReply}

module _ {Q : Type 0} (limit : ℕ) (writes : ℕ × Q → Option Tree) (valid : ℕ × Q → Type 0) where
  one_sent : (old new : Asker Q) (q : Q) (P P' : SenderPlace) (r : Result (Unit {0}) SendError) → new ≡ stepped old (calls q) → old.next < no_call → HasSent limit (writes (old.next, q)) (valid (old.next, q)) P P' r
      → Repeats limit writes valid (old.next, q) new.pending P P'
  one_sent old new q P P' r e l h =
      let x = says_one limit writes valid (old.next, q) P P' r h in
      record {
        messages = (old.next, q) ∷ [];
        fates = x.0 ∷ [];
        said = x.1;
        sentinel = h.sentinel;
        only = λ m i. alone _ m i;
        sent = λ p f. (inside (sym f ∙ ap (λ (a : Asker Q). a.pending) e), inl refl);
        numbered = λ p f. subst (λ (x : ℕ × Q). x.0 < no_call) (inside (sym (ap (λ (a : Asker Q). a.pending) e) ∙ f)) l;
      }

  -- where nothing changed and nothing was pending, nothing is
  none_pending : (old new : Asker Q) → old.pending ≡ None → new ≡ old → (p : ℕ × Q) → new.pending ≡ Some p → ⊥
  none_pending old new idle e p f = (let no : ◌≡◌ {A = Option (ℕ × Q)} None (Some p) = sym idle ∙ sym (ap (λ (a : Asker Q). a.pending) e) ∙ f in cc)

  pub called : (old new : Asker Q) (q : Q) (r : Result (Unit {0}) CallError) (P P' : SenderPlace) (same : Type 0) → (same → P' ≡ P) → old.pending ≡ None
      → IsCalled old new q r same (λ p x. HasSent limit (writes p) (valid p) P P' x) → Repeats limit writes valid (old.next, q) new.pending P P'
  called old new q (Ok u) P P' same stays idle h = one_sent old new q P P' (Ok tt) h.0 h.2 h.1
  called old new q (Err (Unsent Line)) P P' same stays idle h = one_sent old new q P P' (Err Line) h.0 h.2 h.1
  called old new q (Err (Unsent (Refused e))) P P' same stays idle h =
      let x = says_one limit writes valid (old.next, q) P P' (Err (Refused e)) h.1 in
      record {
        messages = (old.next, q) ∷ [];
        fates = x.0 ∷ [];
        said = x.1;
        sentinel = h.1.sentinel;
        only = λ m i. alone _ m i;
        sent = λ p f. absurd (none_pending old new idle h.0 p f);
        numbered = λ p f. absurd (none_pending old new idle h.0 p f);
      }
  called old new q (Err Full) P P' same stays idle h =
      subst (λ z. Repeats limit writes valid (old.next, q) new.pending P z) (sym (stays h.1)) (record {
        messages = [];
        fates = [];
        said = says_none limit writes valid P;
        sentinel = refl;
        only = λ m i. absurd i;
        sent = λ p f. absurd (none_pending old new idle h.0 p f);
        numbered = λ p f. absurd (none_pending old new idle h.0 p f);
      })
  called old new q (Err Idle) P P' same stays idle h = absurd h

  one_more : (x p : ℕ × Q) (old new : Asker Q) (r : Result (Unit {0}) SendError) (P0 P P' : SenderPlace) → Repeats limit writes valid x old.pending P0 P → new ≡ old → old.pending ≡ Some p
      → HasSent limit (writes p) (valid p) P P' r → Repeats limit writes valid x new.pending P0 P'
  one_more x p old new r P0 P P' k e is h =
      let one = says_one limit writes valid p P P' r h in
      record {
        messages = k.messages ++ (p ∷ []);
        fates = k.fates ++ (one.0 ∷ []);
        said = says_then limit writes valid P0 P P' k.messages (p ∷ []) k.fates (one.0 ∷ []) k.sentinel k.said one.1;
        sentinel = h.sentinel ∙ k.sentinel;
        only = λ m i. elim (in_joined m k.messages (p ∷ []) i) [
          | inl j ↦ k.only m j
          | inr j ↦ alone p m j ∙ (k.sent p is).0
        ];
        sent = λ q f. let z = k.sent q (sym (ap (λ (a : Asker Q). a.pending) e) ∙ f) in (z.0, in_first x k.messages (p ∷ []) z.1);
        numbered = λ q f. k.numbered q (sym (ap (λ (a : Asker Q). a.pending) e) ∙ f);
      }

  pub repeated : (x : ℕ × Q) (old new : Asker Q) (r : Result (Unit {0}) CallError) (P0 P P' : SenderPlace) (same : Type 0) → (same → P' ≡ P) → Repeats limit writes valid x old.pending P0 P
      → IsRepeated old new r same (λ p z. HasSent limit (writes p) (valid p) P P' z) → Repeats limit writes valid x new.pending P0 P'
  repeated x old new (Ok u) P0 P P' same stays k h = one_more x h.1 old new (Ok tt) P0 P P' k h.0 h.2 h.3
  repeated x old new (Err (Unsent e)) P0 P P' same stays k h = one_more x h.1 old new (Err e) P0 P P' k h.0 h.2 h.3
  repeated x old new (Err Full) P0 P P' same stays k h = absurd h
  repeated x old new (Err Idle) P0 P P' same stays k h =
      subst (λ z. Repeats limit writes valid x new.pending P0 z) (sym (stays h.1))
      (subst (λ (a : Asker Q). Repeats limit writes valid x a.pending P0 P) (sym h.0) k)

-- where a reader stands that tells what comes
abbrev pub telling : List ℕ → ℕ → ℕ → LineState
telling bytes faults calls_left = record { told = Some bytes; faults = faults; calls_left = calls_left }

-- it gave a front of that
pub front_read : (end : Option End) (old new : List ℕ) (f g c d : ℕ) (bytes : List ℕ)
    → HasReadNow (telling old f c) (telling new g d) end bytes → old ≡ bytes ++ new
front_read end old new f g c d bytes h =
    (gave_now (telling old f c) (telling new g d) end bytes h).came

module _ {D V : Type 0} (inside : D → Filled) (holds : List ℕ → Tree → Type 0) (reads : Tree → V → Type 0) (limit s : ℕ) (r : Reception D) (bytes : List ℕ) (answers : List (Answer V)) where
  -- nothing was lost
  none_lost : HasGiven holds reads limit s answers bytes → HeardOn holds reads limit s answers bytes
  none_lost h = record { losses = []; later = answers; rest = bytes; said = refl; parts = refl; given = h }

  heard_on : (end : Option End) → IsHeardNow inside holds reads limit s true end r answers bytes → HeardOn holds reads limit s answers bytes
  heard_on None h = none_lost h.given
  heard_on (Some Ended) h = none_lost h.given
  heard_on (Some ReadFault) h = none_lost h.given
  heard_on (Some NoMemory) h = record { losses = h.first ∷ h.others; later = h.later; rest = h.rest; said = h.said; parts = h.parts; given = h.hears.given }

  -- What was heard, of a reader that tells what comes.
  pub heard_of : (end : Option End) (all old new : List ℕ) (f g c d : ℕ) → old ≡ all
      → HasReadNow (telling old f c) (telling new g d) end bytes → IsHeardNow inside holds reads limit s true end r answers bytes → HeardFront holds reads limit s all answers
  heard_of end all old new f g c d e k h = record {
    front = bytes;
    rest = new;
    parts = sym e ∙ front_read end old new f g c d bytes k;
    heard = inr (heard_on end h);
  }

module _ {Q R : Type 0} where
  -- a reply was said to a client that waits: before these answers, or by one of them to its pending call
  abbrev pub SaidTo : Waiter Q R → List (Answer (ℕ × R)) → R → Type 0
  SaidTo w answers r = (w.said ≡ Some r) ⊎ ((n : ℕ) × (q : Q) × (w.asker.pending ≡ Some (n, q)) × In (n, r) (requests_of answers))

  by_reply : (w : Waiter Q R) (pending : Option (ℕ × Q)) (n : ℕ) (x : R) (answers : List (Answer (ℕ × R))) (r : R) → w.asker.pending ≡ pending
      → SaidTo (after_reply w pending n x) answers r → SaidTo w (Value (n, x) ∷ answers) r
  by_reply w None n x answers r e (inl f) = inl f
  by_reply w None n x answers r e (inr k) = inr (k.0, k.1, k.2, inr k.3)
  by_reply w (Some p) n x answers r e h = numbered (eqb n p.0) refl h
    where
      numbered : (b : Bool) → eqb n p.0 ≡ b → SaidTo (cond b (let v : Waiter Q R = record { asker = stepped w.asker ends; said = Some x } in v) w) answers r → SaidTo w (Value (n, x) ∷ answers) r
      numbered true f (inl g) = inr (p.0, p.1, e, inl (let d : n ≡ p.0 = eqb-true n p.0 f in let k : x ≡ r = inside g in cc))
      numbered true f (inr k) = absurd (let no : ◌≡◌ {A = Option (ℕ × Q)} None (Some (k.0, k.1)) = k.2 in cc)
      numbered false f (inl g) = inl g
      numbered false f (inr k) = inr (k.0, k.1, k.2, inr k.3)

  pub said_to : (w : Waiter Q R) (answers : List (Answer (ℕ × R))) (r : R) → (after_answers w answers).said ≡ Some r → SaidTo w answers r
  said_to w [] r e = inl e
  said_to w (Value p ∷ answers) r e = by_reply w w.asker.pending p.0 p.1 answers r refl (said_to (after_reply w w.asker.pending p.0 p.1) answers r e)
  said_to w (Damaged ∷ answers) r e = said_to w answers r e
  said_to w (TooLong ∷ answers) r e = said_to w answers r e
  said_to w (Cut ∷ answers) r e = said_to w answers r e

-- what a client left on an empty line that calls, and sends its call again
pub asks_only : {Q : Type 0} (limit s : ℕ) (writes : ℕ × Q → Option Tree) (valid : ℕ × Q → Type 0) (n m : ℕ) (q : Q) (p p' : Option (ℕ × Q)) (start stop : SenderPlace) (bytes : List ℕ)
    → Repeats limit writes valid (n, q) p start stop → n ≡ m → p' ≡ p → start.line.told ≡ Some [] → start.clean ≡ false → start.sentinel ≡ s → stop.line.told ≡ Some bytes
    → AsksOnly limit s writes valid (m, q) p' bytes
asks_only limit s writes valid n m q p p' start stop bytes r e f empty fresh sentinel told =
    subst (λ z. AsksOnly limit s writes valid (z, q) p' bytes) e (record {
      messages = r.messages;
      left = record { start = start; stop = stop; fates = r.fates; said = r.said; empty = empty; fresh = fresh; sentinel = sentinel; told = told };
      only = r.only;
      sent = λ y k. r.sent y (sym f ∙ k);
      numbered = λ y k. r.numbered y (sym f ∙ k);
    })

-- what a new server did over an empty line, with the requests of a reader that tells what comes
pub serves_line : {A Q R : Type 0} (rules : Serving A Q R) (form : WireForm (ℕ × R)) (holds : List ℕ → Tree → Type 0) (reads : Tree → ℕ × Q → Type 0)
    (limit s limit' s' : ℕ) (old new : ServiceState A Q R) (requests replies bytes rest : List ℕ) (end : End) (heard : List (Answer (ℕ × Q)))
    → Executes rules form limit' old new (requests_of heard) → IsReceived holds reads limit s end heard bytes → requests ≡ bytes ++ rest
    → old.kept ≡ None → old.sender.line.told ≡ Some [] → old.sender.clean ≡ false → old.sender.sentinel ≡ s' → new.sender.line.told ≡ Some replies
    → ServesLine rules.executes rules.equal rules.passes holds reads form.writes form.valid limit s limit' s' old.application new.application requests replies
serves_line rules form holds reads limit s limit' s' old new requests replies bytes rest end heard e received parts none empty fresh sentinel told = record {
  heard = heard;
  over = record { front = bytes; rest = rest; parts = parts; heard = inl (end, received) };
  log = e.log;
  out = e.out;
  later = new.kept;
  served = subst (λ k. ServesAll rules.equal rules.passes k (requests_of heard) e.log e.out new.kept) none e.served;
  ran = e.ran;
  left = record { start = old.sender; stop = new.sender; fates = e.fates; said = e.replied; empty = empty; fresh = fresh; sentinel = sentinel; told = told };
}

-- a client that has taken none has none to let go
same_anew : {Q R : Type 0} (w : Waiter Q R) → w.said ≡ None → anew w ≡ w
same_anew {Q} {R} w none = by (is_over w.asker)
  where
    by : (b : Bool) → (if b then w else (let v : Waiter Q R = record { asker = w.asker; said = None } in v)) ≡ w
    by true = refl
    by false = ap (λ o. let v : Waiter Q R = record { asker = w.asker; said = o } in v) (sym none)

-- what a client took as its reply that had taken none before
pub takes_reply : {Q R : Type 0} (holds : List ℕ → Tree → Type 0) (reads : Tree → ℕ × R → Type 0) (limit s : ℕ) (w w' : Waiter Q R) (replies : List ℕ) (heard : List (Answer (ℕ × R)))
    → w.said ≡ None → w' ≡ after_answers (anew w) heard → HeardFront holds reads limit s replies heard → IfSome w'.said (TakesReply holds reads limit s w.asker.pending replies)
takes_reply {Q} {R} holds reads limit s w w' replies heard none after over = by w'.said refl
  where
    by : (o : Option R) → w'.said ≡ o → IfSome o (TakesReply holds reads limit s w.asker.pending replies)
    by None e = tt
    by (Some r) e = elim (said_to w heard r (sym (ap (λ (v : Waiter Q R). v.said) (after ∙ ap (λ v. after_answers v heard) (same_anew w none))) ∙ e)) [
      | inl f ↦ absurd (let no : ◌≡◌ {A = Option R} None (Some r) = sym none ∙ f in cc)
      | inr k ↦ record { heard = heard; over = over; number = k.0; asked = k.1; is_pending = k.2; said = k.3 }
    ]

-- What serving is, one request after another: laws of what a service must meet as a hearer.
use Rattle.std.proofs.Common.{◌≡◌, ℕ, length, ◌+◌, ◌<◌, ◌≤◌, Bool, true, false, cond, eqb, ◌⊎◌, List, [], ◌∷◌, ◌++◌, Option, Some, None, Result, refl, sym, ap, ◌∙◌, subst, inl, inr, arith, append_assoc}
use Rattle.std.specs.List.{FoldsTo}
use Rattle.std.proofs.lemmas.Bool.{eq-eqb, eqb-true}
use Rattle.std.proofs.lemmas.List.{append-nil}
use Rattle.line_io.specs.Device.{LineState}
use Rattle.postcard_tree.specs.Tree.{Tree}
use Rattle.postcard_tree.specs.ReadingLaws.{WireForm}
use Rattle.link.specs.Run.{Among, Send, completed, refused, broken, written}
use Rattle.line_io.specs.Transfers.{Failed}
use Rattle.link.specs.Senders.{IsSent, IsRefusal}
use Rattle.cobs.specs.Frames.{shortest_frame}
use Rattle.postcard.specs.Written.{UnlessRefused}
use Rattle.postcard_tree.specs.declared.error.Error.{Error}
use Rattle.link.specs.Fates.{IsSendOf, fate_of, broke, Did, FewBroke, SendsAll}
use Rattle.link.specs.Lemmas.SendLaws.{none_sent, sends_then, calls_of_one}
use Rattle.link.specs.declared.sender.SendError.{SendError}
use Rattle.link.specs.declared.session.Fate.{Fate}
use Rattle.link.specs.declared.receiver.Answer.{Answer}
use Rattle.link.specs.declared.receiver.Answer.TheVariants.{Value, Damaged, TooLong, Cut}
use Rattle.link.specs.Each.{HearerLaws}
use Rattle.calls.specs.Calls.{Execution, call, next_of, no_call, notices, again, ServesAll, greatest, known, fresh, no_request, request, Rises, In}
use Rattle.link.specs.Senders.{SenderPlace, sender_place, HasSent}
use Rattle.calls.specs.Serving.{kept_of, sender_of, SaysAll, Runs, IsServed, IsPassed, IsReplied, Serving, serving, ServiceState, service_state, Executes, TakesAnswer, ServiceHears, requests_of, unsent_by_result, unsent_by, unsent_by_fate, unsent_of}
use Rattle.calls.specs.declared.service.Service.{Service}
use Rattle.calls.specs.declared.server.Served.{Served}
use Rattle.calls.specs.declared.server.Served.TheVariants.{Executed, Again, Other, Passed, NoCall}

-- What is in lists one after the other.
pub in_joined : {A : Type 0} (x : A) (xs ys : List A) → In x (xs ++ ys) → In x xs ⊎ In x ys
in_joined x [] ys i = inr i
in_joined x (y ∷ xs) ys (inl e) = inl (inl e)
in_joined x (y ∷ xs) ys (inr i) = elim (in_joined x xs ys i) [
  | inl k ↦ inl (inr k)
  | inr k ↦ inr k
]

pub in_before : {A : Type 0} (x : A) (xs ys : List A) → In x ys → In x (xs ++ ys)
in_before x [] ys i = i
in_before x (y ∷ xs) ys i = inr (in_before x xs ys i)

pub in_first : {A : Type 0} (x : A) (xs ys : List A) → In x xs → In x (xs ++ ys)
in_first x [] ys i = absurd i
in_first x (y ∷ xs) ys (inl e) = inl e
in_first x (y ∷ xs) ys (inr i) = inr (in_first x xs ys i)

-- What is in some of a list is in it.
pub in_some : {A : Type 0} (x : A) (xs ys : List A) → Among xs ys → In x xs → In x ys
in_some x [] ys a i = absurd i
in_some x (y ∷ xs) [] a i = absurd a
in_some x (y ∷ xs) (z ∷ ys) (inl a) (inl i) = inl (i ∙ a.0)
in_some x (y ∷ xs) (z ∷ ys) (inl a) (inr i) = inr (in_some x xs ys a.1 i)
in_some x (y ∷ xs) (z ∷ ys) (inr a) i = inr (in_some x (y ∷ xs) ys a i)

pub alone : {A : Type 0} (x y : A) → In y (x ∷ []) → y ≡ x
alone x y (inl e) = e
alone x y (inr e) = absurd e

-- A refusal by any name is one.
refusal : (limit : ℕ) (o : Option Tree) (e : Error) → IsRefusal limit o e → UnlessRefused o (λ bytes. limit < length (shortest_frame bytes))
refusal limit None e k = tt
refusal limit (Some t) e k = k.1

-- A line that failed was a fault, or no call was left.
one_failed : (old new : LineState) → Failed old new → FewBroke old new 1
one_failed old new (inl m) = inl (omega (arith, m))
one_failed old new (inr z) = inr z

module _ {V : Type 0} (limit : ℕ) (writes : V → Option Tree) (valid : V → Type 0) where
  -- no message
  pub says_none : (old : SenderPlace) → SaysAll limit writes valid old old [] []
  says_none old = none_sent limit old.sentinel writes valid old.clean old.line

  -- messages, and then messages
  pub says_then : (old mid new : SenderPlace) (vs ws : List V) (fs gs : List Fate) → mid.sentinel ≡ old.sentinel → SaysAll limit writes valid old mid vs fs → SaysAll limit writes valid mid new ws gs → SaysAll limit writes valid old new (vs ++ ws) (fs ++ gs)
  says_then old mid new vs ws fs gs same p k =
      sends_then limit old.sentinel writes valid old.clean mid.clean new.clean old.line mid.line new.line vs ws fs gs p (subst (λ z. SendsAll limit z writes valid mid.clean new.clean mid.line new.line ws gs) same k)

  -- which send of a message it was
  said_of : (v : V) (old new : SenderPlace) (r : Result (Unit {0}) SendError) (x : Send) → IsSent limit (writes v) r x → HasSent limit (writes v) (valid v) old new r → old.line.faults ≤ new.line.faults
      → IsSendOf limit (writes v) (valid v) x × FewBroke old.line new.line (broke x) × (new.line.faults ≤ old.line.faults + broke x)
  said_of v old new r (completed t) i h l =
      let k = rw i.0 at h in ((i.1, k.valid), inl (omega (arith, l)), omega (arith, k.done))
  said_of v old new r refused i h l =
      let k = rw i.1 at h in
      let same = ap (λ z. z.faults) k.unchanged in
      (refusal limit (writes v) i.0 i.2, inl (omega (arith, l)), omega (arith, same))
  said_of v old new r (broken t n) i h l =
      let k = rw i.0 at h in ((i.1, k.valid), one_failed old.line new.line k.line, h.once)

  -- one message
  pub says_one : (v : V) (old new : SenderPlace) (r : Result (Unit {0}) SendError) → HasSent limit (writes v) (valid v) old new r → (f : Fate) × SaysAll limit writes valid old new (v ∷ []) (f ∷ [])
  says_one v old new r h =
      let x = h.send in
      let o = said_of v old new r x h.answered h h.wrote.more in
      let line = sym (append-nil (written old.sentinel old.clean x)) in (
        fate_of x,
        record {
          sends = x ∷ [];
          are = (h.is, tt);
          of = (o.0, tt);
          fated = refl;
          did = subst (λ b. Did old.line new.line b (broke x + 0)) line (record {
            wrote = h.wrote;
            few = subst (FewBroke old.line new.line) (let e : broke x ≡ broke x + 0 = omega arith in e) o.1;
            once = omega (arith, o.2);
            calls = h.calls;
          });
          few = calls_of_one (limit + 2) old.line.calls_left new.line.calls_left v h.few;
          then = h.then;
        },
      )

  -- Whether it was sent whole is told alike by the result and by what became of it.
  told_alike : (v : V) (r : Result (Unit {0}) SendError) (x : Send) (unsent : Bool) → IsSent limit (writes v) r x → unsent_by_result unsent r ≡ unsent_by_fate unsent (fate_of x)
  told_alike v r (completed t) unsent i = rw i.0 refl
  told_alike v r refused unsent i = rw i.1 refl
  told_alike v r (broken t k) unsent i = rw i.0 refl

  -- so that is how one message is told
  pub told_of : (v : V) (old new : SenderPlace) (r : Result (Unit {0}) SendError) (h : HasSent limit (writes v) (valid v) old new r) (unsent : Bool) → unsent_by_result unsent r ≡ unsent_by_fate unsent (says_one v old new r h).0
  unfolding says_one
  told_of v old new r h unsent = told_alike v r h.send unsent h.answered

-- What is told of replies, and then of others.
unsent_then : (unsent : Bool) (fs gs : List Fate) → unsent_of unsent (fs ++ gs) ≡ unsent_of (unsent_of unsent fs) gs
unsent_then unsent [] gs = refl
unsent_then unsent (f ∷ fs) gs = unsent_then (unsent_by_fate unsent f) fs gs

-- Things one after another, and then others.
folds_then : {P A : Type 0} (R : P → A → P → Type 0) (p q r : P) (xs ys : List A) → FoldsTo R p xs q → FoldsTo R q ys r → FoldsTo R p (xs ++ ys) r
folds_then R p q r [] ys h k = subst (λ x. FoldsTo R x ys r) (sym h) k
folds_then R p q r (x ∷ xs) ys h k = (h.0, h.1, folds_then R h.0 q r xs ys h.2 k)

-- The requests among results one after the other.
pub requests_then : {V : Type 0} (xs ys : List (Answer V)) → requests_of (xs ++ ys) ≡ requests_of xs ++ requests_of ys
requests_then [] ys = refl
requests_then (Value v ∷ xs) ys = ap (λ l. v ∷ l) (requests_then xs ys)
requests_then (Damaged ∷ xs) ys = requests_then xs ys
requests_then (TooLong ∷ xs) ys = requests_then xs ys
requests_then (Cut ∷ xs) ys = requests_then xs ys

pub which : {A : Type 0} {x y : A} → Some x ≡ Some y → x ≡ y
which e = cc

module _ {Q R : Type 0} {equal : Q → Q → Bool} {passes : ℕ → ℕ → Option R} where
  -- Each number that is executed is above those before, and what is kept only rises.
  pub rises : {kept later : Option (Execution Q R)} {qs : List (ℕ × Q)} {log : List (Execution Q R)}
      {out : List (ℕ × R)} → ServesAll equal passes kept qs log out later
      → Rises (next_of kept) log × (next_of kept ≤ next_of later)
  rises no_request = (tt, omega arith)
  rises (request (greatest l) h) = rises h
  rises (request (known m l) h) = rises h
  rises (request (fresh says m l) h) = let r = rises h in ((l, r.0), omega (arith, l, r.1))

  -- Requests, and then requests.
  pub serves_then : {kept mid later : Option (Execution Q R)} {qs ps : List (ℕ × Q)}
      {log logs : List (Execution Q R)} {out says : List (ℕ × R)}
      → ServesAll equal passes kept qs log out mid → ServesAll equal passes mid ps logs says later
      → ServesAll equal passes kept (qs ++ ps) (log ++ logs) (out ++ says) later
  serves_then no_request k = k
  serves_then {logs = logs} {says = more}
      (request {first = first} {log = log} {says = says} {out = out} one h) k =
      rw (append_assoc first log logs, append_assoc says out more) (request one (serves_then h k))

  -- One request that isn't executed.
  knows : {kept later : Option (Execution Q R)} {n : ℕ} {q : Q} (out : List (ℕ × R))
      → n < no_call → n < next_of kept → again equal passes kept n q ≡ out → later ≡ kept
      → ServesAll equal passes kept ((n, q) ∷ []) [] out later
  knows {kept = kept} {n = n} {q = q} out m l is e =
      let says = again equal passes kept n q in
      rw (e, ← is, ← append-nil says)
      (request {q = (n, q)} {first = []} {log = []} {says = says} {out = []} (known m l) no_request)

  -- One by the greatest number.
  passes_by : {kept later : Option (Execution Q R)} {n : ℕ} {q : Q} → no_call ≤ n → later ≡ kept
      → ServesAll equal passes kept ((n, q) ∷ []) [] [] later
  passes_by {n = n} {q = q} l e =
      rw e (request {q = (n, q)} {first = []} {log = []} {says = []} {out = []} (greatest l) no_request)

module _ {A Q R : Type 0} (executes : A → Q → R → A → Type 0) (equal : Q → Q → Bool) (passes : ℕ → ℕ → Option R) (limit : ℕ) (form : WireForm (ℕ × R)) where
  -- what a service has
  abbrev state : A → Option (Execution Q R) → Bool → SenderPlace → ServiceState A Q R
  state a kept unsent sender = record { application = a; kept = kept; unsent = unsent; sender = sender }

  -- what such a service does
  abbrev Makes : A → A → Option (Execution Q R) → Option (Execution Q R) → Bool → Bool → SenderPlace → SenderPlace → List (ℕ × Q) → Type 0
  Makes old new kept later u v here there =
      Executes (serving executes equal passes) form limit (state old kept u here) (state new later v there)

  -- no request
  pub executes_none : (a : A) (kept : Option (Execution Q R)) (unsent : Bool) (place : SenderPlace) → Makes a a kept kept unsent unsent place place []
  executes_none a kept unsent place = record { log = []; out = []; fates = []; served = no_request; rises = tt; ran = refl; replied = says_none limit form.writes form.valid place; sentinel = refl; told = refl }

  -- requests, and then requests
  pub executes_then : (a b c : A) (kept mid later : Option (Execution Q R)) (u v w : Bool) (here there end : SenderPlace) (qs ps : List (ℕ × Q))
      → Makes a b kept mid u v here there qs → Makes b c mid later v w there end ps → Makes a c kept later u w here end (qs ++ ps)
  executes_then a b c kept mid later u v w here there end qs ps p q =
      let served = serves_then p.served q.served in record {
        log = p.log ++ q.log;
        out = p.out ++ q.out;
        fates = p.fates ++ q.fates;
        served = served;
        rises = (rises served).0;
        ran = folds_then (Runs executes) a b c p.log q.log p.ran q.ran;
        replied = says_then limit form.writes form.valid here there end p.out q.out p.fates q.fates p.sentinel p.replied q.replied;
        sentinel = q.sentinel ∙ p.sentinel;
        told = q.told ∙ ap (λ z. unsent_of z q.fates) p.told ∙ sym (unsent_then u p.fates q.fates);
      }

  -- the kept reply, as what is replied
  abbrev replies : Execution Q R → List (ℕ × R)
  replies k = (k.number, k.says) ∷ []

  -- it is said again to what is the same
  said_again : (k : Execution Q R) (n : ℕ) (q : Q) → k.number ≡ n → equal k.asks q ≡ true → again equal passes (Some k) n q ≡ replies k
  said_again k n q e alike =
      ap (λ b. cond b (cond (equal k.asks q) (replies k) (notices (passes n k.number))) (notices (passes n k.number))) (eq-eqb k.number n e)
      ∙ ap (λ b. cond b (replies k) (notices (passes n k.number))) alike

  -- to another request it isn't
  not_again : (k : Execution Q R) (n : ℕ) (q : Q) → equal k.asks q ≡ false → again equal passes (Some k) n q ≡ notices (passes n k.number)
  not_again k n q differs = by (eqb k.number n)
    where
      by : (b : Bool) → cond b (cond (equal k.asks q) (replies k) (notices (passes n k.number))) (notices (passes n k.number)) ≡ notices (passes n k.number)
      by true = ap (λ b. cond b (replies k) (notices (passes n k.number))) differs
      by false = refl

  -- nor to a lower number
  passed : (k : Execution Q R) (n : ℕ) (q : Q) → n < k.number → again equal passes (Some k) n q ≡ notices (passes n k.number)
  passed k n q l = by (eqb k.number n) refl
    where
      by : (b : Bool) → eqb k.number n ≡ b → cond b (cond (equal k.asks q) (replies k) (notices (passes n k.number))) (notices (passes n k.number)) ≡ notices (passes n k.number)
      by true e = absurd (let d = eqb-true k.number n e in omega (arith, d, l))
      by false e = refl

  -- one request, for which this was said
  one_said : (old new : A) (kept later : Option (Execution Q R)) (u v : Bool)
      (here there : SenderPlace) (n : ℕ) (q : Q) (p : ℕ × R) (log : List (Execution Q R))
      (x : Result (Unit {0}) SendError)
      → HasSent limit (form.writes p) (form.valid p) here there x
      → ServesAll equal passes kept ((n, q) ∷ []) log (p ∷ []) later
      → FoldsTo (Runs executes) old log new → v ≡ unsent_by_result u x
      → Makes old new kept later u v here there ((n, q) ∷ [])
  one_said old new kept later u v here there n q p log x h served ran t =
      let one = says_one limit form.writes form.valid p here there x h in
      record {
        log = log;
        out = p ∷ [];
        fates = one.0 ∷ [];
        served = served;
        rises = (rises served).0;
        ran = ran;
        replied = one.1;
        sentinel = h.sentinel;
        told = t ∙ told_of limit form.writes form.valid p here there x h u;
      }

  -- a request for which nothing was done, and of which this was said
  unserved : (old new : A) (kept later : Option (Execution Q R)) (u v : Bool) (here there : SenderPlace) (n : ℕ) (q : Q) (said : Option R) (same : Type 0) (r : Option (Result (Unit {0}) SendError))
      → n < no_call → n < next_of kept → again equal passes kept n q ≡ notices said → later ≡ kept → new ≡ old → (same → there ≡ here)
      → IsPassed said same (λ p x. HasSent limit (form.writes p) (form.valid p) here there x) r → v ≡ unsent_by u (Passed r)
      → Makes old new kept later u v here there ((n, q) ∷ [])
  unserved old new kept later u v here there n q None same None m l is e stays unsaid z t =
      let stands = unsaid z in record {
        log = [];
        out = [];
        fates = [];
        served = knows [] m l is e;
        rises = tt;
        ran = sym stays;
        replied = subst (λ z. SaysAll limit form.writes form.valid here z [] []) (sym stands) (says_none limit form.writes form.valid here);
        sentinel = ap (λ z. z.sentinel) stands;
        told = t;
      }
  unserved old new kept later u v here there n q None same (Some r) m l is e stays unsaid z t = absurd z
  unserved old new kept later u v here there n q (Some said) same None m l is e stays unsaid z t = absurd z
  unserved old new kept later u v here there n q (Some said) same (Some r) m l is e stays unsaid z t =
      one_said old new kept later u v here there n q (no_call, said) [] r z
      (knows ((no_call, said) ∷ []) m l is e) (sym stays) t

  -- a request that is no call's
  not_called : (old new : A) (kept later : Option (Execution Q R)) (u v : Bool) (here there : SenderPlace) (n : ℕ) (q : Q)
      → no_call ≤ n → later ≡ kept → new ≡ old → there ≡ here → v ≡ u → Makes old new kept later u v here there ((n, q) ∷ [])
  not_called old new kept later u v here there n q l e stays stands t = record {
    log = [];
    out = [];
    fates = [];
    served = passes_by l e;
    rises = tt;
    ran = sym stays;
    replied = subst (λ z. SaysAll limit form.writes form.valid here z [] []) (sym stands) (says_none limit form.writes form.valid here);
    sentinel = ap (λ z. z.sentinel) stands;
    told = t;
  }

  -- what one request did
  one_served : (old new : A) (kept later : Option (Execution Q R)) (u v : Bool) (here there : SenderPlace) (n : ℕ) (q : Q) (same : Type 0) (r : Served) → (same → there ≡ here)
      → IsServed executes equal (old, kept) (new, later) (n, q) r → IsReplied passes same (λ p x. HasSent limit (form.writes p) (form.valid p) here there x) later n r → v ≡ unsent_by u r
      → Makes old new kept later u v here there ((n, q) ∷ [])
  one_served old new kept later u v here there n q same (Executed x) unsaid (m, l, says, ran, e) (p, f, said) t =
      let is : p ≡ call n q says = which (sym f ∙ e) in
      let said_so = subst (λ (v : Execution Q R). HasSent limit (form.writes (v.number, v.says)) (form.valid (v.number, v.says)) here there x) is said in
      let served = request {q = (n, q)} {first = call n q says ∷ []} {log = []}
      {says = (n, says) ∷ []} {out = []} (fresh says m l) no_request in
      one_said old new kept later u v here there n q (n, says) (call n q says ∷ []) x said_so
      (rw e served) (new, ran, refl) t
  one_served old new kept later u v here there n q same (Again x) unsaid ((m, k, is, numbered, alike), e, stays) (p, f, said) t =
      let kept_is : p ≡ k = which (sym f ∙ e ∙ is) in
      let said_so = subst (λ (v : Execution Q R). HasSent limit (form.writes (v.number, v.says)) (form.valid (v.number, v.says)) here there x) kept_is said in
      let d : next_of kept ≡ k.number + 1 = ap next_of is in
      let same = ap (λ o. again equal passes o n q) is ∙ said_again k n q numbered alike in
      one_said old new kept later u v here there n q (k.number, k.says) [] x said_so
      (knows ((k.number, k.says) ∷ []) m (omega (arith, d, numbered)) same e) (sym stays) t
  one_served old new kept later u v here there n q same (Other r) unsaid ((m, k, is, numbered, differs), e, stays) (p, f, z) t =
      let kept_is : p ≡ k = which (sym f ∙ e ∙ is) in
      unserved old new kept later u v here there n q (passes n k.number) same r m (let d : next_of kept ≡ k.number + 1 = ap next_of is in omega (arith, d, numbered)) (ap (λ o. again equal passes o n q) is ∙ not_again k n q differs) e stays unsaid
      (subst (λ (y : Execution Q R). IsPassed (passes n y.number) same (λ p x. HasSent limit (form.writes p) (form.valid p) here there x) r) kept_is z) (t ∙ either u r)
    where
      either : (u : Bool) (r : Option (Result (Unit {0}) SendError)) → unsent_by u (Other r) ≡ unsent_by u (Passed r)
      either u None = refl
      either u (Some x) = refl
  one_served old new kept later u v here there n q same (Passed r) unsaid (m, k, is, l, e, stays) (p, f, z) t =
      let kept_is : p ≡ k = which (sym f ∙ e ∙ is) in
      unserved old new kept later u v here there n q (passes n k.number) same r m (let d : next_of kept ≡ k.number + 1 = ap next_of is in omega (arith, d, l)) (ap (λ o. again equal passes o n q) is ∙ passed k n q l) e stays unsaid
      (subst (λ (y : Execution Q R). IsPassed (passes n y.number) same (λ p x. HasSent limit (form.writes p) (form.valid p) here there x) r) kept_is z) t
  one_served old new kept later u v here there n q same NoCall unsaid (l, e, stays) z t =
      not_called old new kept later u v here there n q l e stays (unsaid z) t

  -- nothing was served
  stays_as : (old new : A) (kept later : Option (Execution Q R)) (u v : Bool) (here there : SenderPlace) → new ≡ old → later ≡ kept → v ≡ u → there ≡ here → Makes old new kept later u v here there []
  stays_as old new kept later u v here there e f t g =
      subst (λ a. Makes old a kept later u v here there []) (sym e)
      (subst (λ k. Makes old old kept k u v here there []) (sym f)
      (subst (λ x. Makes old old kept kept u x here there []) (sym t)
      (subst (λ z. Makes old old kept kept u u here z []) (sym g) (executes_none old kept u here))))

  -- one answer of a line
  pub executes_one : (old new : A) (kept later : Option (Execution Q R)) (u v : Bool) (here there : SenderPlace) (same : Type 0) (answer : Answer (ℕ × Q)) → (same → there ≡ here)
      → TakesAnswer (serving executes equal passes) (state old kept u here) (state new later v there) same (λ p x. HasSent limit (form.writes p) (form.valid p) here there x) answer
      → Makes old new kept later u v here there (requests_of (answer ∷ []))
  executes_one old new kept later u v here there same (Value p) unsaid (r, served, replied, t) = one_served old new kept later u v here there p.0 p.1 same r unsaid served replied t
  executes_one old new kept later u v here there same Damaged unsaid (e, f, g, t) = stays_as old new kept later u v here there e f t (unsaid g)
  executes_one old new kept later u v here there same TooLong unsaid (e, f, g, t) = stays_as old new kept later u v here there e f t (unsaid g)
  executes_one old new kept later u v here there same Cut unsaid (e, f, g, t) = stays_as old new kept later u v here there e f t (unsaid g)

-- what a service must meet as a hearer
pub service_laws : {A W Q R : Type 0} {N : ℕ} (rules : Serving A Q R) (line : W → LineState) (form : WireForm (ℕ × R))
    → HearerLaws {H = Service A W Q R N} (ServiceHears rules line form)
service_laws {A} {W} {Q} {R} {N} rules line form = record {
  none = λ h. executes_none rules.executes rules.equal rules.passes N form h.application (kept_of h.server) h.unsent (sender_place line (sender_of h.server));
  more = λ h k m a b p q.
      subst (λ l. Executes rules form N (service_state line h) (service_state line m) l)
      (sym (requests_then a b)) (executes_then rules.executes rules.equal rules.passes N form _ _ _ _ _ _ _ _ _ _ _ _ (requests_of a) (requests_of b) p q);
}
